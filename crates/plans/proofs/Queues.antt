-- A post with the short record and one with the full queue go in step: the record is the record of the queue. Assumes nothing.
use mathlib.Core.Path.{◌≡◌, refl, sym, subst}
use mathlib.Core.List.{List, []}
use Prim.Native.Nat.{ℕ}
use Rattle.calls.specs.declared.Start.{Start}
use Rattle.calls.specs.Replies.{Call}
use Rattle.post.specs.declared.Post.{Post}
use Rattle.queue.specs.Queue.{Queue}
use Rattle.queue.specs.Calls.{on_queue}
use Rattle.queue.proofs.Changes.{change}
use Rattle.queue.proofs.Fitting.{Fitting, CounterFits, fitting_change}
use Rattle.beside.specs.Image.{image}
use Rattle.beside.specs.Demand2.{Accepted}
use Rattle.beside.proofs.Starts.{started-image, started_fits}
use Rattle.beside.proofs.Demand2.{one_call}
use Rattle.plans.specs.Plan.{basic, Keeper, keeping, full}
use Rattle.plans.specs.Output.{output_over}
use Rattle.plans.proofs.InStep.{Together, InStep, same-output}

-- what the two posts of a start are to each other
pub record Recorded (st : Start) (p : Post) (k : Keeper) : Type 0 where
  pub queue : Queue
  pub keeps : k ≡ keeping st queue
  pub fitting : Fitting st queue
  pub image_is : p ≡ image st queue

recorded_call : (st : Start) → Accepted st → (p : Post) (k : Keeper) → Recorded st p k → (c : Call) → CounterFits c
    → Together (Recorded st) (basic.step p c) (full.step k c)
unfolding basic full
recorded_call st a p k r c f =
    let q = r.queue in
    let same = one_call st a q r.fitting c f in
    let q' = (on_queue st q c).next in
    let there : Together (Recorded st) (basic.step (image st q) c) (full.step (keeping st q) c) = record {
      next = record { queue = q'; keeps = refl; fitting = fitting_change st c q q' f (change st q c) r.fitting; image_is = same.next };
      reply = same.reply;
    } in
    subst (λ (x : Keeper). Together (Recorded st) (basic.step p c) (full.step x c)) (sym r.keeps)
    (subst (λ (x : Post). Together (Recorded st) (basic.step x c) (full.step (keeping st q) c)) (sym r.image_is) there)

recorded_phase : (st : Start) (p : Post) (k : Keeper) → Recorded st p k → basic.phase p ≡ full.phase k
unfolding basic full image
recorded_phase st p k r =
    subst (λ (x : Keeper). p.phase ≡ full.phase x) (sym r.keeps)
    (λ i. (r.image_is i).phase)

pub in_step : InStep basic full Recorded
unfolding basic full
in_step = record {
  begins = λ st a. record { queue = []; keeps = refl; fitting = started_fits st a; image_is = started-image st a };
  steps = recorded_call;
  phases = recorded_phase;
}

pub basic_is_full : (input : List ℕ) → output_over basic input ≡ output_over full input
basic_is_full = same-output basic full Recorded in_step
