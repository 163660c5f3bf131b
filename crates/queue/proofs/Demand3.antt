-- Demand 3 over full queues, and that the granted takes are the marks: the proofs of `specs/Demand3`. Assumes nothing.
use mathlib.Core.List.{[]}
use mathlib.Core.Path.{sym, subst}
use Prim.Native.Nat.{ℕ, ◌<◌}
use Rattle.laws.specs.Lists.{keep}
use Rattle.queue.specs.Queue.{settled, grants}
use Rattle.queue.specs.Feeder.{Line, start, Feeder, fresh, run}
use Rattle.queue.specs.Demand3.{Faithful, Demand3, Strong, Runs, Marks}
use Rattle.queue.proofs.Good.{good_empty}
use Rattle.queue.proofs.Changes.{after_calls}
use Rattle.queue.proofs.Agree.{Sound, one_stamp, one_order}
use Rattle.queue.proofs.Places.{never_more}
use Rattle.queue.proofs.Cleared.{all_settled, exactly}
use Rattle.queue.proofs.Marks.{grants-marked}
use Rattle.queue.proofs.Holding.{Kept, kept_change, kept-empty, never_more_hold}
use Rattle.queue.proofs.Runs.{ran}

demand3 : (L : Line) (s : Feeder) → ((p : ℕ) → p < L.posts → Kept (start L p) (s p)) → Faithful L s → Demand3 L s
demand3 L s k f =
    let w : Sound L s = record { good = λ p l. (k p l).good; faithful = f } in
    record {
      one_order = one_order L s w;
      never_more = never_more L s w;
      never_more_hold = never_more_hold L s (λ p l. (k p l).balanced) (never_more L s w);
      all_settled = all_settled L s w;
      exactly = exactly L s w;
      senders = λ q l m i. ((w.good q l).sorted.proper m i).sender;
      one_stamp = one_stamp L s w;
    }

pub strong : Strong
strong L few s r f =
    demand3 L s (λ p l.
    let st = start L p in
    subst (Kept st) (sym (r p l).1) (after_calls st (Kept st) (kept_change st) (r p l).0 [] (kept-empty st (record { few = few; mine = l }))))
    f

pub runs : Runs
runs L few f acts = let r = ran L few f acts in demand3 L (run L fresh acts) r.kept r.faithful

pub marks : Marks
unfolding grants settled keep
marks st few mine calls = grants-marked st calls [] (good_empty st (record { few = few; mine = mine })) (λ m i. absurd i)
