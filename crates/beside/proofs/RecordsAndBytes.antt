-- Demand 3 over records and bytes: the proof of `specs/Records`. Assumes nothing.
use mathlib.Core.Path.{◌≡◌, ap}
use mathlib.Core.Logic.{⊎_elim}
use mathlib.Core.List.{List}
use Prim.Native.Nat.{ℕ, ◌<◌}
use native.Mathlib.Omega.{arith}
use lib.Dec.{eqb}
use lib.ListN.{length}
use Rattle.laws.specs.Below.{sum_to, one?, count_to}
use Rattle.laws.proofs.Tests.{leb-total}
use Rattle.laws.proofs.BelowLaws.{sum_to_cong}
use Rattle.queue.specs.Queue.{grants, phase}
use Rattle.queue.specs.Feeder.{Line, start, LineFits, Feeder, Act, fresh, run, granted, holding}
use Rattle.queue.specs.Demand3.{Demand3}
use Rattle.queue.proofs.Runs.{ran-fresh}
use Rattle.queue.proofs.Demand3.{strong, runs}
use Rattle.post.specs.declared.Post.{Post}
use Rattle.calls.proofs.Ranges.{Range, range_is}
use Rattle.beside.specs.Image.{image}
use Rattle.beside.specs.Records.{Boards, begun, run_boards, RecordsAndBytes}
use Rattle.beside.proofs.Boards.{Mirrors, mirrors_begun, matches_run}

module _ (L : Line) (fits : LineFits L) (acts : List Act) where
  abbrev boards : Boards
  boards = run_boards L (begun L) acts

  abbrev queues : Feeder
  queues = run L fresh acts

  range : (p : ℕ) → p < L.posts → Range (start L p)
  range p l = range_is (start L p) (fits p l)

  mirrors : (p : ℕ) → p < L.posts → Mirrors L p (boards p) (queues p)
  mirrors p l =
      let r = range p l in
      matches_run L fits r.feeder_high acts (begun L) fresh (ran-fresh L r.posts_high) (mirrors_begun L fits) p l

  -- with no post there is nothing to show
  queues_meet : Demand3 L queues
  queues_meet =
      ⊎_elim
      (λ z. strong L (omega arith) queues (λ p l. absurd (omega arith)) (λ p q l. absurd (omega arith)))
      (λ z. let r = range 0 z in runs L r.posts_high r.feeder_high acts)
      (leb-total L.posts 0)

  marks_sum : sum_to L.posts (λ p. (boards p).marks) ≡ sum_to L.posts (λ p. length (grants (start L p) (queues p)))
  marks_sum = sum_to_cong L.posts _ _ (λ p l. (mirrors p l).marks_is)

  held_sum : count_to L.posts (λ p. eqb (boards p).post.phase 3) ≡ count_to L.posts (λ p. eqb (phase (start L p) (queues p)) 3)
  unfolding image
  held_sum = sum_to_cong L.posts _ _ (λ p l. ap (λ (x : Post). one? (eqb x.phase 3)) (mirrors p l).post_is)

pub records_and_bytes : RecordsAndBytes
unfolding granted holding
records_and_bytes L fits acts =
    let at = mirrors L fits acts in
    let d = queues_meet L fits acts in
    let a = d.never_more in
    let b = d.never_more_hold in
    record {
      record_is = λ p l. (at p l).post_is;
      frames_are = λ p l. (at p l).wrote_is;
      marks_are = λ p l. (at p l).marks_is;
      demand3 = d;
      never_more = omega (arith, marks_sum L fits acts);
      never_more_hold = omega (arith, held_sum L fits acts);
    }
