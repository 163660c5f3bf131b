-- What a session writes is what its bytes write one by one. Assumes nothing.
use mathlib.Core.Path.{◌≡◌, ap, ◌∙◌, sym}
use mathlib.Core.Logic.{⊎_elim}
use mathlib.Core.List.{List, ◌++◌}
use Prim.Native.Nat.{ℕ, ◌-◌}
use native.Mathlib.Omega.{arith}
use lib.ListN.{take, drop}
use Rattle.bench.specs.declared.Bench.{Bench}
use Rattle.bench.specs.Bench.{feeding}
use Rattle.bench.specs.Session.{Session, fed, ended}
use Rattle.bench.proofs.Running.{runs, fed_runs, finish_runs, over_ends, over_runs}

pub session_runs : {b : Bench} {input written : List ℕ} → Session b input written → written ≡ runs b input
unfolding runs
session_runs (fed b piece rest out written h s) =
    let f = feeding b piece 0 0 out in
    ap (λ (l : List ℕ). take f.fed.written f.bytes ++ l) (session_runs s)
    ∙ ap (λ (k : ℕ). take f.fed.written f.bytes ++ runs f.bench (drop k piece ++ rest)) (let e : f.fed.used ≡ f.fed.used - 0 = omega arith in e)
    ∙ fed_runs b piece rest 0 0 out (omega arith)
session_runs (ended b rest out h e) =
    finish_runs b out h
    ∙ ⊎_elim (λ n. ap (runs b) (sym n)) (λ o. over_ends b o ∙ sym (over_runs b rest o)) e
