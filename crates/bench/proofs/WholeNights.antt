-- What a session writes is the output of its input; and there is one for every input, since each piece uses a byte: the proofs of `specs/Session`.
-- Assumes nothing.
use mathlib.Core.Path.{◌≡◌, refl, ◌∙◌, subst}
use mathlib.Core.Logic.{inl, inr}
use mathlib.Core.Bool.{Bool, true, false}
use mathlib.Core.List.{List, [], ◌∷◌, ◌++◌, append-nil}
use Prim.Native.Nat.{ℕ, zero, suc, ◌≤◌}
use native.Mathlib.Omega.{arith}
use lib.ListN.{length, take, drop, replicate, length-drop}
use Rattle.bench.specs.declared.Bench.{Bench}
use Rattle.bench.specs.Bench.{is_over, unfed, feeding}
use Rattle.bench.specs.Session.{Session, fed, ended, WholeNight, EveryNight, GoesOn}
use Rattle.bench.proofs.Sessions.{session_runs}
use Rattle.bench.proofs.Running.{one_used}
use Rattle.bench.proofs.Reading.{unfed_runs}

pub whole_night : WholeNight
whole_night input written s = session_runs s ∙ unfed_runs input

pub goes_on : GoesOn
goes_on = one_used

-- every buffer has 64 bytes
abbrev buffer : List ℕ
buffer = replicate 64 0

abbrev Some : Bench → List ℕ → Type 0
Some b input = (written : List ℕ) × Session b input written

empty : (b : Bench) → Some b []
empty b = (_, ended b [] buffer (omega arith) (inl refl))

-- a piece that uses a byte leaves less
piece : (n : ℕ) → ((b : Bench) (input : List ℕ) → length input ≤ n → Some b input) → (b : Bench) (input : List ℕ) → length input ≤ suc n → Some b input
piece n shorter b [] h = empty b
piece n shorter b (x ∷ xs) h =
    go (is_over b) refl (λ e.
    let whole = feeding b (x ∷ xs) 0 0 buffer in
    let f = whole.fed in
    let u = one_used b x xs buffer e (omega arith) in
    let d = length-drop f.used (x ∷ xs) in
    let r = shorter whole.bench (drop f.used (x ∷ xs) ++ []) (rw (append-nil (drop f.used (x ∷ xs))) (omega arith)) in
    let written = take f.written whole.bytes ++ r.0 in
    (written, subst (λ (l : List ℕ). Session b l written) (append-nil (x ∷ xs)) (fed b (x ∷ xs) [] buffer r.0 (omega arith) r.1)))
  where
    go : (o : Bool) → is_over b ≡ o → (is_over b ≡ false → Some b (x ∷ xs)) → Some b (x ∷ xs)
    go true e r = (_, ended b (x ∷ xs) buffer (omega arith) (inr e))
    go false e r = r e

some : (n : ℕ) (b : Bench) (input : List ℕ) → length input ≤ n → Some b input
some zero b [] h = empty b
some zero b (x ∷ xs) h = absurd (omega arith)
some (suc n) b input h = piece n (some n) b input h

pub every-night : EveryNight
every-night input = let s = some (length input) unfed input (omega arith) in subst (Session unfed input) (whole_night input s.0 s.1) s.1
