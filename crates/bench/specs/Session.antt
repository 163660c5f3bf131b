-- Feeding a bench piece by piece until all is used or it is over, and finishing it. What is stated of it; `proofs/WholeNights` proves it.
use Rattle.std.specs.Prelude.{true, false, unwrap_or, List, [], ◌∷◌, ◌++◌, ◌≡◌, ◌⊎◌, ℕ, ◌≤◌, length, take, drop}
use Rattle.bench.specs.{declared.Bench.{Bench}, Bench.{is_over, unfed, feeding, finished, finished_bytes}, Output.{output}}

-- A bench with the input that is left, and what is written from then on. A piece of the input is fed, with a buffer of at least 64 bytes;
-- at the end of the input, or once it is over, it is finished, with such a buffer.
pub data Session : Bench → List ℕ → List ℕ → Type 0 where
  fed : (b : Bench) (piece rest out written : List ℕ) → 64 ≤ length out
      → Session (feeding b piece 0 0 out).bench (drop (feeding b piece 0 0 out).fed.used piece ++ rest) written
      → Session b (piece ++ rest) (take (feeding b piece 0 0 out).fed.written (feeding b piece 0 0 out).bytes ++ written)
  ended : (b : Bench) (rest out : List ℕ) → 64 ≤ length out → (rest ≡ []) ⊎ (is_over b ≡ true) → Session b rest (take (unwrap_or (finished b out) 0) (finished_bytes b out))

-- however the input is cut into pieces, and whatever buffers of at least 64 bytes are lent, what a new bench writes is the output of the input
abbrev pub WholeNight : Type 0
WholeNight = (input written : List ℕ) → Session unfed input written → written ≡ output input

-- and every input has a session, which ends with its output
abbrev pub EveryNight : Type 0
EveryNight = (input : List ℕ) → Session unfed input (output input)

-- not over, a bench uses at least one byte of each piece
abbrev pub GoesOn : Type 0
GoesOn = (b : Bench) (x : ℕ) (xs out : List ℕ) → is_over b ≡ false → 64 ≤ length out → 1 ≤ (feeding b (x ∷ xs) 0 0 out).fed.used
