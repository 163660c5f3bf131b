-- A text put into a buffer from a place on.
use Rattle.std.proofs.lemmas.List.Edits.{sets}
use Rattle.std.specs.Prelude.{cond, List, [], ◌≡◌, ℕ, ◌+◌, ◌≤◌, leb, length}

-- the next place, and the bytes then, as many as before
pub record Puts (old new : List ℕ) (at : ℕ) (text : List ℕ) (next : ℕ) : Type 0 where
  pub next_place : next ≡ at + length text
  pub bytes : new ≡ sets old at text
  pub long : length new ≡ length old

-- what is put of a text: all of it where it fits, else nothing
unfoldable pub fitting : List ℕ → ℕ → List ℕ → List ℕ
fitting old at text = cond (leb (at + length text) (length old)) text []

-- texts put one after the other are one text where all of it fits; where it does not, some of them may be put
pub record Lays (old new : List ℕ) (at : ℕ) (text : List ℕ) (next : ℕ) : Type 0 where
  pub puts : at + length text ≤ length old → Puts old new at text next
  pub long : length new ≡ length old
