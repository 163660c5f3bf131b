-- A promise that leaves no choice: two results that meet it are equal, and so are the lent bytes after them.
use Rattle.std.specs.Prelude.{List, ◌≡◌, ℕ}

abbrev pub One : (A : Type 0) → (A → Type 0) → Type 0
One A promise = (a b : A) → promise a → promise b → a ≡ b

abbrev pub OneAfter : (A : Type 0) → (A → List ℕ → Type 0) → Type 0
OneAfter A promise = (a b : A) (x y : List ℕ) → promise a x → promise b y → (a ≡ b) × (x ≡ y)
