-- Lists: what is in them, what passes a test, what rises by a number, where one begins another.
use Rattle.std.specs.Prelude.{◌≡◌, ◌⊎◌, Bool, true, cond, ◌&&◌, List, [], ◌∷◌, ◌++◌, ℕ, ◌<◌, max, leb, ltb, length}

module _ {A : Type 0} where
  abbrev pub In : A → List A → Type 0
  In a [] = ⊥
  In a (x ∷ xs) = (a ≡ x) ⊎ In a xs

  -- those that pass a test, in their order, and how many there are
  unfoldable pub keep : (A → Bool) → List A → List A
  keep f [] = []
  keep f (x ∷ xs) = cond (f x) (x ∷ keep f xs) (keep f xs)

  abbrev pub many : (A → Bool) → List A → ℕ
  many f l = length (keep f l)

  -- every one passes
  unfoldable pub all : (A → Bool) → List A → Bool
  all f [] = true
  all f (x ∷ xs) = f x && all f xs

  -- the last; d where there is none
  unfoldable pub final : List A → A → A
  final [] d = d
  final (x ∷ xs) d = final xs x

  -- one list begins another
  abbrev pub Begins : List A → List A → Type 0
  Begins s t = (r : List A) × (s ++ r ≡ t)

module _ {A : Type 0} (key : A → ℕ) where
  -- each key is below all that follow
  abbrev pub Rising : List A → Type 0
  Rising [] = Unit
  Rising (x ∷ xs) = ((y : A) → In y xs → key x < key y) × Rising xs

  -- the same as a test, and the first key is above t
  unfoldable pub rises : ℕ → List A → Bool
  rises t [] = true
  rises t (x ∷ xs) = ltb t (key x) && rises (key x) xs

  -- those before the first whose key is above t
  unfoldable pub leading : ℕ → List A → List A
  leading t [] = []
  leading t (x ∷ xs) = cond (ltb t (key x)) [] (x ∷ leading t xs)

  -- a list with one more, before the first whose key is above it
  unfoldable pub put : A → List A → List A
  put a [] = a ∷ []
  put a (x ∷ xs) = cond (ltb (key a) (key x)) (a ∷ x ∷ xs) (x ∷ put a xs)

  -- how many have a key up to that of a
  unfoldable pub upto : List A → A → ℕ
  upto l a = many (λ x. leb (key x) (key a)) l

  -- the greatest key; 0 where there is none
  unfoldable pub top : List A → ℕ
  top [] = 0
  top (x ∷ xs) = max (key x) (top xs)
