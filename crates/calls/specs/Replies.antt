-- The calls that are made of a post, and what they give back: the same of the short record and of the full queue.
use Rattle.std.specs.Prelude.{Bool, false, List, [], ◌∷◌, ℕ, ℤ}
use Rattle.calls.specs.declared.Own.{Own}

-- a call, with the frame that is handed in and the bytes that are lent
pub data Call : Type 0 where
  own_call : Own → List ℕ → Call
  receive_call : List ℕ → List ℕ → Call
  value_call missing_call : Call

-- what a take, a return or a receive tells, with the lent bytes after it
pub record Told : Type 0 where
  pub number : ℕ
  pub wrote : Bool
  pub granted : Bool
  pub lent : List ℕ

-- what a call gives back
pub data Reply : Type 0 where
  told : Told → Reply
  worth : (number : ℕ) (value : ℤ) → Reply
  lacking : (number set count : ℕ) → Reply

pub record Answer (S : Type 0) : Type 0 where
  pub next : S
  pub reply : Reply

-- nothing is written, and nothing granted
abbrev pub refusing : List ℕ → ℕ → Reply
refusing lent n = told (record { number = n; wrote = false; granted = false; lent = lent })

abbrev pub refused : {S : Type 0} → S → List ℕ → ℕ → Answer S
refused s lent n = record { next = s; reply = refusing lent n }

-- calls one after another: the state after them, and what each gives back
module _ {S : Type 0} (step : S → Call → Answer S) where
  unfoldable pub after : S → List Call → S
  after s [] = s
  after s (c ∷ calls) = after (step s c).next calls

  unfoldable pub replies : S → List Call → List Reply
  replies s [] = []
  replies s (c ∷ calls) = (step s c).reply ∷ replies (step s c).next calls
