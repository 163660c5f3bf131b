-- For each public function: two results that meet its promise are equal, and so are the lent bytes after them.
use Rattle.std.specs.Prelude.{Result, Bool, List, ◌≡◌, ℕ, ℤ}
use Rattle.laws.specs.One.{One, OneAfter}
use Rattle.frame.specs.declared.refusal.Refusal.{Refusal}
use Rattle.calls.specs.{declared.Start.{Start}, declared.Own.{Own}}
use Rattle.post.specs.declared.{Post.{Post}, Started.{Started}, Answer.{Answer}, Missing.{Missing}}
use Rattle.post.specs.{Sound.{sound}, Calls.{start_told, started, Gives, spoke, received, value_told, valued, missing_told, missed}}

pub record Unique : Type 0 where
  pub start : (st : Start) → One Started (λ r. start_told r ≡ started st)
  pub sound? : (p : Post) → One Bool (λ r. r ≡ sound p)
  -- of a take and of a return
  pub own : (o : Own) (p : Post) (lent : List ℕ) → OneAfter Answer (Gives (spoke o p lent))
  pub receive : (p : Post) (s lent : List ℕ) → OneAfter Answer (Gives (received p s lent))
  pub value : (p : Post) → One (Result ℤ Refusal) (λ r. value_told r ≡ valued p)
  pub missing : (p : Post) → One (Result Missing Refusal) (λ r. missing_told r ≡ missed p)
