-- For each public function: two results that meet its promise are equal, and so are the bench and the lent bytes after them.
use Rattle.std.specs.Prelude.{Option, List, ◌≡◌, ℕ}
use Rattle.laws.specs.One.{One, OneAfter}
use Rattle.bench.specs.{declared.Bench.{Bench}, declared.Fed.{Fed}, Bench.{unfed, feeding, Feeds, finished, finished_bytes, Ends}}

pub record Unique : Type 0 where
  pub new : One Bench (λ r. r ≡ unfed)
  pub feed : (b : Bench) (input out : List ℕ) → OneAfter (Bench × Fed) (λ r after. Feeds (feeding b input 0 0 out) r.0 r.1 after)
  pub finish : (b : Bench) (out : List ℕ) → OneAfter (Option ℕ) (Ends (finished b out) (finished_bytes b out))
