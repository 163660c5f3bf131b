-- What `fpm_read` gives and leaves behind its four references: the parts of what reading gives.
use Rattle.std.specs.Prelude.{ℕ, ◌≡◌, List}
use Rattle.frame.specs.Frame.{read_frame}

pub record Read (s : List ℕ) (number feeder kind sender counter : ℕ) : Type 0 where
  pub gives : number ≡ (read_frame s).number
  pub feeder_left : feeder ≡ (read_frame s).feeder
  pub kind_left : kind ≡ (read_frame s).message.kind
  pub sender_left : sender ≡ (read_frame s).message.sender
  pub counter_left : counter ≡ (read_frame s).message.counter

-- two results that meet it are equal; of `fpm_write`, whose promise is frame writing's, `Unique` of the crate frame says so
abbrev pub ReadUnique : Type 0
ReadUnique = (s : List ℕ) (n f k p c n' f' k' p' c' : ℕ) → Read s n f k p c → Read s n' f' k' p' c' → (n ≡ n') × (f ≡ f') × (k ≡ k') × (p ≡ p') × (c ≡ c')
