-- The own next stamp, one above the clock, is above every stamp that a sound record holds. Assumes nothing.
use Prim.Native.Nat.{ℕ, ◌+◌, ◌≤◌, ◌<◌}
use native.Mathlib.Omega.{arith}
use Rattle.laws.specs.Lists.{In}
use Rattle.frame.specs.declared.Message.{Message}
use Rattle.frame.specs.Message.{stamp_of, stamp}
use Rattle.post.specs.declared.Post.{Post}
use Rattle.post.specs.Record.{last_of, waiting_of}
use Rattle.post.proofs.Sound.Facts.{Sound}

module _ (p : Post) (s : Sound p) where
  pub last_below : (q : ℕ) → q < 16 → stamp_of (last_of p q) q < stamp_of (p.clock + 1) p.own
  last_below q l = let a = s.clock q l in omega arith

  -- a waiting message is at or below its sender's last
  pub waiting-last : (m : Message) → In m (waiting_of p) → stamp m ≤ stamp_of (last_of p m.sender) m.sender
  waiting-last m i = let a = (s.fair m i).high in omega arith

  pub waiting_below : (m : Message) → In m (waiting_of p) → stamp m < stamp_of (p.clock + 1) p.own
  waiting_below m i =
      let a = waiting-last m i in
      let b = (s.fair m i).sender in
      let d = last_below m.sender (omega arith) in
      omega arith
