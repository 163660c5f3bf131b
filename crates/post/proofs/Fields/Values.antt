-- In a sound record the counts are small, so the value lies within 2 ^ 37 of zero on either side. Assumes nothing.
use Prim.Native.Nat.{◌+◌, ◌^◌, ◌≤◌, ◌<◌}
use native.Mathlib.Omega.{arith}
use lib.Dec.{T}
use lib.IntN.{nat_abs}
use lib.Ieee.Bits.{is_true}
use Rattle.laws.proofs.IntLaws.{minus_near}
use Rattle.laws.proofs.SumLaws.{sum_to_most}
use Rattle.frame.specs.Message.{last_counter}
use Rattle.post.specs.declared.Post.{Post}
use Rattle.post.specs.Record.{last_of}
use Rattle.post.specs.Sound.{sound}
use Rattle.post.specs.Calls.{valued}
use Rattle.post.proofs.Sound.Facts.{Sound, sound_has}
use Rattle.post.proofs.Fields.Shape.{Width, last_width}

module _ (p : Post) (s : Sound p) (w : Width p) where
  -- 16 last counters of four bytes
  pub counts_small : p.takes + p.returns + p.waits < 2 ^ 36
  counts_small = let b = sum_to_most 16 last_counter (last_of p) (last_width p s w) in omega arith

  pub takes_small : p.takes ≤ 2 ^ 36
  takes_small = let a = counts_small in omega arith

  pub returns_small : p.returns ≤ 2 ^ 36
  returns_small = let a = counts_small in omega arith

  pub room_small : p.places + p.returns ≤ 2 ^ 37
  room_small = let a = counts_small in omega arith

pub value_near : (p : Post) → Width p → T (sound p) → nat_abs (valued p).value ≤ 2 ^ 37
unfolding valued
value_near p w t =
    let s = sound_has p t in
    let a = takes_small p s w in
    rw (is_true (sound p) t) (minus_near (p.places + p.returns) p.takes (2 ^ 37) (room_small p s w) (omega arith))
