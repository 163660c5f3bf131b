-- Stamps are ordered by counter, then by post number, and no two senders share one. Assumes nothing.
use Prim.Native.Nat.{◌<◌}
use mathlib.Core.Path.{◌≡◌}
use mathlib.Core.Logic.{◌⊎◌, inl, inr, ⊎_elim, ◌↔◌}
use native.Mathlib.Omega.{arith}
use Rattle.laws.proofs.Tests.{leb-total}
use Rattle.frame.specs.declared.Message.{Message}
use Rattle.frame.specs.Message.{stamp}

pub stamp-order : (a b : Message) → a.sender < 256 → b.sender < 256
    → (stamp a < stamp b) ↔ ((a.counter < b.counter) ⊎ ((a.counter ≡ b.counter) × (a.sender < b.sender)))
stamp-order a b la lb = (
  λ h.
      ⊎_elim
      (λ l. inr (⊎_elim (λ k. omega arith) (λ k. absurd (omega arith)) (leb-total a.counter b.counter)))
      inl
      (leb-total b.counter a.counter),
  λ h. ⊎_elim (λ l. omega arith) (λ p. let e = p.0 in let l = p.1 in omega arith) h,
)

pub stamp_own : (a b : Message) → a.sender < 256 → b.sender < 256 → stamp a ≡ stamp b → (a.counter ≡ b.counter) × (a.sender ≡ b.sender)
stamp_own a b la lb e = (omega arith, omega arith)
