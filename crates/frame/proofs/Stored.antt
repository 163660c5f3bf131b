-- The six fields stored one after the other are the frame, and what a writing comes to by its tests. Assumes nothing.
use Prim.Native.Nat.{ℕ, ◌≤◌, ◌<◌}
use mathlib.Core.Path.{◌≡◌, refl, ◌∙◌, sym}
use mathlib.Core.List.{List, [], ◌∷◌, ◌++◌}
use native.Mathlib.Omega.{arith}
use borrow.Author.Tests.{lt-ltb, le-ltb, ltb-false, eq-eqb, ne_eqb}
use lib.Dec.{ltb}
use lib.ListN.{length, drop}
use mathlib.Core.Bool.{false}
use Rattle.frame.specs.declared.Message.{Message}
use Rattle.laws.specs.Ladder.{refusal}
use Rattle.laws.proofs.Ladders.{on, off, quiet}
use Rattle.fields.specs.Field.{with_field}
use Rattle.fields.proofs.Rows.{stores, stores_row}
use Rattle.frame.specs.declared.refusal.Refusal.{Refusal}
use Rattle.frame.specs.Refusal.{number}
use Rattle.frame.specs.Frame.{mark, widths, size, frame, message_rows, write_rows, write_no, bytes_after, Written}
use Rattle.frame.proofs.Refusals.{not_zero}

-- six stores one after the other
pub stored : (b₀ : List ℕ) (f : ℕ) (m : Message) {b₁ b₂ b₃ b₄ b₅ b₆ : List ℕ}
    → b₁ ≡ with_field b₀ 0 3 mark → b₂ ≡ with_field b₁ 3 2 1 → b₃ ≡ with_field b₂ 5 1 f
    → b₄ ≡ with_field b₃ 6 1 m.kind → b₅ ≡ with_field b₄ 7 1 m.sender → b₆ ≡ with_field b₅ 8 4 m.counter
    → size ≤ length b₀ → b₆ ≡ frame f m ++ drop size b₀
unfolding frame
stored b₀ f m {b₆ = b₆} e₁ e₂ e₃ e₄ e₅ e₆ h =
    let vs : List ℕ = mark ∷ 1 ∷ f ∷ m.kind ∷ m.sender ∷ m.counter ∷ [] in
    let e : b₆ ≡ stores b₀ 0 widths vs = cc in
    e ∙ stores_row b₀ 0 widths vs tt refl h

-- where no row refuses a writing there is room
pub room : (n : ℕ) (m : Message) → refusal (write_rows n m) ≡ 0 → size ≤ n
unfolding write_rows
room n m e = ltb-false n size (quiet (write_rows n m) tt e).0

module _ (old : List ℕ) (f : ℕ) (m : Message) where
  pub kept : (n : ℕ) → n ≡ write_no old m → (n ≡ 0 → ⊥) → Written old old f m n
  unfolding bytes_after
  kept n e z = record { gives = e; leaves = off _ _ _ (ne_eqb (write_no old m) 0 (λ q. z (e ∙ q))) refl }

  pub short : length old < size → Written old old f m 2
  unfolding write_rows
  short h = kept 2 (on _ _ _ (lt-ltb _ _ h) refl) (λ e. absurd (omega arith))

  module _ (h : size ≤ length old) where
    roomy : ltb (length old) size ≡ false
    roomy = le-ltb _ _ h

    pub bad_message : (r : Refusal) → number r ≡ refusal (message_rows m) → Written old old f m (number r)
    unfolding write_rows
    bad_message r e = kept (number r) (off _ _ _ roomy e) (not_zero r)

    pub written : {new : List ℕ} → 0 ≡ refusal (message_rows m) → new ≡ frame f m ++ drop size old → Written old new f m 0
    unfolding write_rows bytes_after
    written e p =
        let z : 0 ≡ write_no old m = off _ _ _ roomy e in
        record { gives = z; leaves = on _ _ _ (eq-eqb (write_no old m) 0 (sym z)) p }
