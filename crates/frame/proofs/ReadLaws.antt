-- What reading gives, by the number that its tests come to. Assumes nothing.
use Prim.Native.Nat.{ℕ}
use borrow.Author.Tests.{ne_eqb}
use mathlib.Core.Path.{◌≡◌, refl, ◌∙◌, ap, ap₂, sym}
use mathlib.Core.List.{List}
use lib.ListN.{length}
use Rattle.std.specs.Prelude.{Ok, Err}
use Rattle.laws.specs.Ladder.{refusal}
use Rattle.laws.proofs.Ladders.{off, quiet, first_refuses, first_passes}
use Rattle.frame.specs.declared.{Fields.{Fields}, refusal.Refusal.{Refusal}}
use Rattle.frame.specs.Refusal.{number}
use Rattle.frame.specs.Frame.{fields_of, form_rows, message_rows, read_rows, reading, reading_told, read_frame}
use Rattle.frame.proofs.Refusals.{not_zero}

module _ (s : List ℕ) {f : Fields} (p : f ≡ fields_of s) where
  is_read : (n : ℕ) → n ≡ refusal (read_rows (length s) f) → reading n f ≡ read_frame s
  unfolding read_frame
  is_read n e = ap₂ reading (e ∙ ap (λ (x : Fields). refusal (read_rows (length s) x)) p) p

  refused : (r : Refusal) → number r ≡ refusal (read_rows (length s) f) → reading_told (Err r) ≡ read_frame s
  refused r e = off _ _ _ (ne_eqb (number r) 0 (not_zero r)) refl ∙ is_read (number r) e

  pub bad_form : (r : Refusal) → number r ≡ refusal (form_rows (length s) f) → reading_told (Err r) ≡ read_frame s
  unfolding read_rows
  bad_form r e = refused r (e ∙ first_refuses (form_rows (length s) f) (message_rows f.message) (λ z. not_zero r (e ∙ z)))

  module _ (good : 0 ≡ refusal (form_rows (length s) f)) where
    passes : refusal (message_rows f.message) ≡ refusal (read_rows (length s) f)
    unfolding form_rows read_rows
    passes = first_passes (form_rows (length s) f) (message_rows f.message) (quiet (form_rows (length s) f) tt (sym good))

    pub bad_message : (r : Refusal) → number r ≡ refusal (message_rows f.message) → reading_told (Err r) ≡ read_frame s
    bad_message r e = refused r (e ∙ passes)

    pub good_frame : 0 ≡ refusal (message_rows f.message) → reading_told (Ok (record { feeder = f.feeder; message = f.message })) ≡ read_frame s
    good_frame e = is_read 0 (e ∙ passes)
