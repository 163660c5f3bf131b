-- The rows of receive, as the code goes through them. Assumes nothing.
use mathlib.Core.Path.{◌≡◌, refl, ap, ◌∙◌, sym}
use mathlib.Core.Bool.{true, false, not}
use mathlib.Core.List.{List, ◌∷◌, ◌++◌}
use Prim.Native.Nat.{ℕ, ◌≤◌, ◌<◌}
use borrow.Author.Tests.{le-ltb, leb-false}
use lib.Dec.{ltb, eqb}
use lib.ListN.{length}
use Rattle.laws.specs.Ladder.{Row, ◌when◌, refusal}
use Rattle.laws.proofs.Tests.{or_off}
use Rattle.laws.proofs.Ladders.{on, off, quiet, first_refuses, first_passes}
use Rattle.frame.specs.declared.Fields.{Fields}
use Rattle.frame.specs.declared.Message.{Message}
use Rattle.frame.specs.Frame.{size, fields_of, form_rows}
use Rattle.calls.specs.View.{View}
use Rattle.calls.specs.Table.{sender_tests, turn_tests, receive_tests}
use Rattle.std.specs.Prelude.{Err}
use Rattle.frame.specs.declared.refusal.Refusal.{Refusal}
use Rattle.frame.specs.Refusal.{number}
use Rattle.post.specs.declared.Post.{Post}
use Rattle.post.specs.Sound.{sound}
use Rattle.post.specs.Calls.{view_of, receive_rows}
use Rattle.post.specs.Inside.{Arrives}

module _ (p : Post) (s : List ℕ) (n : ℕ) (f : Fields) (e : f ≡ fields_of s) where
  abbrev from : Message → List Row
  from m = sender_tests (view_of p) m

  abbrev turn : Message → List Row
  turn m = turn_tests (view_of p) m

  -- the rows, from the fields that were split off
  abbrev after_form : Fields → List Row
  after_form x = 6 when not (eqb x.feeder p.feeder) ∷ from x.message ++ turn x.message

  abbrev rows : Fields → List Row
  rows x = 1 when not (sound p) ∷ 2 when ltb n size ∷ form_rows (length s) x ++ after_form x

  are_rows : {r : ℕ} → r ≡ refusal (rows f) → r ≡ refusal (receive_rows p s n)
  unfolding receive_rows receive_tests
  are_rows h = h ∙ ap (λ (x : Fields). refusal (rows x)) e

  module _ (y : not (sound p) ≡ false) (l : size ≤ n) {a : ℕ} (ea : a ≡ refusal (form_rows (length s) f)) where
    pub no_form : (a ≡ 0 → ⊥) → a ≡ refusal (receive_rows p s n)
    no_form z = are_rows (off _ _ _ y (off _ _ _ (le-ltb n size l) (ea ∙ first_refuses (form_rows (length s) f) (after_form f) (λ q. z (ea ∙ q)))))

    formed : a ≡ 0 → {r : ℕ} → r ≡ refusal (after_form f)
        → r ≡ refusal (receive_rows p s n)
    unfolding form_rows
    formed z h = are_rows (off _ _ _ y (off _ _ _ (le-ltb n size l) (h ∙ first_passes (form_rows (length s) f) (after_form f) (quiet (form_rows (length s) f) tt (sym ea ∙ z)))))

    pub elsewhere : a ≡ 0 → not (eqb f.feeder p.feeder) ≡ true → 6 ≡ refusal (receive_rows p s n)
    elsewhere z d = formed z (on _ _ _ d refl)

    module _ (z : a ≡ 0) (d : not (eqb f.feeder p.feeder) ≡ false) {b : ℕ} (eb : b ≡ refusal (from f.message)) where
      here : {r : ℕ} → r ≡ refusal (from f.message ++ turn f.message) → r ≡ refusal (receive_rows p s n)
      here h = formed z (off _ _ _ d h)

      pub no_sender : (b ≡ 0 → ⊥) → b ≡ refusal (receive_rows p s n)
      no_sender w = here (eb ∙ first_refuses (from f.message) (turn f.message) (λ q. w (eb ∙ q)))

      pub sent-by : b ≡ 0 → {r : ℕ} → r ≡ refusal (turn f.message) → r ≡ refusal (receive_rows p s n)
      unfolding sender_tests
      sent-by w h = here (h ∙ first_passes (from f.message) (turn f.message) (quiet (from f.message) tt (sym eb ∙ w)))

-- a frame that is not taken
pub refuses : {p : Post} {s : List ℕ} {n : ℕ} (r : Refusal) → number r ≡ refusal (receive_rows p s n) → Arrives p s n (Err r)
refuses r e = record { number = e; message = tt }

-- a sender that the rows let pass is on the feeder
pub on_feeder : (v : View) (m : Message) → refusal (sender_tests v m) ≡ 0 → m.sender < v.start.posts
unfolding sender_tests
on_feeder v m e = leb-false v.start.posts m.sender (or_off (eqb m.sender v.start.own) _ (quiet (sender_tests v m) tt e).1.0).1
