-- Texts put one after the other into a buffer are one text. Assumes nothing.
use mathlib.Core.Path.{◌≡◌, refl, ap, ◌∙◌, sym}
use mathlib.Core.List.{List, [], ◌++◌}
use Prim.Native.Nat.{ℕ, ◌+◌, ◌-◌, ◌≤◌, ◌<◌}
use native.Mathlib.Omega.{arith}
use borrow.Rule.Slice.PartMut.{put_mid}
use borrow.Author.Tests.{le-leb, lt-leb}
use lib.Dec.{leb, leb→le, le→leb}
use lib.ListN.{length, take, length-append}
use lib.Seq.{sets, sets-eq, take_all}
use Rattle.std.proofs.lemmas.Slice.{put_mid-paste}
use Rattle.laws.proofs.Tests.{same_test}
use Rattle.laws.proofs.StoreLaws.{sets_append, take_sets}
use Rattle.text.specs.Puts.{Puts, fitting, Lays}

pub nothing : (old : List ℕ) (at : ℕ) → Puts old old at [] at
nothing old at = record { next_place = omega arith; bytes = refl; long = refl }

pub then : {old mid new s t : List ℕ} {at a b : ℕ} → Puts old mid at s a → Puts mid new a t b → Puts old new at (s ++ t) b
then {old} {mid} {new} {s} {t} {at} {a} {b} p q =
    let n = p.next_place in
    let m = q.next_place in
    let l = length-append s t in
    record {
      next_place = omega arith;
      bytes = q.bytes ∙ ap (λ (o : List ℕ). sets o a t) p.bytes ∙ ap (λ (k : ℕ). sets (sets old at s) k t) n ∙ sets_append old at s t;
      long = q.long ∙ p.long;
    }

-- another way to write the text
pub spelled : {old new s t : List ℕ} {at next : ℕ} → s ≡ t → Puts old new at s next → Puts old new at t next
spelled e p = rw (sym e) p

-- ---- what fits

pub room : (old : List ℕ) (at : ℕ) (text : List ℕ) → at + length text ≤ length old → fitting old at text ≡ text
unfolding fitting
room old at text h = rw (le-leb (at + length text) (length old) h)

pub no_room : (old : List ℕ) (at : ℕ) (text : List ℕ) → length old < at + length text → fitting old at text ≡ []
unfolding fitting
no_room old at text h = rw (lt-leb (at + length text) (length old) h)

pub puts_none : (old : List ℕ) (at : ℕ) (text : List ℕ) → length old < at + length text → Puts old old at (fitting old at text) at
puts_none old at text h = spelled (sym (no_room old at text h)) (nothing old at)

-- a sum that may be too large, tested by a difference
pub fits_behind : (len at n : ℕ) → at ≤ len → leb n (len - at) ≡ leb (at + n) len
fits_behind len at n h =
    same_test (leb n (len - at)) (leb (at + n) len)
    (λ t. let k = leb→le n (len - at) t in le→leb (at + n) len (omega arith))
    (λ t. let k = leb→le (at + n) len t in le→leb n (len - at) (omega arith))

-- a word laid over the bytes from a place on
pub laid_over : (old w part : List ℕ) (at : ℕ) → at + length w ≤ length old → part ≡ w → put_mid at (at + length w - at) old part ≡ sets old at w
laid_over old w part at h e =
    let p = put_mid-paste at (at + length w - at) old part w (length w) e (omega arith) refl in
    let q = take_all (length w) w (omega arith) in
    let r = sets-eq w old at h in
    cc

-- ---- several, one after the other

pub lays : {old new : List ℕ} {at : ℕ} {text : List ℕ} {next : ℕ} → Puts old new at (fitting old at text) next → Lays old new at text next
lays {old} {new} {at} {text} p = record { puts = λ h. spelled (room old at text h) p; long = p.long }

pub and_then : {old mid new s t : List ℕ} {at a b : ℕ} → Lays old mid at s a → Lays mid new a t b → Lays old new at (s ++ t) b
and_then {old} {mid} {new} {s} {t} {at} {a} {b} p q = record { puts = all; long = q.long ∙ p.long }
  where
    all : at + length (s ++ t) ≤ length old → Puts old new at (s ++ t) b
    all h =
        let l = length-append s t in
        let x = p.puts (omega arith) in
        let n = x.next_place in
        let m = x.long in
        then x (q.puts (omega arith))

-- another way to write the text
pub reworded : {old new s t : List ℕ} {at next : ℕ} → s ≡ t → Lays old new at s next → Lays old new at t next
reworded e p = rw (sym e) p

-- a text put at the start stands there
pub stands_first : {old new text : List ℕ} {n : ℕ} → Lays old new 0 text n → length text ≤ length old → (n ≡ length text) × (take n new ≡ text)
stands_first {old} {new} {text} {n} l h =
    let p = l.puts (omega arith) in
    let k = p.next_place in
    (omega arith, ap (λ (i : ℕ). take i new) k ∙ ap (take (0 + length text)) p.bytes ∙ take_sets old 0 text (omega arith))
