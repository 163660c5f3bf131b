-- The first 8 bytes of a line are enough: no text of a command or header has 8. Assumes nothing.
use mathlib.Core.Path.{◌≡◌, refl, ap, ◌∙◌, sym}
use mathlib.Core.Logic.{⊎_elim}
use mathlib.Core.Bool.{cond}
use mathlib.Core.List.{List, [], ◌∷◌, ◌++◌}
use Prim.Native.Nat.{ℕ, ◌+◌, ◌≤◌, ◌<◌, min}
use native.Mathlib.Omega.{arith}
use native.Mathlib.Nat.{min-eq_left, min-eq_right}
use native.Mathlib.Numerals.{add-one}
use borrow.Author.Tests.{lt-ltb, le-ltb}
use lib.Dec.{T, ltb, ltb→lt}
use lib.ListN.{length, take, set, length-take, length-set, length-append}
use lib.Seq.{take_all, take-suc-set, take-append-le}
use Rattle.laws.specs.Lists.{In, keep, all}
use Rattle.laws.proofs.Tests.{same_test, leb-total}
use Rattle.laws.proofs.ListLaws.{keep_in}
use Rattle.laws.proofs.ScanLaws.{all_at}
use Rattle.bench.specs.declared.Line.{Line}
use Rattle.bench.specs.declared.lines.Command.{Command}
use Rattle.bench.specs.declared.lines.Header.{Header}
use Rattle.laws.specs.Search.{from, pairs}
use Rattle.std.specs.Str.{bytes_eq}
use Rattle.text.specs.Decimal.{digits}
use Rattle.bench.specs.Text.{text}
use Rattle.bench.specs.Lines.{empty, pushed, kept, in_range_for, every_command, command_of, heading, header_text, header_of}
use Rattle.laws.proofs.SearchLaws.{same, is_same, find_cong}

-- ---- the line that is kept of a piece

pub record Holds (l : Line) (piece : List ℕ) : Type 0 where
  pub bytes : length l.bytes ≡ 8
  pub len : l.len ≡ min (length piece) 8
  pub text : kept l ≡ take 8 piece

pub holds_none : Holds empty []
unfolding empty
holds_none = record { bytes = refl; len = refl; text = refl }

pub holds_more : (l : Line) (piece : List ℕ) (b : ℕ) → Holds l piece → Holds (pushed l b) (piece ++ (b ∷ []))
unfolding pushed
holds_more l piece b h = ⊎_elim full room (leb-total 8 (length piece))
  where
    n : length (piece ++ (b ∷ [])) ≡ length piece + 1
    n = length-append piece (b ∷ [])

    full : 8 ≤ length piece → Holds (cond (ltb l.len 8) (record { bytes = set l.bytes l.len b; len = l.len + 1 }) l) (piece ++ (b ∷ []))
    full k =
        let e : l.len ≡ 8 = h.len ∙ min-eq_right k in
        let j : 8 ≤ length (piece ++ (b ∷ [])) = (let m = n in omega arith) in
        rw (le-ltb l.len 8 (omega arith)) (record { bytes = h.bytes; len = e ∙ sym (min-eq_right j); text = h.text ∙ sym (take-append-le 8 piece (b ∷ []) k) })

    room : length piece < 8 → Holds (cond (ltb l.len 8) (record { bytes = set l.bytes l.len b; len = l.len + 1 }) l) (piece ++ (b ∷ []))
    room k =
        let w : length piece ≤ 8 = omega arith in
        let e : l.len ≡ length piece = h.len ∙ min-eq_left w in
        let j : length (piece ++ (b ∷ [])) ≤ 8 = (let m = n in omega arith) in
        let y = h.bytes in
        let f : l.len < length l.bytes = omega arith in
        rw (lt-ltb l.len 8 (omega arith)) (record {
          bytes = length-set l.bytes l.len b ∙ h.bytes;
          len = ap (λ (x : ℕ). x + 1) e ∙ sym n ∙ sym (min-eq_left j);
          text = ap (λ (x : ℕ). take x (set l.bytes l.len b)) (add-one l.len) ∙ take-suc-set l.bytes l.len b f
              ∙ ap (λ (x : List ℕ). x ++ (b ∷ [])) (h.text ∙ take_all 8 piece w) ∙ sym (take_all 8 (piece ++ (b ∷ [])) j);
        })

-- ---- what the kept bytes say

same_short : (w l : List ℕ) → length w < 8 → bytes_eq w (take 8 l) ≡ bytes_eq w l
same_short w l h =
    same_test (bytes_eq w (take 8 l)) (bytes_eq w l)
    (λ t. let e = same w (take 8 l) t in is_same w l (e ∙ take_all 8 l (fits (ap length e ∙ length-take 8 l))))
    (λ t. let e = same w l t in let k = ap length e in is_same w (take 8 l) (e ∙ sym (take_all 8 l (omega arith))))
  where
    fits : length w ≡ min 8 (length l) → length l ≤ 8
    fits e = ⊎_elim (λ k. let z = e ∙ min-eq_left k in absurd (omega arith)) (λ k. omega arith) (leb-total 8 (length l))

commands_short : (c : Command) → In c every_command → T (ltb (length (text c)) 8)
unfolding all every_command from pairs text digits
commands_short = all_at (λ c. ltb (length (text c)) 8) every_command tt

pub command_kept : (n : ℕ) (l : List ℕ) → command_of n (take 8 l) ≡ command_of n l
unfolding command_of
command_kept n l =
    find_cong (λ c. bytes_eq (text c) (take 8 l)) (λ c. bytes_eq (text c) l) (keep (in_range_for n) every_command)
    (λ c i. same_short (text c) l (ltb→lt (length (text c)) 8 (commands_short c (keep_in (in_range_for n) c every_command i).0)))

headers_short : (h : Header) → In h (pairs heading (from 1 16) (from 1 16)) → T (ltb (length (header_text h)) 8)
unfolding all from pairs header_text digits
headers_short = all_at (λ h. ltb (length (header_text h)) 8) (pairs heading (from 1 16) (from 1 16)) tt

pub header_kept : (l : List ℕ) → header_of (take 8 l) ≡ header_of l
unfolding header_of
header_kept l =
    find_cong (λ h. bytes_eq (header_text h) (take 8 l)) (λ h. bytes_eq (header_text h) l) (pairs heading (from 1 16) (from 1 16))
    (λ h i. same_short (header_text h) l (ltb→lt (length (header_text h)) 8 (headers_short h i)))
