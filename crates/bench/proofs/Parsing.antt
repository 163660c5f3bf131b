-- The parts of a text that are read are its text again, and each command and header is read from its text: so what is read of a line, if it is in range, is the
-- one whose text the line is. Assumes nothing.
use Rattle.std.proofs.Common.{◌≡◌, refl, ap, ◌∙◌, sym, Bool, true, false, not, cond, ◌&&◌, List, [], ◌∷◌, ◌++◌, map, ℕ, ◌+◌, ◌-◌, ◌/◌, ◌%◌, ◌<◌, length, take, drop, get_or, arith}
use Rattle.std.specs.Prelude.{Option, Some, None, option_map, option_and_then, position}
use Rattle.std.specs.Bool.{then_some}
use Rattle.std.specs.List.{position_or_len}
use Rattle.std.proofs.lemmas.Option.{none-some, same_Some, cond_some, option_and_then_some, some_pair_parts}
use Rattle.std.proofs.lemmas.List.Sums.{split_at_first, passes_at_first}
use borrow.Author.Tests.{ne_eqb, ltb-true}
use lib.Dec.{T, leb, ltb, eqb, ltb→lt, leb→le, eqb→eq}
use denote.Floats.{passes}
use Rattle.laws.specs.Lists.{In, keep, all}
use Rattle.laws.proofs.Tests.{and_l, and_r}
use Rattle.laws.proofs.ListLaws.{in_left, in_right, in_keep, keep_in}
use Rattle.laws.proofs.ScanLaws.{all_at}
use Rattle.laws.specs.Search.{from, pairs}
use Rattle.std.specs.Str.{bytes_eq}
use Rattle.laws.proofs.SearchLaws.{in_map, in_pairs, in_from, finds, find_has, reads}
use Rattle.text.specs.Decimal.{digits}
use Rattle.text.proofs.Digits.{digits_one, digits_more}
use Rattle.bench.specs.declared.lines.Header.{Header}
use Rattle.bench.specs.declared.lines.Command.{Command}
use Rattle.bench.specs.declared.lines.Command.TheVariants.{Take, Return, Deliver}
use Rattle.bench.specs.Text.{decimal, text}
use Rattle.bench.specs.Lines.{inside, in_range_for, every_command, command_of, heading, header_text, header_of}
use Rattle.bench.specs.Inside.{digit_of, number_of, is_space, pair_of_numbers, begins, parsed_command, parsed_header, header_fits, Safe}

-- ---- what is read has the text that it is read from

module _ {A P : Type 0} where
  picked : (t : Bool) (x y : Option A) (a : A) → cond t x y ≡ Some a → (t ≡ true → x ≡ Some a → P) → (y ≡ Some a → P) → P
  picked true x y a e f g = f refl e
  picked false x y a e f g = g e

  mapped : {B : Type 0} (f : B → A) (o : Option B) (a : A) → option_map f o ≡ Some a → ((b : B) → o ≡ Some b → f b ≡ a → P) → P
  mapped f None a e k = absurd (none-some a e)
  mapped f (Some b) a e k = k b refl (same_Some (f b) a e)

digit_is : (b d : ℕ) → digit_of b ≡ Some d → (d < 10) × (48 + d ≡ b)
digit_is b d e =
    let h = cond_some (leb 48 b && leb b 57) (b - 48) d e in
    let t = passes (leb 48 b && leb b 57) h.0 in
    let l = leb→le 48 b (and_l (leb 48 b) (leb b 57) t) in
    let m = leb→le b 57 (and_r (leb 48 b) (leb b 57) t) in
    let q = h.1 in
    (omega arith, omega arith)

-- two digits
teen : (b d : ℕ) → (d < 10) × (48 + d ≡ b) → decimal (10 + d) ≡ 49 ∷ b ∷ []
teen b d h =
    let l = h.0 in
    let q : (10 + d) / 10 ≡ 1 = omega arith in
    let r : 48 + (10 + d) % 10 ≡ b = (let e = h.1 in omega arith) in
    digits_more 2 (10 + d) (omega arith) ∙ (λ i. digits 2 (q i) ++ (r i ∷ [])) ∙ ap (λ (l : List ℕ). l ++ (b ∷ [])) (digits_one 1 1 (omega arith))

number_text : (l : List ℕ) (p : ℕ) → number_of l ≡ Some p → decimal p ≡ l
unfolding number_of
number_text [] p e = absurd (none-some p e)
number_text (b ∷ []) p e = let h = digit_is b p e in digits_one 2 p h.0 ∙ ap (λ (x : ℕ). x ∷ []) h.1
number_text (a ∷ b ∷ []) p e =
    picked (eqb a 49) (option_map (λ d. 10 + d) (digit_of b)) None p e
    (λ t m. mapped (λ d. 10 + d) (digit_of b) p m (λ d f q. ap decimal (sym q) ∙ teen b d (digit_is b d f) ∙ ap (λ (x : ℕ). x ∷ b ∷ []) (sym (eqb→eq a 49 (passes (eqb a 49) t)))))
    (λ n. absurd (none-some p n))
number_text (a ∷ b ∷ c ∷ l) p e = absurd (none-some p (rw (ne_eqb (length (a ∷ b ∷ c ∷ l)) 1 (λ z. omega arith), ne_eqb (length (a ∷ b ∷ c ∷ l)) 2 (λ z. omega arith)) at e))

pair_text : (l : List ℕ) (p q : ℕ) → pair_of_numbers l ≡ Some (p, q) → decimal p ++ (32 ∷ decimal q) ≡ l
unfolding pair_of_numbers
pair_text l p q e =
    option_and_then_some _ (position is_space l) (p, q) e (λ at a f.
    option_and_then_some _ (number_of (take at l)) (p, q) f (λ x b g.
    option_and_then_some _ (number_of (drop (at + 1) l)) (p, q) g (λ y c h.
    let k = some_pair_parts x p y q h in
    (λ i. decimal (sym k.0 i) ++ (32 ∷ decimal (sym k.1 i))) ∙ (λ i. number_text (take at l) x b i ++ (32 ∷ number_text (drop (at + 1) l) y c i)) ∙ sym (cut at a))))
  where
    cut : (at : ℕ) → position is_space l ≡ Some at → l ≡ take at l ++ (32 ∷ drop (at + 1) l)
    cut at a =
        let h = cond_some (ltb (position_or_len is_space l) (length l)) (position_or_len is_space l) at a in
        let b = ltb-true (position_or_len is_space l) (length l) h.0 in
        split_at_first is_space l 0 b
        ∙ (λ i. take (h.1 i) l ++ (eqb→eq (get_or l (position_or_len is_space l) 0) 32 (passes (is_space (get_or l (position_or_len is_space l) 0)) (passes_at_first is_space l 0 b)) i ∷ drop (h.1 i + 1) l))

begun : (letter : ℕ) (l : List ℕ) → begins letter l ≡ true → letter ∷ 32 ∷ drop 2 l ≡ l
begun letter [] e = cc
begun letter (x ∷ []) e = cc
begun letter (x ∷ y ∷ l) e =
    let t = and_r (leb 2 (length (x ∷ y ∷ l))) (eqb x letter && eqb y 32) (passes (begins letter (x ∷ y ∷ l)) e) in
    λ i. sym (eqb→eq x letter (and_l (eqb x letter) (eqb y 32) t)) i ∷ sym (eqb→eq y 32 (and_r (eqb x letter) (eqb y 32) t)) i ∷ l

command_text : (l : List ℕ) (c : Command) → parsed_command l ≡ Some c → text c ≡ l
unfolding parsed_command text
command_text l c e =
    picked (begins 84 l) _ _ c e (λ t m. mapped Take (number_of (drop 2 l)) c m (λ p f q. ap text (sym q) ∙ ap (λ (s : List ℕ). 84 ∷ 32 ∷ s) (number_text (drop 2 l) p f) ∙ begun 84 l t)) (λ e.
    picked (begins 82 l) _ _ c e (λ t m. mapped Return (number_of (drop 2 l)) c m (λ p f q. ap text (sym q) ∙ ap (λ (s : List ℕ). 82 ∷ 32 ∷ s) (number_text (drop 2 l) p f) ∙ begun 82 l t)) (λ e.
    picked (begins 68 l) _ _ c e
    (λ t m. mapped (λ (p, q). Deliver p q) (pair_of_numbers (drop 2 l)) c m (λ b f q. ap text (sym q) ∙ ap (λ (s : List ℕ). 68 ∷ 32 ∷ s) (pair_text (drop 2 l) b.0 b.1 f) ∙ begun 68 l t))
    (λ e. absurd (none-some c e))))

header_says : (l : List ℕ) (h : Header) → parsed_header l ≡ Some h → header_text h ≡ l
unfolding parsed_header header_text
header_says l h e = mapped (λ (n, k). heading n k) (pair_of_numbers l) h e (λ b f q. ap header_text (sym q) ∙ pair_text l b.0 b.1 f)

-- ---- commands

below_16 : (n p : ℕ) → T (inside n p) → In p (from 0 16)
unfolding inside
below_16 n p t = in_from 0 16 p (omega arith) (let h = ltb→lt p 16 (and_r (ltb p n) (ltb p 16) t) in omega arith)

every_in : (n : ℕ) (c : Command) → T (in_range_for n c) → In c every_command
unfolding every_command in_range_for
every_in n (Take p) t = in_left (Take p) (map Take (from 0 16)) (map Return (from 0 16) ++ pairs Deliver (from 0 16) (from 0 16)) (in_map Take p (from 0 16) (below_16 n p t))
every_in n (Return p) t =
    in_right (Return p) (map Take (from 0 16)) (map Return (from 0 16) ++ pairs Deliver (from 0 16) (from 0 16))
    (in_left (Return p) (map Return (from 0 16)) (pairs Deliver (from 0 16) (from 0 16)) (in_map Return p (from 0 16) (below_16 n p t)))
every_in n (Deliver p q) t =
    in_right (Deliver p q) (map Take (from 0 16)) (map Return (from 0 16) ++ pairs Deliver (from 0 16) (from 0 16))
    (in_right (Deliver p q) (map Return (from 0 16)) (pairs Deliver (from 0 16) (from 0 16))
    (in_pairs Deliver p q (from 0 16) (from 0 16)
    (below_16 n p (and_l (inside n p) (inside n q && not (eqb p q)) t))
    (below_16 n q (and_l (inside n q) (not (eqb p q)) (and_r (inside n p) (inside n q && not (eqb p q)) t)))))

every_again : map (λ c. parsed_command (text c)) every_command ≡ map Some every_command
unfolding every_command from pairs parsed_command pair_of_numbers number_of text digits
every_again = refl

pub command_read : (n : ℕ) (line : List ℕ) (o : Option Command) → o ≡ parsed_command line → option_and_then (λ c. then_some (in_range_for n c) c) o ≡ command_of n line
unfolding command_of
command_read n =
    reads text parsed_command (keep (in_range_for n) every_command) (in_range_for n)
    (λ c t. in_keep (in_range_for n) c every_command (every_in n c t) t)
    (λ c i. (keep_in (in_range_for n) c every_command i).1)
    (λ c i. finds (λ c. parsed_command (text c)) Some every_command every_again c (keep_in (in_range_for n) c every_command i).0)
    command_text

-- a command that a line is has posts below 16
range_safe : (n : ℕ) (c : Command) → T (in_range_for n c) → Safe (Some c)
unfolding in_range_for inside
range_safe n (Take p) t = ltb→lt p 16 (and_r (ltb p n) (ltb p 16) t)
range_safe n (Return p) t = ltb→lt p 16 (and_r (ltb p n) (ltb p 16) t)
range_safe n (Deliver p q) t =
    let u = and_r (ltb p n && ltb p 16) (ltb q n && ltb q 16 && not (eqb p q)) t in (
      ltb→lt p 16 (and_r (ltb p n) (ltb p 16) (and_l (ltb p n && ltb p 16) (ltb q n && ltb q 16 && not (eqb p q)) t)),
      ltb→lt q 16 (and_r (ltb q n) (ltb q 16) (and_l (ltb q n && ltb q 16) (not (eqb p q)) u)),
    )

pub command_safe : (n : ℕ) (line : List ℕ) → Safe (command_of n line)
unfolding command_of
command_safe n line = find_has Safe (λ c. bytes_eq (text c) line) (keep (in_range_for n) every_command) tt (λ c i. range_safe n c (keep_in (in_range_for n) c every_command i).1)

-- ---- headers

abbrev headers : List Header
headers = pairs heading (from 1 16) (from 1 16)

header_in : (h : Header) → T (header_fits h) → In h headers
unfolding header_fits
header_in h t =
    let n = h.posts in
    let k = h.places in
    let t₁ = and_r (leb 1 n) (leb n 16 && (leb 1 k && leb k 16)) t in
    let t₂ = and_r (leb n 16) (leb 1 k && leb k 16) t₁ in
    let a = leb→le 1 n (and_l (leb 1 n) (leb n 16 && (leb 1 k && leb k 16)) t) in
    let b = leb→le n 16 (and_l (leb n 16) (leb 1 k && leb k 16) t₁) in
    let c = leb→le 1 k (and_l (leb 1 k) (leb k 16) t₂) in
    let d = leb→le k 16 (and_r (leb 1 k) (leb k 16) t₂) in
    in_pairs heading n k (from 1 16) (from 1 16) (in_from 1 16 n a (omega arith)) (in_from 1 16 k c (omega arith))

headers_fit : (h : Header) → In h headers → T (header_fits h)
unfolding all header_fits pairs from
headers_fit = all_at header_fits headers tt

headers_again : map (λ h. parsed_header (header_text h)) headers ≡ map Some headers
unfolding from pairs parsed_header pair_of_numbers number_of header_text digits
headers_again = refl

pub header_read : (line : List ℕ) (o : Option Header) → o ≡ parsed_header line → option_and_then (λ h. then_some (header_fits h) h) o ≡ header_of line
unfolding header_of
header_read = reads header_text parsed_header headers header_fits header_in headers_fit (finds (λ h. parsed_header (header_text h)) Some headers headers_again) header_says
