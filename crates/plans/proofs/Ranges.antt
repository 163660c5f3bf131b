-- A header's posts are accepted starts, a command's posts are among them, and the counter of a frame on the way fits. Assumes nothing.
use mathlib.Core.Bool.{Bool, not, ◌&&◌}
use mathlib.Core.List.{List}
use Prim.Native.Nat.{ℕ, ◌≤◌, ◌<◌}
use native.Mathlib.Omega.{arith}
use Rattle.std.specs.Prelude.{Option, Some, None}
use lib.Dec.{T, leb, ltb, eqb, ltb→lt, leb→le}
use lib.ListN.{drop}
use Rattle.laws.specs.Big.{Bytes}
use Rattle.laws.specs.Below.{all_to}
use Rattle.laws.specs.Lists.{In, keep, all}
use Rattle.laws.specs.Search.{from, pairs}
use Rattle.std.specs.Str.{bytes_eq}
use Rattle.laws.proofs.Tests.{cond_both, and_l, and_r}
use Rattle.laws.proofs.BigLaws.{bytes_append}
use Rattle.laws.proofs.BelowLaws.{all_to_at}
use Rattle.laws.proofs.ListLaws.{keep_in}
use Rattle.laws.proofs.ScanLaws.{all_at}
use Rattle.laws.proofs.SearchLaws.{find_has}
use Rattle.frame.specs.declared.Message.{Message}
use Rattle.frame.specs.Message.{last_counter}
use Rattle.frame.specs.Frame.{size, frame, over, fields_of, write_no, bytes_after}
use Rattle.frame.proofs.Frames.{bytes_frame}
use Rattle.frame.proofs.FrameFields.{counter_fits}
use Rattle.calls.specs.Start.{starting, in_range}
use Rattle.bench.specs.declared.lines.Header.{Header}
use Rattle.bench.specs.declared.lines.Command.{Command}
use Rattle.bench.specs.declared.lines.Command.TheVariants.{Take, Return, Deliver}
use Rattle.bench.specs.Text.{text}
use Rattle.bench.specs.Lines.{inside, in_range_for, every_command, command_of, heading, header_text, header_of}
use Rattle.bench.specs.Night.{lent}

-- ---- headers

-- N is at most 16, and every post below N is accepted
accepts : Header → Bool
accepts h = leb h.posts 16 && all_to h.posts (λ p. in_range (starting h.posts p 0 h.places))

accepted : (h : Header) → In h (pairs heading (from 1 16) (from 1 16)) → T (accepts h)
unfolding accepts all all_to in_range pairs from
accepted = all_at accepts (pairs heading (from 1 16) (from 1 16)) tt

abbrev pub Starts : Option Header → Type 0
Starts (Some h) = (p : ℕ) → p < h.posts → T (in_range (starting h.posts p 0 h.places))
Starts None = Unit

abbrev pub Sixteen : Option Header → Type 0
Sixteen (Some h) = h.posts ≤ 16
Sixteen None = Unit

pub header_starts : (line : List ℕ) → Starts (header_of line)
unfolding header_of accepts
header_starts line =
    find_has Starts (λ h. bytes_eq (header_text h) line) (pairs heading (from 1 16) (from 1 16)) tt
    (λ h i. let f : ℕ → Bool = λ p. in_range (starting h.posts p 0 h.places) in all_to_at h.posts f (and_r (leb h.posts 16) (all_to h.posts f) (accepted h i)))

pub header_few : (line : List ℕ) → Sixteen (header_of line)
unfolding header_of accepts
header_few line =
    find_has Sixteen (λ h. bytes_eq (header_text h) line) (pairs heading (from 1 16) (from 1 16)) tt
    (λ h i. leb→le h.posts 16 (and_l (leb h.posts 16) (all_to h.posts (λ p. in_range (starting h.posts p 0 h.places))) (accepted h i)))

-- ---- commands

abbrev pub Within : ℕ → Option Command → Type 0
Within n (Some (Take p)) = p < n
Within n (Some (Return p)) = p < n
Within n (Some (Deliver p q)) = (p < n) × (q < n)
Within n None = Unit

below : (n p : ℕ) → T (inside n p) → p < n
unfolding inside
below n p t = ltb→lt p n (and_l (ltb p n) (ltb p 16) t)

within : (n : ℕ) (c : Command) → T (in_range_for n c) → Within n (Some c)
unfolding in_range_for
within n (Take p) t = below n p t
within n (Return p) t = below n p t
within n (Deliver p q) t = (
  below n p (and_l (inside n p) (inside n q && not (eqb p q)) t),
  below n q (and_l (inside n q) (not (eqb p q)) (and_r (inside n p) (inside n q && not (eqb p q)) t)),
)

pub command_within : (n : ℕ) (line : List ℕ) → Within n (command_of n line)
unfolding command_of
command_within n line =
    find_has (Within n) (λ c. bytes_eq (text c) line) (keep (in_range_for n) every_command) tt
    (λ c i. within n c (keep_in (in_range_for n) c every_command i).1)

-- ---- frames

bytes_lent : Bytes lent
bytes_lent = omega arith

bytes_after_lem : (f : ℕ) (m : Message) → Bytes (bytes_after lent f m)
unfolding bytes_after
bytes_after_lem f m =
    cond_both Bytes (eqb (write_no lent m) 0) (over f m lent) lent
    (λ y. bytes_append (frame f m) (drop size lent) (bytes_frame f m) tt)
    (λ n. bytes_lent)

pub sent_fits : (f : ℕ) (m : Message) → (fields_of (bytes_after lent f m)).message.counter ≤ last_counter
sent_fits f m = let h = counter_fits (bytes_after lent f m) (bytes_after_lem f m) in omega arith
