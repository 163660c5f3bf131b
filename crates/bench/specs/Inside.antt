-- What functions inside the crate promise each other: the header or command of a text, in range or not; what a command gives back.
use Rattle.std.specs.Prelude.{Result, Ok, Err, Bool, false, cond, ◌&&◌, List, length, ◌≡◌, ℕ, ◌+◌, ◌-◌, ◌≤◌, ◌<◌, leb, eqb, nat_eq, Option, Some, None, option_map, option_and_then, position, get_or, take, drop}
use Rattle.text.specs.Puts.{Puts, Lays}
use Rattle.frame.specs.{declared.refusal.Refusal.{Refusal}, Refusal.{number_in}, Frame.{fields_of}}
use Rattle.post.specs.{declared.Answer.{Answer}, Calls.{answer_told}}
use Rattle.bench.specs.{declared.Night.{Night}, declared.Bench.{Bench}, declared.writing.Page.{Page}, declared.lines.Header.{Header}, declared.lines.Command.{Command}}
use Rattle.bench.specs.{declared.lines.Command.TheVariants.{Take, Return, Deliver}, Lines.{heading}, Night.{Called, Ran}, Bench.{Step}}

-- a step that needs the value of another
infixl 10 ◌>>=◌
abbrev pub ◌>>=◌ : {A B : Type 0} → Option A → (A → Option B) → Option B
o >>= f = option_and_then f o

abbrev pub digit_of : ℕ → Option ℕ
digit_of b = cond (leb 48 b && leb b 57) (Some (b - 48)) None

-- a number below 20
unfoldable pub number_of : List ℕ → Option ℕ
number_of digits =
    cond (eqb (length digits) 1) (digit_of (get_or digits 0 0))
    (cond (eqb (length digits) 2 && eqb (get_or digits 0 0) 49) (option_map (λ d. 10 + d) (digit_of (get_or digits 1 0))) None)

abbrev pub is_space : ℕ → Bool
is_space b = nat_eq b 32

-- the number before the first space and the number after it
unfoldable pub pair_of_numbers : List ℕ → Option (ℕ × ℕ)
pair_of_numbers text = do
  at ← position is_space text
  p ← number_of (take at text)
  q ← number_of (drop (at + 1) text)
  Some (p, q)

-- a letter and a space begin the text
abbrev pub begins : ℕ → List ℕ → Bool
begins letter text = leb 2 (length text) && (eqb (get_or text 0 0) letter && eqb (get_or text 1 0) 32)

unfoldable pub parsed_command : List ℕ → Option Command
parsed_command text =
    cond (begins 84 text) (option_map Take (number_of (drop 2 text)))
    (cond (begins 82 text) (option_map Return (number_of (drop 2 text)))
    (cond (begins 68 text) (option_map (λ (p, q). Deliver p q) (pair_of_numbers (drop 2 text))) None))

unfoldable pub parsed_header : List ℕ → Option Header
parsed_header text = option_map (λ (posts, places). heading posts places) (pair_of_numbers text)

-- from 1 to 16
unfoldable pub header_fits : Header → Bool
header_fits h = leb 1 h.posts && (leb h.posts 16 && (leb 1 h.places && leb h.places 16))

-- the posts of a command are below 16
abbrev pub Safe : Option Command → Type 0
Safe (Some (Take p)) = p < 16
Safe (Some (Return p)) = p < 16
Safe (Some (Deliver p q)) = (p < 16) × (q < 16)
Safe None = Unit

-- ---- what a command gives back

-- an answer, and the message in these bytes
abbrev pub heard : Answer → List ℕ → Called
heard a buf = record { answer = answer_told a; message = (fields_of buf).message }

-- the night after a command, with what it gave back
abbrev pub granted_in : Result Bool Refusal → Bool
granted_in (Ok granted) = granted
granted_in (Err r) = false

abbrev pub giving : Night → Result Bool Refusal → Ran
giving s g = record { night = s; number = number_in g; granted = granted_in g }

-- ---- a text is put on a page, which stays the same lent buffer
pub record Writes (old new : Page) (text : List ℕ) : Type 0 where
  pub lays : Lays old.out.now new.out.now old.at text new.at
  pub same : new.out.ghost_name ≡ old.out.ghost_name

-- the page has room for what any byte can write; no invariant of it, since what is written uses the room up
abbrev pub Room : Page → Type 0
Room page = page.at + 64 ≤ length page.out.now

-- the bench after a step, and its text put on the page, in at most 64 bytes, or 32 where it is not over
pub record Turns (s : Step) (b : Bench) (old new : Page) : Type 0 where
  pub bench : b ≡ s.bench
  pub puts : Puts old.out.now new.out.now old.at s.text new.at
  pub same : new.out.ghost_name ≡ old.out.ghost_name
  pub few : new.at ≤ old.at + 64
  pub going : b.mode ≡ 1 → new.at ≤ old.at + 32
