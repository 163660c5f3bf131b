-- The bench, fed byte by byte: what each byte does and writes, and what is written at the end of the input.
use Rattle.std.proofs.lemmas.List.Edits.{sets}
use Rattle.std.specs.Prelude.{Bool, false, not, cond, ◌&&◌, ◌||◌, Option, None, Some, List, [], ◌∷◌, ◌++◌, ◌≡◌, ℕ, ◌+◌, ◌-◌, leb, ltb, eqb, length}
use Rattle.laws.specs.Lists.{many}
use Rattle.post.specs.declared.Post.{Post}
use Rattle.bench.specs.{declared.Night.{Night}, declared.Bench.{Bench}, declared.Fed.{Fed}}
use Rattle.bench.specs.{declared.lines.Header.{Header}, Text.{answer_line, bad_header, last_line}}
use Rattle.bench.specs.{Lines.{empty, pushed, kept, header_of, command_of}, Night.{begun, ran}}

-- how many records are in phases lo to hi
unfoldable pub in_phases : ℕ → ℕ → List Post → ℕ
in_phases lo hi posts = many (λ p. leb lo p.phase && leb p.phase hi) posts

-- places, posts in phase 3, posts in phases 1 and 2
unfoldable pub closing : ℕ → Night → List ℕ
closing places s = last_line places (in_phases 3 3 s.posts) (in_phases 1 2 s.posts)

-- the bench after something, and what it wrote
pub record Step : Type 0 where
  pub bench : Bench
  pub text : List ℕ

abbrev pub writes : Bench → List ℕ → Step
writes b text = record { bench = b; text = text }

-- mode 0: the header is read; 1: commands are; from 2 on it is over
unfoldable pub unfed : Bench
unfed = record { night = begun 0 0; posts = 0; places = 0; number = 0; mode = 0; line = empty }

abbrev pub is_over : Bench → Bool
is_over b = leb 2 b.mode

abbrev pub halted : Bench → Bench
halted b = record { night = b.night; posts = b.posts; places = b.places; number = b.number; mode = 2; line = b.line }

-- a night of N posts and K places
abbrev pub opening : Header → Bench
opening h = record { night = begun h.posts h.places; posts = h.posts; places = h.places; number = 0; mode = 1; line = empty }

abbrev pub opens : Bench → Option Header → Step
opens b (Some h) = writes (opening h) []
opens b None = writes (halted b) bad_header

-- the first line is whole
unfoldable pub headed : Bench → Step
headed b = opens b (header_of (kept b.line))

-- a line of commands is whole
unfoldable pub answers : Bench → Step
answers b =
    let c = command_of b.posts (kept b.line) in
    let r = ran b.night c in
    writes (record { night = r.night; posts = b.posts; places = b.places; number = b.number + 1; mode = 1; line = empty })
    (answer_line (b.number + 1) c r.number r.granted)

-- line 257 has a byte
unfoldable pub stops : Bench → Step
stops b = writes (halted b) (answer_line 257 None 17 false ++ closing b.places b.night)

unfoldable pub turned : Bench → Step
turned b = cond (eqb b.mode 0) (headed b) (cond (ltb b.number 256) (answers b) (stops b))

-- a byte of a line that goes on
unfoldable pub plain : Bench → ℕ → Bool
plain b x = not (eqb x 10) && (eqb b.mode 0 || ltb b.number 256)

abbrev pub longer : Bench → ℕ → Bench
longer b x = record { night = b.night; posts = b.posts; places = b.places; number = b.number; mode = b.mode; line = pushed b.line x }

unfoldable pub stepped : Bench → ℕ → Step
stepped b x = cond (plain b x) (writes (longer b x) []) (turned b)

-- ---- feed: bytes are used while it is not over and 64 bytes of room are left

pub record Feeding : Type 0 where
  pub bench : Bench
  pub fed : Fed
  pub bytes : List ℕ

-- what stands where it stops
abbrev pub stopped : Bench → ℕ → ℕ → List ℕ → Feeding
stopped b used at out = record { bench = b; fed = record { used = used; written = at; over = is_over b }; bytes = out }

-- after so many bytes used and written
unfoldable pub feeding : Bench → List ℕ → ℕ → ℕ → List ℕ → Feeding
feeding b [] used at out = stopped b used at out
feeding b (x ∷ xs) used at out =
    cond (is_over b || ltb (length out - at) 64)
    (stopped b used at out)
    (feeding (stepped b x).bench xs (used + 1) (at + length (stepped b x).text) (sets out at (stepped b x).text))

pub record Feeds (f : Feeding) (b : Bench) (result : Fed) (after : List ℕ) : Type 0 where
  pub bench : b ≡ f.bench
  pub gives : result ≡ f.fed
  pub leaves : after ≡ f.bytes

-- ---- finish

-- the last line may lack its LF
unfoldable pub last_piece : Bench → Step
last_piece b = cond (eqb b.mode 0 || not (eqb b.line.len 0)) (turned b) (writes b [])

unfoldable pub closed : Step → List ℕ
closed s = s.text ++ cond (eqb s.bench.mode 1) (closing s.bench.places s.bench.night) []

unfoldable pub ending : Bench → List ℕ
ending b = cond (is_over b) [] (closed (last_piece b))

-- how many bytes are written; none where there is too little room
unfoldable pub finished : Bench → List ℕ → Option ℕ
finished b out = cond (ltb (length out) 64) None (Some (length (ending b)))

unfoldable pub finished_bytes : Bench → List ℕ → List ℕ
finished_bytes b out = cond (ltb (length out) 64) out (sets out 0 (ending b))

pub record Ends (f : Option ℕ) (bytes : List ℕ) (result : Option ℕ) (after : List ℕ) : Type 0 where
  pub gives : result ≡ f
  pub leaves : after ≡ bytes
