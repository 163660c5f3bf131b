-- Demand 3 over records and bytes: posts that keep short records, and frames that travel as they were written.
use Rattle.std.specs.Prelude.{Bool, false, not, cond, ◌&&◌, List, [], ◌∷◌, ◌++◌, map, ◌≡◌, ℕ, ◌+◌, ◌≤◌, ◌<◌, ltb, eqb, length, drop}
use Rattle.laws.specs.Below.{sum_to, count_to}
use Rattle.frame.specs.Frame.{frame}
use Rattle.calls.specs.Replies.{Call, own_call, receive_call}
use Rattle.post.specs.declared.Post.{Post}
use Rattle.queue.specs.{Queue.{grants}, Feeder.{Line, start, LineFits, Act, own_at, deliver, buffer, fresh, sent, run, returns_sent}, Demand3.{marked, Demand3}}
use Rattle.beside.specs.{Image.{image}, OnRecord.{on_record, started_post}, Tells.{written, done}}

-- a post: its record, the frames it wrote, how many of each other's it has accepted, and how many grant marks its calls gave
pub record Board : Type 0 where
  pub post : Post
  pub wrote : List (List ℕ)
  pub accepted : ℕ → ℕ
  pub marks : ℕ

abbrev pub Boards : Type 0
Boards = ℕ → Board

abbrev pub begun : Line → Boards
begun L p = record { post = started_post (start L p); wrote = []; accepted = λ r. 0; marks = 0 }

-- a board after a call; from is the post whose frame it was offered, if any
abbrev pub called : Board → Call → (ℕ → Bool) → Board
called b c from =
    let a = on_record b.post c in
    record {
      post = a.next;
      wrote = b.wrote ++ written a.reply;
      accepted = λ r. cond (from r && done a.reply) (b.accepted r + 1) (b.accepted r);
      marks = cond (marked a.reply) (b.marks + 1) b.marks;
    }

abbrev pub with_board : Boards → ℕ → Board → Boards
with_board s p b r = cond (eqb r p) b (s r)

abbrev pub offers : Boards → ℕ → ℕ → List (List ℕ) → Boards
offers s p q [] = s
offers s p q (f ∷ fs) = with_board s q (called (s q) (receive_call f buffer) (λ r. eqb r p))

-- an own call at p; the next frame of p that q has not accepted offered to q
unfoldable pub acted : Line → Boards → Act → Boards
acted L s (own_at o p) = cond (ltb p L.posts) (with_board s p (called (s p) (own_call o buffer) (λ r. false))) s
acted L s (deliver p q) = cond (ltb p L.posts && (ltb q L.posts && not (eqb p q))) (offers s p q (drop ((s q).accepted p) (s p).wrote)) s

unfoldable pub run_boards : Line → Boards → List Act → Boards
run_boards L s [] = s
run_boards L s (a ∷ acts) = run_boards L (acted L s a) acts

-- the boards of a run beside the full queues of the same run
pub record Beside (L : Line) (acts : List Act) : Type 0 where
  -- each record is the record of the full queue, and the frames written are those of the messages sent
  pub record_is : (p : ℕ) → p < L.posts → (run_boards L (begun L) acts p).post ≡ image (start L p) (run L fresh acts p)
  pub frames_are : (p : ℕ) → p < L.posts → (run_boards L (begun L) acts p).wrote ≡ map (frame L.feeder) (sent (run L fresh acts) p)
  pub marks_are : (p : ℕ) → p < L.posts → (run_boards L (begun L) acts p).marks ≡ length (grants (start L p) (run L fresh acts p))
  -- so demand 3, all of it, is said of these boards
  pub demand3 : Demand3 L (run L fresh acts)
  -- the grant marks that the calls gave, less the returns sent, never exceed the places, and never more posts hold
  pub never_more : sum_to L.posts (λ p. (run_boards L (begun L) acts p).marks) ≤ L.places + returns_sent L (run L fresh acts)
  pub never_more_hold : count_to L.posts (λ p. eqb (run_boards L (begun L) acts p).post.phase 3) ≤ L.places

abbrev pub RecordsAndBytes : Type 0
RecordsAndBytes = (L : Line) → LineFits L → (acts : List Act) → Beside L acts
