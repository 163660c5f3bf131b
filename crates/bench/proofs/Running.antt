-- Bytes fed in pieces and written to buffers are what the bytes write one by one. Assumes nothing.
use mathlib.Core.Path.{◌≡◌, refl, ap, ◌∙◌, sym}
use mathlib.Core.Bool.{Bool, true, false, not, cond, ◌||◌}
use mathlib.Core.List.{List, [], ◌∷◌, ◌++◌, append_assoc}
use Prim.Native.Nat.{ℕ, suc, ◌+◌, ◌-◌, ◌≤◌, ◌<◌}
use native.Mathlib.Omega.{arith}
use borrow.Author.Tests.{le-ltb, lt-leb}
use lib.Dec.{T, ltb, eqb, eqb→eq}
use lib.ListN.{length, take, drop, length-append}
use lib.Seq.{sets, length-sets}
use Rattle.laws.proofs.Tests.{or_off}
use Rattle.laws.proofs.StoreLaws.{take_sets}
use Rattle.text.specs.Puts.{Puts}
use Rattle.bench.specs.declared.Bench.{Bench}
use Rattle.bench.specs.declared.Fed.{Fed}
use Rattle.std.specs.Option.{unwrap_or}
use Rattle.bench.specs.declared.lines.Header.{Header}
use Rattle.std.specs.Prelude.{Option, Some, None}
use Rattle.bench.specs.Text.{answer_line}
use Rattle.bench.specs.Lines.{kept, header_of, command_of}
use Rattle.bench.specs.Night.{ran}
use Rattle.bench.specs.Bench.{Step, writes, is_over, longer, opens, headed, answers, stops, turned, plain, stepped, Feeding, stopped, feeding, Feeds, closing, last_piece, closed, ending, finished, finished_bytes}
use Rattle.bench.proofs.Lengths.{answer-few, closing-few}
use Rattle.bench.proofs.Feeding.{roomy}

-- what bytes write one by one, and then the end of the input
unfoldable pub runs : Bench → List ℕ → List ℕ
runs b [] = ending b
runs b (x ∷ xs) = cond (is_over b) [] ((stepped b x).text ++ runs (stepped b x).bench xs)

pub runs_step : (b : Bench) (x : ℕ) (xs : List ℕ) → is_over b ≡ false → runs b (x ∷ xs) ≡ (stepped b x).text ++ runs (stepped b x).bench xs
unfolding runs
runs_step b x xs e = rw e

-- once it is over nothing more is written
pub over_ends : (b : Bench) → is_over b ≡ true → ending b ≡ []
unfolding ending
over_ends b e = rw e

pub over_runs : (b : Bench) (xs : List ℕ) → is_over b ≡ true → runs b xs ≡ []
unfolding runs
over_runs b [] e = over_ends b e
over_runs b (x ∷ xs) e = rw e

-- ---- how much a step writes

abbrev Few : Step → Type 0
Few s = (length s.text ≤ 64) × (s.bench.mode ≡ 1 → length s.text ≤ 32)

headed-few : (b : Bench) → Few (headed b)
unfolding headed
headed-few b = go (header_of (kept b.line))
  where
    go : (h : Option Header) → Few (opens b h)
    go (Some h) = (omega arith, λ e. omega arith)
    go None = (omega arith, λ e. absurd (omega arith))

answers-few : (b : Bench) → Few (answers b)
unfolding answers
answers-few b =
    let c = command_of b.posts (kept b.line) in
    let l = answer-few (b.number + 1) c (ran b.night c).number (ran b.night c).granted in
    (omega arith, λ e. omega arith)

pub stops-few : (b : Bench) → Few (stops b)
unfolding stops
stops-few b =
    let l = length-append (answer_line 257 None 17 false) (closing b.places b.night) in
    let m = answer-few 257 None 17 false in
    let n = closing-few b.places b.night in
    (omega arith, λ e. absurd (omega arith))

turned-few : (b : Bench) → Few (turned b)
unfolding turned
turned-few b = go (eqb b.mode 0) (ltb b.number 256)
  where
    go : (s t : Bool) → Few (cond s (headed b) (cond t (answers b) (stops b)))
    go true t = headed-few b
    go false true = answers-few b
    go false false = stops-few b

pub stepped-few : (b : Bench) (x : ℕ) → length (stepped b x).text ≤ 64
unfolding stepped
stepped-few b x = go (plain b x)
  where
    go : (s : Bool) → length (cond s (writes (longer b x) []) (turned b)).text ≤ 64
    go true = omega arith
    go false = (turned-few b).0

closed-few : (s : Step) → Few s → length (closed s) ≤ 64
unfolding closed
closed-few s f = go (eqb s.bench.mode 1) (λ t. eqb→eq s.bench.mode 1 t)
  where
    go : (t : Bool) → (T t → s.bench.mode ≡ 1) → length (s.text ++ cond t (closing s.bench.places s.bench.night) []) ≤ 64
    go true h =
        let l = length-append s.text (closing s.bench.places s.bench.night) in
        let m = closing-few s.bench.places s.bench.night in
        let n = f.1 (h tt) in
        omega arith
    go false h = let l = length-append s.text [] in let m = f.0 in omega arith

pub ending-few : (b : Bench) → length (ending b) ≤ 64
unfolding ending last_piece
ending-few b = go (is_over b) (eqb b.mode 0 || not (eqb b.line.len 0))
  where
    go : (s t : Bool) → length (cond s [] (closed (cond t (turned b) (writes b [])))) ≤ 64
    go true t = omega arith
    go false true = closed-few (turned b) (turned-few b)
    go false false = closed-few (writes b []) (omega arith, λ e. omega arith)

-- ---- feeding

used_grows : (b : Bench) (part : List ℕ) (used at : ℕ) (out : List ℕ) → used ≤ (feeding b part used at out).fed.used
unfolding feeding
used_grows b [] used at out = omega arith
used_grows b (x ∷ xs) used at out =
    let r = used_grows (stepped b x).bench xs (used + 1) (at + length (stepped b x).text) (sets out at (stepped b x).text) in
    go (is_over b || ltb (length out - at) 64) r
  where
    go : (t : Bool) → used + 1 ≤ (feeding (stepped b x).bench xs (used + 1) (at + length (stepped b x).text) (sets out at (stepped b x).text)).fed.used
        → used ≤ (cond t (stopped b used at out)
        (feeding (stepped b x).bench xs (used + 1) (at + length (stepped b x).text) (sets out at (stepped b x).text))).fed.used
    go true r = omega arith
    go false r = omega arith

-- not over, with room, at least one byte is used
pub one_used : (b : Bench) (x : ℕ) (xs out : List ℕ) → is_over b ≡ false → 64 ≤ length out → 1 ≤ (feeding b (x ∷ xs) 0 0 out).fed.used
unfolding feeding
one_used b x xs out e h =
    rw (e, le-ltb (length out - 0) 64 (omega arith))
    (let r = used_grows (stepped b x).bench xs (0 + 1) (0 + length (stepped b x).text) (sets out 0 (stepped b x).text) in omega arith)

-- written so far, with what is to come
abbrev fed_run : Feeding → ℕ → List ℕ → List ℕ → List ℕ
fed_run f used part rest = take f.fed.written f.bytes ++ runs f.bench (drop (f.fed.used - used) part ++ rest)

stopped_run : (b : Bench) (part rest : List ℕ) (used at : ℕ) (out : List ℕ)
    → fed_run (stopped b used at out) used part rest ≡ take at out ++ runs b (part ++ rest)
stopped_run b part rest used at out = ap (λ (k : ℕ). take at out ++ runs b (drop k part ++ rest)) (let e : used - used ≡ 0 = omega arith in e)

pub fed_runs : (b : Bench) (part rest : List ℕ) (used at : ℕ) (out : List ℕ) → at ≤ length out
    → fed_run (feeding b part used at out) used part rest ≡ take at out ++ runs b (part ++ rest)
unfolding feeding
fed_runs b [] rest used at out h = stopped_run b [] rest used at out
fed_runs b (x ∷ xs) rest used at out h =
    go (is_over b || ltb (length out - at) 64) refl
    (λ k. fed_runs (stepped b x).bench xs rest (used + 1) (at + length (stepped b x).text) (sets out at (stepped b x).text) (let l = length-sets out at (stepped b x).text in omega arith))
  where
    text : List ℕ
    text = (stepped b x).text

    more : Feeding
    more = feeding (stepped b x).bench xs (used + 1) (at + length text) (sets out at text)

    go : (t : Bool) → is_over b || ltb (length out - at) 64 ≡ t
        → (at + length text ≤ length out → fed_run more (used + 1) xs rest ≡ take (at + length text) (sets out at text) ++ runs (stepped b x).bench (xs ++ rest))
        → fed_run (cond t (stopped b used at out) more) used (x ∷ xs) rest ≡ take at out ++ runs b (x ∷ xs ++ rest)
    go true e r = stopped_run b (x ∷ xs) rest used at out
    go false e r =
        let room = roomy b at out e in
        let few = stepped-few b x in
        let g = used_grows (stepped b x).bench xs (used + 1) (at + length text) (sets out at text) in
        ap (λ (k : ℕ). take more.fed.written more.bytes ++ runs more.bench (drop k (x ∷ xs) ++ rest))
        (let d : more.fed.used - used ≡ suc (more.fed.used - (used + 1)) = omega arith in d)
        ∙ r (omega arith)
        ∙ ap (λ (l : List ℕ). l ++ runs (stepped b x).bench (xs ++ rest)) (take_sets out at text (omega arith))
        ∙ append_assoc (take at out) text (runs (stepped b x).bench (xs ++ rest))
        ∙ ap (λ (l : List ℕ). take at out ++ l) (sym (runs_step b x (xs ++ rest) (or_off (is_over b) (ltb (length out - at) 64) e).0))

-- ---- finishing

pub finish_runs : (b : Bench) (out : List ℕ) → 64 ≤ length out → take (unwrap_or (finished b out) 0) (finished_bytes b out) ≡ ending b
unfolding finished finished_bytes
finish_runs b out h =
    let few = ending-few b in
    rw (le-ltb (length out) 64 h) (ap (λ (k : ℕ). take k (sets out 0 (ending b))) (let e : length (ending b) ≡ 0 + length (ending b) = omega arith in e) ∙ take_sets out 0 (ending b) (omega arith))

module _ (b : Bench) (out : List ℕ) (k : b.mode < 2) (h : 64 ≤ length out) where
  line_fed : feeding b (10 ∷ []) 0 0 out
      ≡ record { bench = (turned b).bench; fed = record { used = 0 + 1; written = 0 + length (turned b).text; over = is_over (turned b).bench }; bytes = sets out 0 (turned b).text }
  unfolding feeding stepped plain
  line_fed = rw (lt-leb 2 b.mode k, le-ltb (length out - 0) 64 (let z : 64 ≤ length out - 0 = omega arith in z))

  -- a line that lacks its LF is answered as if it had one
  pub fed_line : (b' : Bench) (f : Fed) (new : List ℕ) → Feeds (feeding b (10 ∷ []) 0 0 out) b' f new
      → (b' ≡ (turned b).bench) × Puts out new 0 (turned b).text f.written × (f.written ≤ 64) × (b'.mode ≡ 1 → f.written ≤ 32)
  fed_line b' f new p =
      let d : b' ≡ (turned b).bench = p.bench ∙ (λ i. (line_fed i).bench) in
      let e = p.gives ∙ (λ i. (line_fed i).fed) in
      let o = p.leaves ∙ (λ i. (line_fed i).bytes) in
      let n : f.written ≡ 0 + length (turned b).text = λ i. (e i).written in
      let few = turned-few b in
      let m = few.0 in (
        d,
        record { next_place = n; bytes = o; long = ap length o ∙ length-sets out 0 (turned b).text },
        omega arith,
        λ z. (let l = few.1 ((λ i. (sym d i).mode) ∙ z) in omega arith),
      )
