-- The bench's night goes beside the night over posts with short records, command by command: its 16 records, 256 places and 256 read
-- positions hold what that night has, and its places are never all filled before a command. Assumes nothing.
use mathlib.Core.Path.{◌≡◌, refl, sym, ap, ap₂, ◌∙◌, subst}
use mathlib.Core.Logic.{⊎_elim}
use mathlib.Core.Bool.{Bool, true, false, not, cond, ◌&&◌}
use mathlib.Core.List.{List, [], ◌∷◌, ◌++◌, map, append-nil}
use Prim.Native.Nat.{ℕ, ◌+◌, ◌*◌, ◌≤◌, ◌<◌}
use native.Mathlib.Omega.{arith}
use native.Mathlib.Numerals.{add-one}
use borrow.Author.Tests.{lt-ltb, eq-eqb, ne_eqb}
use Rattle.std.specs.Prelude.{Option, Some, None}
use lib.Dec.{T, leb, ltb, eqb, eqb→eq, ltb→lt, nleb→lt}
use lib.Ieee.Bits.{is_true, is_false}
use lib.ListN.{length, get_or, take, drop, set, length-drop, length-set, get_or-replicate, get_or-eq_default}
use lib.Seq.{length-take-le, get_or-take, get_or-set_same, get_or-set_other, take-suc-set}
use Rattle.laws.specs.Below.{one?}
use Rattle.laws.specs.Search.{from}
use Rattle.laws.proofs.Tests.{test, cond_both, and_l, and_r, neqb→ne, leb-total}
use Rattle.laws.proofs.BelowLaws.{sum_to_cong}
use Rattle.laws.proofs.PlaceLaws.{many-first, mapped_at}
use Rattle.frame.specs.declared.Message.{Message}
use Rattle.frame.specs.Message.{blank, by}
use Rattle.frame.specs.Frame.{fields_of, bytes_after}
use Rattle.calls.specs.Start.{starting, in_range}
use Rattle.calls.specs.declared.Own.{Own}
use Rattle.calls.specs.declared.Own.TheVariants.{Taking, Returning}
use Rattle.calls.specs.Replies.{own_call}
use Rattle.post.specs.declared.Post.{Post}
use Rattle.post.specs.Calls.{StartTold}
use Rattle.post.specs.Record.{fresh}
use Rattle.post.specs.Calls.{Outcome, started, spoke, received}
use Rattle.beside.specs.OnRecord.{answered, on_record}
use Rattle.bench.specs.declared.Night as declared
use Rattle.bench.specs.declared.lines.Header.{Header}
use Rattle.bench.specs.declared.lines.Command.{Command}
use Rattle.bench.specs.declared.lines.Command.TheVariants.{Take, Return, Deliver}
use Rattle.bench.specs.Text.{answer_line, last_line}
use Rattle.bench.specs.Lines.{header_of, command_of}
use Rattle.bench.specs.Night.{lent, opened, post_of, seek}
use Rattle.bench.specs.Night as bench
use Rattle.bench.specs.Bench as bench-bytes
use Rattle.bench.specs.Output.{lines_from, output}
use Rattle.bench.specs.Output as bench-output
use Rattle.plans.specs.Plan.{basic}
use Rattle.plans.specs.Night.{Night, Ran, handed_back, next_of, passed, refused, begun, called, offered, ran}
use Rattle.plans.specs.Output.{in_phases, closing, answers_to, night_of, night_from, output_over}
use Rattle.plans.specs.Same.{BenchIsBasic}
use Rattle.plans.proofs.Ranges.{Sixteen, header_few, Within, command_within}

-- what is found stands in the list
seek_found : (p i : ℕ) (l : List Message) → seek p i l < 256 → (seek p i l < i + length l) × (0 < length l)
unfolding seek
seek_found p i [] h = absurd (omega arith)
seek_found p i (m ∷ ms) h = (pick (by p m) h (λ k. (seek_found p (i + 1) ms k).0), omega arith)
  where
    pick : (b : Bool) → cond b i (seek p (i + 1) ms) < 256 → (seek p (i + 1) ms < 256 → seek p (i + 1) ms < i + 1 + length ms)
        → cond b i (seek p (i + 1) ms) < i + length (m ∷ ms)
    pick true h f = omega arith
    pick false h f = let k = f h in omega arith

-- two read positions are at one place only if they are one
one_pair : (a c p q : ℕ) → c < 16 → q < 16 → 16 * a + c ≡ 16 * p + q → T (not (eqb a p && eqb c q)) → ⊥
one_pair a c p q lc lq e z =
    let f : a ≡ p = omega arith in
    let g : c ≡ q = omega arith in
    rw (eq-eqb a p f, eq-eqb c q g) at z

-- two choices by one test
either : {A : Type 0} (t : Bool) {x x' y y' : A} → (T t → x ≡ x') → y ≡ y' → cond t x y ≡ cond t x' y'
either true f e = f tt
either false f e = e

-- a post that has just started is idle
opened_idle : (n k p : ℕ) → (opened n k p).phase ≡ 0
unfolding opened started fresh
opened_idle n k p = cond_both {A = StartTold} (λ s. s.post.phase ≡ 0) (in_range (starting n p 0 k)) _ _ (λ y. refl) (λ z. refl)

module _ (n : ℕ) (few : n ≤ 16) where
  -- the two nights after i commands: the posts below N are the same, the others idle; the places filled hold what is sent, at most one
  -- for each command; the read positions are the same
  record Beside (i : ℕ) (s : declared.Night) (t : Night Post) : Type 0 where
    post : (p : ℕ) → p < n → post_of s p ≡ t.posts p
    idle : (p : ℕ) → n ≤ p → (post_of s p).phase ≡ 0
    sixteen : length s.posts ≡ 16
    sent : take s.count s.sent ≡ t.sent
    room : length s.sent ≡ 256
    count : s.count ≤ i
    read : (p q : ℕ) → p < 16 → q < 16 → get_or s.read (16 * p + q) 0 ≡ t.read p q
    reads : length s.read ≡ 256

  record RanBeside (i : ℕ) (r : bench.Ran) (u : Ran Post) : Type 0 where
    night : Beside i r.night u.night
    number : r.number ≡ u.number
    granted : r.granted ≡ u.granted

  -- a command that changes nothing
  later : (i : ℕ) (s : declared.Night) (t : Night Post) → Beside i s t → Beside (i + 1) s t
  later i s t b = record {
    post = b.post;
    idle = b.idle;
    sixteen = b.sixteen;
    sent = b.sent;
    room = b.room;
    count = let h = b.count in omega arith;
    read = b.read;
    reads = b.reads;
  }

  module _ (i : ℕ) (s : declared.Night) (t : Night Post) (b : Beside i s t) where
    -- a call's outcome handed back to both
    handed_beside : i < 256 → (p : ℕ) → p < n → (o : Outcome) → Beside (i + 1) (bench.handed_back s p (bench.called o)) (handed_back t p (answered o)).night
    unfolding bench.handed_back handed_back
    handed_beside h p l o = record {
      post = λ r k. test (eqb r p) (λ y. same r (eqb→eq r p y)) (λ z. other r k (neqb→ne r p z));
      idle = λ r k. ap (λ (x : Post). x.phase) (get_or-set_other s.posts p r o.gives.post (opened 0 0 0) (λ e. omega arith)) ∙ b.idle r k;
      sixteen = length-set s.posts p o.gives.post ∙ b.sixteen;
      sent = sends o.gives.wrote;
      room = cond_both (λ (x : List Message). length x ≡ 256) w _ _ (λ y. length-set s.sent s.count m ∙ b.room) (λ z. b.room);
      count = cond_both (λ (x : ℕ). x ≤ i + 1) w _ _ (λ y. let c = b.count in omega arith) (λ z. let c = b.count in omega arith);
      read = b.read;
      reads = b.reads;
    }
      where
        m : Message
        m = (fields_of o.leaves).message

        w : Bool
        w = o.gives.wrote && ltb s.count 256

        at_p : p < length s.posts
        at_p = let z = b.sixteen in omega arith

        in_room : s.count < 256
        in_room = let c = b.count in omega arith

        same : (r : ℕ) → r ≡ p → get_or (set s.posts p o.gives.post) r (opened 0 0 0) ≡ cond (eqb r p) o.gives.post (t.posts r)
        same r e = rw (eq-eqb r p e, e) (get_or-set_same s.posts p o.gives.post (opened 0 0 0) at_p)

        other : (r : ℕ) → r < n → (r ≡ p → ⊥) → get_or (set s.posts p o.gives.post) r (opened 0 0 0) ≡ cond (eqb r p) o.gives.post (t.posts r)
        other r k d = rw (ne_eqb r p d) (get_or-set_other s.posts p r o.gives.post (opened 0 0 0) d ∙ b.post r k)

        sends : (x : Bool) → take (cond (x && ltb s.count 256) (s.count + 1) s.count) (cond (x && ltb s.count 256) (set s.sent s.count m) s.sent)
            ≡ t.sent ++ cond x (m ∷ []) []
        sends true =
            rw (lt-ltb s.count 256 in_room)
            (ap (λ (x : ℕ). take x (set s.sent s.count m)) (add-one s.count)
            ∙ take-suc-set s.sent s.count m (let z = b.room in let c = in_room in omega arith)
            ∙ ap (λ (l : List Message). l ++ (m ∷ [])) b.sent)
        sends false = b.sent ∙ sym (append-nil t.sent)

    -- a take or a return
    own_beside : i < 256 → (p : ℕ) → p < n → (o : Own)
        → let c = bench.speaks o (post_of s p) in
        RanBeside (i + 1) (bench.answered (bench.handed_back s p c) c) (called basic t p (own_call o lent))
    unfolding basic on_record bench.speaks handed_back
    own_beside h p l o =
        let c = bench.speaks o (post_of s p) in
        subst (λ (x : Post). RanBeside (i + 1) (bench.answered (bench.handed_back s p c) c) (handed_back t p (answered (spoke o x lent)))) (b.post p l)
        (record { night = handed_beside h p l (spoke o (post_of s p) lent); number = refl; granted = refl })

    passed_beside : (p q j : ℕ) → p < 16 → q < 16 → Beside i (bench.passed s p q j) (passed t p q j)
    unfolding bench.passed passed
    passed_beside p q j lp lq = record {
      post = b.post;
      idle = b.idle;
      sixteen = b.sixteen;
      sent = b.sent;
      room = b.room;
      count = b.count;
      read = λ a c la lc. test (eqb a p && eqb c q) (this_pair a c) (other_pair a c la lc);
      reads = length-set s.read (16 * p + q) (j + 1) ∙ b.reads;
    }
      where
        this_pair : (a c : ℕ) → T (eqb a p && eqb c q) → get_or (set s.read (16 * p + q) (j + 1)) (16 * a + c) 0 ≡ cond (eqb a p && eqb c q) (j + 1) (t.read a c)
        this_pair a c y =
            let d = eqb→eq a p (and_l (eqb a p) (eqb c q) y) in
            let e = eqb→eq c q (and_r (eqb a p) (eqb c q) y) in
            rw (is_true (eqb a p && eqb c q) y, d, e)
            (get_or-set_same s.read (16 * p + q) (j + 1) 0 (let z = b.reads in omega arith))

        other_pair : (a c : ℕ) → a < 16 → c < 16 → T (not (eqb a p && eqb c q))
            → get_or (set s.read (16 * p + q) (j + 1)) (16 * a + c) 0 ≡ cond (eqb a p && eqb c q) (j + 1) (t.read a c)
        other_pair a c la lc z =
            rw (is_false (eqb a p && eqb c q) z)
            (get_or-set_other s.read (16 * p + q) (16 * a + c) (j + 1) 0 (λ e. one_pair a c p q lc lq e z) ∙ b.read a c la lc)

    next_beside : (p q : ℕ) → p < 16 → q < 16 → bench.next_of s p q ≡ next_of t p q
    unfolding bench.next_of next_of
    next_beside p q lp lq = λ j. seek p (b.read p q lp lq j) (drop (b.read p q lp lq j) (b.sent j))

    -- a next message stands among those sent
    next_there : i < 256 → (p q : ℕ) → bench.next_of s p q < 256 → bench.next_of s p q < s.count
    unfolding bench.next_of
    next_there h p q l =
        let x = get_or s.read (16 * p + q) 0 in
        let f = seek_found p x (drop x (take s.count s.sent)) l in
        let g = f.0 in
        let g' = f.1 in
        let d = length-drop x (take s.count s.sent) in
        let c = b.count in
        let r = b.room in
        let e = length-take-le s.count s.sent (omega arith) in
        omega arith

    closing_beside : (k : ℕ) → bench-bytes.closing k s ≡ closing basic n k t
    unfolding bench-bytes.closing bench-bytes.in_phases closing in_phases basic
    closing_beside k = ap₂ (last_line k) (phases 3 3 refl) (phases 1 2 refl)
      where
        phases : (lo hi : ℕ) → leb lo 0 ≡ false → bench-bytes.in_phases lo hi s.posts ≡ in_phases basic lo hi n t
        phases lo hi z =
            many-first (λ p. leb lo p.phase && leb p.phase hi) (opened 0 0 0) s.posts n (let c = b.sixteen in omega arith) (λ p l. rw (b.idle p l, z))
            ∙ sum_to_cong n _ _ (λ p l. ap (λ (x : Post). one? (leb lo x.phase && leb x.phase hi)) (b.post p l))

  module _ (i : ℕ) (s : declared.Night) (t : Night Post) (b : Beside i s t) where
    offered_beside : i < 256 → (p q j : ℕ) → p < n → q < n → j < s.count → RanBeside (i + 1) (bench.offered s p q j) (offered basic t p q j)
    unfolding bench.offered offered bench.receives basic on_record handed_back
    offered_beside h p q j lp lq lj =
        subst (λ (x : Post). RanBeside (i + 1) (bench.offered s p q j) (hearing x (get_or t.sent j blank))) (b.post q lq)
        (subst (λ (m : Message). RanBeside (i + 1) (bench.offered s p q j) (hearing (post_of s q) m)) same
        (record { night = pick (eqb o.gives.number 0); number = refl; granted = refl }))
      where
        same : get_or s.sent j blank ≡ get_or t.sent j blank
        same = sym (get_or-take s.count s.sent j blank lj) ∙ ap (λ (l : List Message). get_or l j blank) b.sent

        -- what the night over records does, by the record and the message
        hearing : Post → Message → Ran Post
        hearing x m =
            let r = handed_back t q (answered (received x (bytes_after lent 0 m) lent)) in
            record { night = cond (eqb r.number 0) (passed r.night p q j) r.night; number = r.number; granted = r.granted }

        o : Outcome
        o = received (post_of s q) (bytes_after lent 0 (get_or s.sent j blank)) lent

        there : Beside (i + 1) (bench.handed_back s q (bench.called o)) (handed_back t q (answered o)).night
        there = handed_beside i s t b h q lq o

        pick : (x : Bool) → Beside (i + 1) (cond x (bench.passed (bench.handed_back s q (bench.called o)) p q j) (bench.handed_back s q (bench.called o)))
            (cond x (passed (handed_back t q (answered o)).night p q j) (handed_back t q (answered o)).night)
        pick true = passed_beside (i + 1) _ _ there p q j (omega arith) (omega arith)
        pick false = there

    refused_beside : (number : ℕ) → RanBeside (i + 1) (bench.refused s number) (refused t number)
    refused_beside number = record { night = later i s t b; number = refl; granted = refl }

    ran_beside : i < 256 → (c : Option Command) → Within n c → RanBeside (i + 1) (bench.ran s c) (ran basic t c)
    unfolding bench.ran ran
    ran_beside h (Some (Take p)) w = own_beside i s t b h p w Taking
    ran_beside h (Some (Return p)) w = own_beside i s t b h p w Returning
    ran_beside h (Some (Deliver p q)) w =
        let lp = w.0 in
        let lq = w.1 in
        let j = bench.next_of s p q in
        subst (λ (x : ℕ). RanBeside (i + 1) (cond (leb 256 j) (bench.refused s 15) (bench.offered s p q j)) (cond (leb 256 x) (refused t 15) (offered basic t p q x)))
        (next_beside i s t b p q (omega arith) (omega arith))
        (pick j (leb 256 j) (λ z. offered_beside h p q j lp lq (next_there i s t b h p q (nleb→lt 256 j z))))
      where
        pick : (j : ℕ) (x : Bool) → (T (not x) → RanBeside (i + 1) (bench.offered s p q j) (offered basic t p q j))
            → RanBeside (i + 1) (cond x (bench.refused s 15) (bench.offered s p q j)) (cond x (refused t 15) (offered basic t p q j))
        pick j true f = refused_beside 15
        pick j false f = f tt
    ran_beside h None w = refused_beside 16

  answers_beside : (k : ℕ) (ls : List (List ℕ)) (i : ℕ) (s : declared.Night) (t : Night Post) → Beside i s t
      → bench-output.answers_to n k s i ls ≡ answers_to basic n k t i ls
  unfolding bench-output.answers_to answers_to
  answers_beside k [] i s t b = closing_beside i s t b k
  answers_beside k (l ∷ ls) i s t b =
      let c = command_of n l in
      either (ltb i 256)
      (λ y.
      let r = ran_beside i s t b (ltb→lt i 256 y) c (command_within n l) in
      let e = answers_beside k ls (i + 1) (bench.ran s c).night (ran basic t c).night r.night in
      λ j. answer_line (i + 1) c (r.number j) (r.granted j) ++ e j)
      (ap (λ (l : List ℕ). answer_line 257 None 17 false ++ l) (closing_beside i s t b k))

  begun_beside : (k : ℕ) → Beside 0 (bench.begun n k) (begun basic n k)
  unfolding bench.begun begun basic from opened
  begun_beside k = record {
    post = λ p l. placed p (omega arith);
    idle = λ p l. ⊎_elim
        (λ h. ap (λ (x : Post). x.phase) (get_or-eq_default (map (opened n k) (from 0 16)) (opened 0 0 0) h) ∙ opened_idle 0 0 0)
        (λ h. ap (λ (x : Post). x.phase) (placed p h) ∙ opened_idle n k p)
        (leb-total 16 p);
    sixteen = refl;
    sent = refl;
    room = refl;
    count = omega arith;
    read = λ p q lp lq. get_or-replicate 256 (16 * p + q) 0 0 (omega arith);
    reads = refl;
  }
    where
      placed : (p : ℕ) → p < 16 → get_or (map (opened n k) (from 0 16)) p (opened 0 0 0) ≡ opened n k p
      placed p l = mapped_at (opened n k) (opened 0 0 0) 0 16 p l ∙ ap (opened n k) (let e : 0 + p ≡ p = omega arith in e)

lines_beside : (ls : List (List ℕ)) → bench-output.night_from ls ≡ night_from basic ls
unfolding bench-output.night_from night_from
lines_beside [] = refl
lines_beside (l ∷ ls) = go (header_of l) (header_few l)
  where
    go : (h : Option Header) → Sixteen h → bench-output.night_of h ls ≡ night_of basic h ls
    go (Some h) few = answers_beside h.posts few h.places ls 0 (bench.begun h.posts h.places) (begun basic h.posts h.places) (begun_beside h.posts few h.places)
    go None few = refl

pub beside_records : BenchIsBasic
unfolding output output_over
beside_records input = lines_beside (lines_from [] input)
