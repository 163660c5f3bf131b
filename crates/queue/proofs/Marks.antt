-- A call adds to the granted takes the own latest take exactly if it gives the grant mark. Assumes nothing.
use mathlib.Core.Path.{◌≡◌, refl, sym, ap, ◌∙◌}
use mathlib.Core.Logic.{◌⊎◌, inl, inr, ⊎_elim, ◌↔◌}
use mathlib.Core.Bool.{Bool, true, false, not, cond, ◌&&◌}
use mathlib.Core.List.{List, [], ◌∷◌, ◌++◌, append_assoc, append-nil}
use Prim.Native.Nat.{ℕ, ◌<◌}
use native.Mathlib.Omega.{arith}
use lib.Dec.{T, eqb, T_not, eqb→eq}
use lib.ListN.{length}
use mir.Facts.{yes_and}
use Rattle.laws.specs.Ladder.{Row, unless}
use Rattle.laws.specs.Lists.{In, put}
use Rattle.laws.proofs.Tests.{test, cond_both, and_l, and_r, or_l}
use Rattle.laws.proofs.RefusalLaws.{unless_both}
use Rattle.laws.proofs.ListLaws.{in_cast, in_left, in_right, in_append}
use Rattle.laws.proofs.RisingLaws.{rising_unique, rising_same, rising_snoc, in_put}
use Rattle.frame.specs.declared.Message.{Message}
use Rattle.frame.specs.Message.{ack_kind, is_take, is_return, stamp, by}
use Rattle.frame.specs.Frame.{fields_of}
use Rattle.calls.specs.declared.Own.TheVariants.{Taking, Returning}
use Rattle.calls.specs.Table.{own_tests, receive_tests}
use Rattle.calls.specs.declared.Start.{Start}
use Rattle.queue.specs.Queue.{Queue, grants, latest, phase}
use Rattle.calls.specs.Replies.{Call, own_call, receive_call, value_call, missing_call, Answer, refused, after}
use Rattle.calls.specs.View.{acks}
use Rattle.queue.specs.Calls.{view, saying, say, accept, grant_came, said, received, on_queue}
use Rattle.queue.specs.Demand3.{marked, marked_takes}
use Rattle.queue.proofs.Good.{Good, New, in_say, say_above}
use Rattle.queue.proofs.Changes.{Change, unchanged, spoke, accepted, change, good_change}
use Rattle.queue.proofs.Grow.{Later, later}
use Rattle.queue.proofs.Granted.{take_cast, grants_in, grants_rising, grants_grow, latest_most, idle_latest, holding-latest, latest-holding}
use Rattle.queue.proofs.Granted.{latest-said, latest_accepted}

abbrev pub holds : Start → Queue → Bool
holds st q = eqb (phase st q) 3

-- every own take but the latest is granted
abbrev pub Paid : Start → Queue → Type 0
Paid st q = (m : Message) → In m q → T (by st.own m) → T (is_take m) → (m ≡ latest st q) ⊎ In m (grants st q)

-- an own take after a call was granted before it or is the latest, and a post that holds after it held before exactly if that was granted
pub record Step (st : Start) (q q' : Queue) : Type 0 where
  pub takes_of : (m : Message) → In m q' → T (by st.own m) → T (is_take m) → (m ≡ latest st q') ⊎ In m (grants st q)
  pub held : T (holds st q') → T (holds st q) ↔ In (latest st q') (grants st q)

module _ (st : Start) (q : Queue) (g : Good st q) where
  -- what comes in brings no own take
  old_take : (m : Message) → New st q m → (x : Message) → In x (accept st q m) → T (by st.own x) → T (is_take x) → In x q
  unfolding accept saying
  old_take m w x i o y =
      cond_both (λ (l : Queue). In x l → In x q) (acks (view st q) m) (say st ack_kind p) p
      (λ c j. ⊎_elim (λ d. absurd (take_cast d y)) came (in_say st ack_kind p x j))
      (λ c. came)
      i
    where
      p : Queue
      p = put stamp m q

      other : x ≡ m → ⊥
      other d = w.other (sym (ap (λ (z : Message). z.sender) d) ∙ eqb→eq x.sender st.own o)

      came : In x p → In x q
      came j = ⊎_elim (λ d. absurd (other d)) (λ k. k) (in_put stamp m x q j)

  same-latest : (q' : Queue) → latest st q' ≡ latest st q → T (holds st q) ↔ In (latest st q') (grants st q)
  same-latest q' e = (λ z. in_cast (grants st q) (sym e) (holding-latest st q z), λ i. latest-holding st q (in_cast (grants st q) e i))

  pub step : (c : Call) (q' : Queue) → Change st q c q' → Paid st q → Step st q q'
  unfolding saying
  step c q' unchanged p = record { takes_of = p; held = λ y. same-latest q refl }
  step c q' (spoke {o = Taking} z l) p =
      let t = saying st 1 q in
      let e = latest-said st q g.sorted 1 tt in
      record {
        takes_of = λ m i o y.
            ⊎_elim
            (λ d. inl (d ∙ sym e))
            (λ j. ⊎_elim (λ d. absurd (T_not (is_take (latest st q)) (idle_latest st q z) (take_cast d y))) inr (p m j o y))
            (in_say st 1 q m i);
        held = λ y. (
          λ x. absurd (let a = eqb→eq (phase st q) 0 z in let b = eqb→eq (phase st q) 3 x in omega arith),
          λ i. absurd (let h = say_above st q g.sorted 1 t (grants_in st q t (in_cast (grants st q) e i)).here in omega arith),
        );
      }
  step c q' (spoke {o = Returning} z l) p = record {
    takes_of = λ m i o y.
        ⊎_elim
        (λ d. absurd (take_cast d y))
        (λ j. ⊎_elim (λ d. inr (in_cast (grants st q) (sym d) (holding-latest st q z))) inr (p m j o y))
        (in_say st 2 q m i);
    held = λ y. absurd (take_cast (latest-said st q g.sorted 2 tt) (grants_in st q' (latest st q') (holding-latest st q' y)).take);
  }
  step c q' (accepted {s = s} w) p =
      let e = latest_accepted st q (fields_of s).message w.other in
      record {
        takes_of = λ x i o y. ⊎_elim (λ d. inl (d ∙ sym e)) inr (p x (old_take (fields_of s).message w x i o y) o y);
        held = λ y. same-latest q' e;
      }

-- ---- what is granted grows by what is marked

-- the own take that a mark stands for
abbrev pub mark_list : Start → Queue → Queue → List Message
mark_list st q q' = cond (grant_came st q q') (latest st q' ∷ []) []

module _ (st : Start) (q q' : Queue) (l : Later st q q') (c : Step st q q') where
  pub paid_step : Paid st q'
  paid_step m i o t = ⊎_elim inl (λ j. inr (grants_grow st q q' l m j)) (c.takes_of m i o t)

  cover : (a : Message) → In a (grants st q') → (a ≡ latest st q') ⊎ In a (grants st q)
  cover a i = let g = grants_in st q' a i in c.takes_of a g.here g.own g.take

  below : T (holds st q') → T (not (holds st q)) → (b : Message) → In b (grants st q) → stamp b < stamp (latest st q')
  below y n b i =
      let g = grants_in st q' b (grants_grow st q q' l b i) in
      let most = latest_most st q' b l.after g.here g.own (or_l (is_take b) (is_return b) g.take) in
      let z = (grants_in st q' (latest st q') (holding-latest st q' y)).here in
      let same : stamp b ≡ stamp (latest st q') → b ≡ latest st q' = rising_unique stamp q' b (latest st q') l.after g.here z in
      let other : stamp b ≡ stamp (latest st q') → ⊥ = λ e. T_not (holds st q) n ((c.held y).1 (in_cast (grants st q) (same e) i)) in
      omega arith

  with_mark : T (grant_came st q q') → grants st q' ≡ grants st q ++ (latest st q' ∷ [])
  unfolding grant_came
  with_mark y =
      let n = and_l (not (holds st q)) _ y in
      let z = and_r (not (holds st q)) _ y in
      let one = latest st q' ∷ [] in
      rising_same stamp (grants st q') (grants st q ++ one) (grants_rising st q' l.after)
      (rising_snoc stamp (latest st q') (grants st q) (grants_rising st q l.before) (below z n))
      (λ a i. ⊎_elim (λ e. in_right a (grants st q) one (inl e)) (in_left a (grants st q) one) (cover a i))
      (λ a i.
      ⊎_elim
      (grants_grow st q q' l a)
      (⊎_elim (λ e. in_cast (grants st q') (sym e) (holding-latest st q' z)) absurd)
      (in_append a (grants st q) one i))

  without_mark : T (not (grant_came st q q')) → grants st q' ≡ grants st q
  unfolding grant_came
  without_mark n =
      rising_same stamp (grants st q') (grants st q) (grants_rising st q' l.after) (grants_rising st q l.before)
      (λ a i. ⊎_elim (old a i) (λ j. j) (cover a i))
      (grants_grow st q q' l)
    where
      old : (a : Message) → In a (grants st q') → a ≡ latest st q' → In a (grants st q)
      old a i e =
          let z = latest-holding st q' (in_cast (grants st q') e i) in
          in_cast (grants st q) (sym e)
          (test (holds st q) (c.held z).0 (λ k. absurd (T_not (grant_came st q q') n (yes_and (not (holds st q)) _ k z))))

  pub grants_step : grants st q' ≡ grants st q ++ mark_list st q q'
  grants_step =
      cond_both (λ x. grants st q' ≡ grants st q ++ x) (grant_came st q q') (latest st q' ∷ []) []
      with_mark
      (λ n. without_mark n ∙ sym (append-nil (grants st q)))

-- ---- the mark that a call gives

none : (b : Bool) → false ≡ (not b && b)
none true = refl
none false = refl

told_or-refused : (st : Start) (q : Queue) (rows : List Row) (lent : List ℕ) (a : Answer Queue) → marked a.reply ≡ grant_came st q a.next
    → let b = unless rows (refused q lent) a in marked b.reply ≡ grant_came st q b.next
unfolding grant_came
told_or-refused st q rows lent a e =
    unless_both {A = Answer Queue} (λ b. marked b.reply ≡ grant_came st q b.next) rows (refused q lent) a (λ z. e) (λ n d. none (holds st q))

pub mark-came : (st : Start) (q : Queue) (c : Call) → marked (on_queue st q c).reply ≡ grant_came st q (on_queue st q c).next
unfolding on_queue said received grant_came
mark-came st q (own_call o lent) = told_or-refused st q (own_tests o (view st q) (length lent)) lent (said st q o lent) refl
mark-came st q (receive_call s lent) = told_or-refused st q (receive_tests (view st q) s (length lent)) lent (received st q (fields_of s).message lent) refl
mark-came st q value_call = none (holds st q)
mark-came st q missing_call = none (holds st q)

pub grants-marked : (st : Start) (calls : List Call) (q : Queue) → Good st q → Paid st q
    → grants st (after (on_queue st) q calls) ≡ grants st q ++ marked_takes st q calls
unfolding after marked_takes
grants-marked st [] q g p = sym (append-nil (grants st q))
grants-marked st (c ∷ calls) q g p =
    let q' = (on_queue st q c).next in
    let d = change st q c in
    let l = later st q g.sorted c q' d in
    let k = step st q g c q' d p in
    let rest = marked_takes st q' calls in
    grants-marked st calls q' (good_change st c q q' d g) (paid_step st q q' l k)
    ∙ ap (λ (x : List Message). x ++ rest) (grants_step st q q' l k)
    ∙ append_assoc (grants st q) (mark_list st q q') rest
    ∙ ap (λ (b : Bool). grants st q ++ (cond b (latest st q' ∷ []) [] ++ rest)) (sym (mark-came st q c))
