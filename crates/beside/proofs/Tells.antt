-- What a call's reply tells of the queue after it: what the post sent, and what it accepted of whom. Assumes nothing.
use mathlib.Core.Path.{◌≡◌, refl, sym, ap, ◌∙◌, subst}
use mathlib.Core.Bool.{Bool, true, false, cond}
use mathlib.Core.List.{List, [], ◌∷◌, ◌++◌, append-nil, map}
use Prim.Native.Nat.{ℕ}
use lib.Dec.{eqb, not_T, eqb→eq, eqb_refl}
use lib.ListN.{length, take, drop}
use lib.Seq.{take_at}
use lib.Ieee.Bits.{is_false}
use Rattle.laws.specs.Below.{count_to, bits_to}
use Rattle.laws.specs.Ladder.{Row, refusal, unless}
use Rattle.laws.specs.Lists.{keep, put}
use Rattle.laws.proofs.Tests.{test, neqb→ne}
use Rattle.laws.proofs.RefusalLaws.{unless_both}
use Rattle.laws.proofs.ListLaws.{keep_yes, keep_no}
use Rattle.laws.proofs.RisingLaws.{keep-put_no}
use Rattle.frame.specs.declared.Message.{Message}
use Rattle.frame.specs.Message.{ack_kind, stamp, by}
use Rattle.frame.specs.Frame.{size, frame, over, fields_of}
use Rattle.calls.specs.declared.Own.{Own}
use Rattle.calls.specs.Own.{row_of}
use Rattle.calls.specs.Table.{own_tests, receive_tests}
use Rattle.calls.specs.declared.Start.{Start}
use Rattle.queue.specs.Queue.{Queue, value, lacks}
use Rattle.calls.specs.Replies.{Call, own_call, receive_call, value_call, missing_call, Reply, told, worth, lacking, Answer, refusing, refused}
use Rattle.calls.specs.View.{acks}
use Rattle.queue.specs.Calls.{view, saying, say, accept, said, received, on_queue}
use Rattle.queue.proofs.Good.{Sorted, New, sorted_new}
use Rattle.queue.proofs.Changes.{receives_new}
use Rattle.queue.proofs.Parts.{keep-say-last, others_said, others_accepted, sender_accepted}
use Rattle.beside.specs.Tells.{written}
use Rattle.beside.specs.Demand3.{taken, message_in, put_all}

-- the messages that the call brought and the reply accepted
abbrev pub came : Call → Reply → List Message
came c reply = map message_in (taken (record { call = c; reply = reply }))

pub record Tells (st : Start) (q : Queue) (c : Call) (a : Answer Queue) : Type 0 where
  -- what the post sent, and that it is what was written
  pub said : List Message
  pub sends : keep (by st.own) a.next ≡ keep (by st.own) q ++ said
  pub writes : written a.reply ≡ map (frame st.feeder) said
  -- what it has of another grows by what came of that post
  pub others : (r : ℕ) → (r ≡ st.own → ⊥) → keep (by r) a.next ≡ keep (by r) q ++ keep (by r) (came c a.reply)
  -- what came is put in its place, and then what was sent
  pub puts : a.next ≡ put_all (came c a.reply ++ said) q

one_frame : (f : ℕ) (m : Message) (rest : List ℕ) → take size (frame f m ++ rest) ≡ frame f m
one_frame f m rest = take_at (frame f m) rest size (unfold frame in refl)

module _ (st : Start) (q : Queue) where
  unchanged_tells : (c : Call) (r : Reply) → written r ≡ [] → came c r ≡ [] → Tells st q c (record { next = q; reply = r })
  unfolding keep
  unchanged_tells c r w e = record {
    said = [];
    sends = sym (append-nil (keep (by st.own) q));
    writes = w;
    others = λ x d. sym (ap (λ (l : List Message). keep (by x) q ++ keep (by x) l) e ∙ append-nil (keep (by x) q));
    puts = sym (ap (λ (l : List Message). put_all (l ++ []) q) e);
  }

  module _ (g : Sorted st q) where
    said-tells : (o : Own) (lent : List ℕ) (granted : Bool) → let m = saying st (row_of o).kind q in
        Tells st q (own_call o lent)
        (record { next = say st (row_of o).kind q; reply = told (record { number = 0; wrote = true; granted = granted; lent = over st.feeder m lent }) })
    unfolding keep say
    said-tells o lent granted =
        let m = saying st (row_of o).kind q in
        record {
          said = m ∷ [];
          sends = keep-say-last st q (by st.own) g (row_of o).kind (unfold saying in eqb_refl st.own);
          writes = ap (λ (l : List ℕ). l ∷ []) (one_frame st.feeder m (drop size lent));
          others = λ r d. others_said st q (row_of o).kind r d ∙ sym (append-nil (keep (by r) q));
          puts = refl;
        }

    unless-tells : (c : Call) (rows : List Row) (lent : List ℕ) (a : Answer Queue) → (refusal rows ≡ 0 → Tells st q c a)
        → Tells st q c (unless rows (refused q lent) a)
    unless-tells c rows lent a t =
        unless_both {A = Answer Queue} (Tells st q c) rows (refused q lent) a t
        (λ n z. unchanged_tells c (refusing lent n) refl (rw (is_false (eqb n 0) z)))

    module _ (s lent : List ℕ) (granted : Bool) (w : New st q (fields_of s).message) where
      abbrev m : Message
      m = (fields_of s).message

      abbrev p : Queue
      p = put stamp m q

      abbrev wrote : Bool
      wrote = acks (view st q) m

      -- of its own the acknowledgment, if there is one
      own_after : keep (by st.own) (accept st q m) ≡ keep (by st.own) q ++ cond wrote (saying st ack_kind p ∷ []) []
      unfolding accept
      own_after =
          let e = keep-put_no stamp (by st.own) m q (not_T (by st.own m) (λ y. w.other (eqb→eq m.sender st.own y))) in
          go wrote e
        where
          go : (b : Bool) → keep (by st.own) p ≡ keep (by st.own) q
              → keep (by st.own) (cond b (say st ack_kind p) p) ≡ keep (by st.own) q ++ cond b (saying st ack_kind p ∷ []) []
          go true e =
              keep-say-last st p (by st.own) (sorted_new st q g m w) ack_kind (unfold saying in eqb_refl st.own)
              ∙ ap (λ (l : List Message). l ++ (saying st ack_kind p ∷ [])) e
          go false e = e ∙ sym (append-nil (keep (by st.own) q))

      -- of another the message, if it is from there
      others_after : (r : ℕ) → (r ≡ st.own → ⊥) → keep (by r) (accept st q m) ≡ keep (by r) q ++ keep (by r) (m ∷ [])
      unfolding keep
      others_after r d =
          test (by r m)
          (λ y.
          let e = eqb→eq m.sender r y in
          subst (λ (x : ℕ). keep (by x) (accept st q m) ≡ keep (by x) q ++ keep (by x) (m ∷ [])) e
          (sender_accepted st q g m w ∙ ap (λ (l : List Message). keep (by m.sender) q ++ l) (sym (keep_yes (by m.sender) m [] (eqb_refl m.sender)))))
          (λ n.
          others_accepted st q r m d (λ e. neqb→ne m.sender r n (sym e))
          ∙ sym (ap (λ (l : List Message). keep (by r) q ++ l) (keep_no (by r) m [] n) ∙ append-nil (keep (by r) q)))

      accepted_tells : Tells st q (receive_call s lent)
          (record { next = accept st q m; reply = told (record { number = 0; wrote = wrote; granted = granted; lent = cond wrote (over st.feeder (saying st ack_kind p) lent) lent }) })
      unfolding accept say
      accepted_tells = record {
        said = cond wrote (saying st ack_kind p ∷ []) [];
        sends = own_after;
        writes = writes wrote;
        others = others_after;
        puts = puts wrote;
      }
        where
          writes : (b : Bool) → written (told (record { number = 0; wrote = b; granted = granted; lent = cond b (over st.feeder (saying st ack_kind p) lent) lent }))
              ≡ map (frame st.feeder) (cond b (saying st ack_kind p ∷ []) [])
          writes true = ap (λ (l : List ℕ). l ∷ []) (one_frame st.feeder (saying st ack_kind p) (drop size lent))
          writes false = refl

          puts : (b : Bool) → cond b (put stamp (saying st ack_kind p) p) p ≡ put_all (cond b (saying st ack_kind p ∷ []) []) p
          puts true = refl
          puts false = refl

    pub tells : (c : Call) → Tells st q c (on_queue st q c)
    unfolding on_queue said received
    tells (own_call o lent) =
        unless-tells (own_call o lent) (own_tests o (view st q) (length lent)) lent (said st q o lent) (λ y. said-tells o lent _)
    tells (receive_call s lent) =
        unless-tells (receive_call s lent) (receive_tests (view st q) s (length lent)) lent (received st q (fields_of s).message lent)
        (λ z. accepted_tells s lent _ (receives_new st q s (length lent) z))
    tells value_call = unchanged_tells value_call (worth 0 (value st q)) refl refl
    tells missing_call = unchanged_tells missing_call (lacking 0 (bits_to st.posts (lacks st q)) (count_to st.posts (lacks st q))) refl refl
