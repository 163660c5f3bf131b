-- Two plans whose posts go in step, call by call, write the same for every input. Assumes nothing.
use mathlib.Core.Path.{◌≡◌, refl, sym, ap, ap₂, subst}
use mathlib.Core.Bool.{Bool, true, false, cond, ◌&&◌}
use mathlib.Core.List.{List, [], ◌∷◌, ◌++◌}
use Prim.Native.Nat.{ℕ, ◌+◌, ◌<◌}
use Rattle.std.specs.Prelude.{Option, Some, None}
use lib.Dec.{T, leb, ltb, eqb, eqb→eq}
use lib.ListN.{get_or, drop}
use Rattle.laws.specs.Below.{one?}
use Rattle.laws.proofs.BelowLaws.{sum_to_cong}
use Rattle.frame.specs.declared.Message.{Message}
use Rattle.frame.specs.Message.{blank}
use Rattle.frame.specs.Frame.{bytes_after}
use Rattle.calls.specs.declared.Start.{Start}
use Rattle.calls.specs.Start.{starting}
use Rattle.calls.specs.declared.Own.TheVariants.{Taking, Returning}
use Rattle.calls.specs.Replies.{Call, own_call, receive_call, Reply, Answer}
use Rattle.queue.proofs.Fitting.{CounterFits}
use Rattle.beside.specs.Demand2.{Accepted}
use Rattle.bench.specs.declared.lines.Header.{Header}
use Rattle.bench.specs.declared.lines.Command.{Command}
use Rattle.bench.specs.declared.lines.Command.TheVariants.{Take, Return, Deliver}
use Rattle.bench.specs.Text.{answer_line, last_line}
use Rattle.bench.specs.Lines.{header_of, command_of}
use Rattle.bench.specs.Night.{lent, seek}
use Rattle.bench.specs.Output.{lines_from}
use Rattle.plans.specs.Plan.{Plan}
use Rattle.plans.specs.Night.{Night, Ran, telling, written, handed_back, next_of, passed, refused, begun, called, offered, ran}
use Rattle.plans.specs.Output.{in_phases, closing, answers_to, night_of, night_from, output_over}
use Rattle.plans.proofs.Ranges.{Starts, header_starts, Within, command_within, sent_fits}

-- two answers that tell the same, and leave posts that go in step
pub record Together {S S' : Type 0} (R : S → S' → Type 0) (x : Answer S) (y : Answer S') : Type 0 where
  pub next : R x.next y.next
  pub reply : x.reply ≡ y.reply

-- R keeps two posts of a start in step
pub record InStep {S S' : Type 0} (A : Plan S) (B : Plan S') (R : Start → S → S' → Type 0) : Type 0 where
  pub begins : (st : Start) → Accepted st → R st (A.begins st) (B.begins st)
  pub steps : (st : Start) → Accepted st → (a : S) (b : S') → R st a b → (c : Call) → CounterFits c → Together (R st) (A.step a c) (B.step b c)
  pub phases : (st : Start) (a : S) (b : S') → R st a b → A.phase a ≡ B.phase b

module _ {S S' : Type 0} (A : Plan S) (B : Plan S') (R : Start → S → S' → Type 0) (go_on : InStep A B R) where
  module _ (n k : ℕ) (fits : (p : ℕ) → p < n → Accepted (starting n p 0 k)) where
    -- two nights: each post in step, the same sent, the same read
    record Alike (s : Night S) (t : Night S') : Type 0 where
      posts : (p : ℕ) → p < n → R (starting n p 0 k) (s.posts p) (t.posts p)
      sent : s.sent ≡ t.sent
      read : s.read ≡ t.read

    record RanAlike (r : Ran S) (u : Ran S') : Type 0 where
      night : Alike r.night u.night
      number : r.number ≡ u.number
      granted : r.granted ≡ u.granted

    handed_alike : (s : Night S) (t : Night S') → Alike s t → (p : ℕ) (x : Answer S) (y : Answer S') → Together (R (starting n p 0 k)) x y
        → RanAlike (handed_back s p x) (handed_back t p y)
    unfolding handed_back
    handed_alike s t a p x y e = record {
      night = record {
        posts = λ r l. pick r l (eqb r p) (λ h. subst (λ (z : ℕ). R (starting n z 0 k) x.next y.next) (sym (eqb→eq r p h)) e.next);
        sent = λ i. a.sent i ++ written (telling (e.reply i));
        read = a.read;
      };
      number = ap (λ (z : Reply). (telling z).number) e.reply;
      granted = ap (λ (z : Reply). (telling z).granted) e.reply;
    }
      where
        pick : (r : ℕ) → r < n → (b : Bool) → (T b → R (starting n r 0 k) x.next y.next)
            → R (starting n r 0 k) (cond b x.next (s.posts r)) (cond b y.next (t.posts r))
        pick r l true h = h tt
        pick r l false h = a.posts r l

    module _ (s : Night S) (t : Night S') (a : Alike s t) where
      called_alike : (p : ℕ) → p < n → (c : Call) → CounterFits c → RanAlike (called A s p c) (called B t p c)
      called_alike p l c f = handed_alike s t a p _ _ (go_on.steps (starting n p 0 k) (fits p l) (s.posts p) (t.posts p) (a.posts p l) c f)

      passed_alike : (p q i : ℕ) → Alike (passed s p q i) (passed t p q i)
      unfolding passed
      passed_alike p q i = record {
        posts = a.posts;
        sent = a.sent;
        read = ap (λ (f : ℕ → ℕ → ℕ). λ (x y : ℕ). cond (eqb x p && eqb y q) (i + 1) (f x y)) a.read;
      }

      refused_alike : (number : ℕ) → RanAlike (refused s number) (refused t number)
      refused_alike number = record { night = a; number = refl; granted = refl }

      next_alike : (p q : ℕ) → next_of s p q ≡ next_of t p q
      unfolding next_of
      next_alike p q = λ i. seek p (a.read i p q) (drop (a.read i p q) (a.sent i))

      closing_alike : closing A n k s ≡ closing B n k t
      unfolding closing in_phases
      closing_alike = ap₂ (last_line k) (phases_alike 3 3) (phases_alike 1 2)
        where
          phases_alike : (lo hi : ℕ) → in_phases A lo hi n s ≡ in_phases B lo hi n t
          phases_alike lo hi =
              sum_to_cong n _ _ (λ p l.
              ap (λ (x : ℕ). one? (leb lo x && leb x hi)) (go_on.phases (starting n p 0 k) (s.posts p) (t.posts p) (a.posts p l)))

    -- the call by which a message is handed on
    abbrev handing : Message → Call
    handing m = receive_call (bytes_after lent 0 m) lent

    offered_alike : (s : Night S) (t : Night S') → Alike s t → (p q i : ℕ) → q < n → RanAlike (offered A s p q i) (offered B t p q i)
    unfolding offered
    offered_alike s t a p q i l = record {
      night =
          subst (λ (m : ℕ). Alike (cond (eqb r.number 0) (passed r.night p q i) r.night) (cond (eqb m 0) (passed u.night p q i) u.night))
          e.number
          (pick (eqb r.number 0));
      number = e.number;
      granted = e.granted;
    }
      where
        r : Ran S
        r = called A s q (handing (get_or s.sent i blank))

        u : Ran S'
        u = called B t q (handing (get_or t.sent i blank))

        e : RanAlike r u
        e =
            subst (λ (sent : List Message). RanAlike r (called B t q (handing (get_or sent i blank)))) a.sent
            (called_alike s t a q l (handing (get_or s.sent i blank)) (sent_fits 0 (get_or s.sent i blank)))

        pick : (b : Bool) → Alike (cond b (passed r.night p q i) r.night) (cond b (passed u.night p q i) u.night)
        pick true = passed_alike r.night u.night e.night p q i
        pick false = e.night

    ran_alike : (s : Night S) (t : Night S') → Alike s t → (c : Option Command) → Within n c → RanAlike (ran A s c) (ran B t c)
    unfolding ran
    ran_alike s t a (Some (Take p)) w = called_alike s t a p w (own_call Taking lent) tt
    ran_alike s t a (Some (Return p)) w = called_alike s t a p w (own_call Returning lent) tt
    ran_alike s t a (Some (Deliver p q)) w =
        let i = next_of s p q in
        subst (λ (j : ℕ). RanAlike (cond (leb 256 i) (refused s 15) (offered A s p q i)) (cond (leb 256 j) (refused t 15) (offered B t p q j)))
        (next_alike s t a p q)
        (pick i (leb 256 i))
      where
        pick : (i : ℕ) (b : Bool) → RanAlike (cond b (refused s 15) (offered A s p q i)) (cond b (refused t 15) (offered B t p q i))
        pick i true = refused_alike s t a 15
        pick i false = offered_alike s t a p q i w.1
    ran_alike s t a None w = refused_alike s t a 16

    answers_alike : (ls : List (List ℕ)) (i : ℕ) (s : Night S) (t : Night S') → Alike s t → answers_to A n k s i ls ≡ answers_to B n k t i ls
    unfolding answers_to
    answers_alike [] i s t a = closing_alike s t a
    answers_alike (l ∷ ls) i s t a =
        let c = command_of n l in
        let r = ran_alike s t a c (command_within n l) in
        let e = answers_alike ls (i + 1) (ran A s c).night (ran B t c).night r.night in
        λ j. cond (ltb i 256) (answer_line (i + 1) c (r.number j) (r.granted j) ++ e j) (answer_line 257 None 17 false ++ closing_alike s t a j)

    begun_alike : Alike (begun A n k) (begun B n k)
    unfolding begun
    begun_alike = record { posts = λ p l. go_on.begins (starting n p 0 k) (fits p l); sent = refl; read = refl }

  lines_alike : (ls : List (List ℕ)) → night_from A ls ≡ night_from B ls
  unfolding night_from
  lines_alike [] = refl
  lines_alike (l ∷ ls) = go (header_of l) (header_starts l)
    where
      go : (h : Option Header) → Starts h → night_of A h ls ≡ night_of B h ls
      go (Some h) starts = answers_alike h.posts h.places starts ls 0 (begun A h.posts h.places) (begun B h.posts h.places) (begun_alike h.posts h.places starts)
      go None starts = refl

  pub same-output : (input : List ℕ) → output_over A input ≡ output_over B input
  unfolding output_over
  same-output input = lines_alike (lines_from [] input)
