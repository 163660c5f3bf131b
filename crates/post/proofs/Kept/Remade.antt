-- A record with the last counters raised, and with the same messages or one more waiting, is sound once it is settled. Assumes nothing.
use mathlib.Core.Path.{◌≡◌, sym, ap, ◌∙◌, subst}
use mathlib.Core.Logic.{⊎_elim}
use mathlib.Core.List.{List}
use Prim.Native.Nat.{ℕ, ◌+◌, ◌-◌, ◌≤◌, ◌<◌}
use native.Mathlib.Omega.{arith}
use lib.Dec.{T, eqb, eqb→eq}
use lib.ListN.{length, replicate}
use lib.Seq.{take-append_seam}
use Rattle.laws.specs.Lists.{In, many, put, Rising}
use Rattle.laws.proofs.Tests.{test}
use Rattle.laws.proofs.BelowLaws.{one_yes}
use Rattle.laws.proofs.RisingLaws.{in_put, rising_put, keep-put_no}
use Rattle.laws.proofs.CountLaws.{length-put, many-put}
use Rattle.frame.specs.declared.Message.{Message}
use Rattle.frame.specs.Message.{blank, last_counter, stamp, by}
use Rattle.post.specs.declared.Post.{Post}
use Rattle.post.specs.Record.{last_of, waiting_of, remade}
use Rattle.post.specs.Settle.{free, settle}
use Rattle.post.proofs.Sound.Facts.{Fair, Sound}
use Rattle.post.proofs.Sound.Passes.{sound_passes}
use Rattle.post.proofs.Fields.Shape.{Kept, length-waiting}
use Rattle.post.proofs.Fields.Most.{most}
use Rattle.post.proofs.Own.Standing.{Stands}
use Rattle.post.proofs.Kept.Raised.{Raised}
use Rattle.post.proofs.Settle.Settles.{Ready, settles, settles_shape, settles_width}

pub remade-waiting : (p : Post) (c : ℕ) (last : List ℕ) (ms : List Message) (phase order : ℕ) → waiting_of (remade p c last ms phase order) ≡ ms
unfolding remade
remade-waiting p c last ms phase order = take-append_seam ms (replicate (62 - length ms) blank)

module _ (p : Post) (k : Kept p) (s : Sound p) (c d : ℕ) (last : List ℕ) (up : Raised p last c d) (width : c ≤ last_counter) (phase order : ℕ) where
  ready : (ms : List Message) → length ms ≤ 62 → length ms ≤ p.waits + d → ((m : Message) → In m ms → Fair p.posts last m) → Rising stamp ms
      → ((q : ℕ) → q < p.posts → (q ≡ p.own → ⊥) → many (by q) ms ≤ 4) → Stands p.own phase order p.takes ms
      → (phase ≡ 3 → T (free (remade p c last ms phase order))) → Ready (remade p c last ms phase order) ms
  unfolding remade
  ready ms long more fair rising few stands held = record {
    range = s.range;
    long = long;
    absent = up.absent;
    clock = up.clock;
    width = width;
    fair = fair;
    rising = rising;
    few = few;
    stands = stands;
    held = held;
    sum = omega arith;
  }

  rows : (ms : List Message) → length (remade p c last ms phase order).last ≡ 16
  unfolding remade
  rows ms = up.long

  kept_of : (ms : List Message) → Ready (remade p c last ms phase order) ms → Kept (settle (remade p c last ms phase order))
  kept_of ms r =
      let q = remade p c last ms phase order in
      let t = subst (Ready q) (sym (remade-waiting p c last ms phase order)) r in
      record { sound = sound_passes (settle q) (settles q t); shape = settles_shape q t (rows ms); width = settles_width q t }

  fair_still : (m : Message) → In m (waiting_of p) → Fair p.posts last m
  fair_still m i =
      let f = s.fair m i in
      record { sender = f.sender; kind = f.kind; low = f.low; high = let b = up.up m.sender in omega arith }

  pub kept_same : Stands p.own phase order p.takes (waiting_of p) → (phase ≡ 3 → T (free (remade p c last (waiting_of p) phase order)))
      → Kept (settle (remade p c last (waiting_of p) phase order))
  kept_same stands held =
      let l = length-waiting p s k.shape in
      kept_of (waiting_of p) (ready (waiting_of p) (omega arith) (omega arith) fair_still s.rising s.few stands held)

  -- with a message more that its sender's last counter was below
  pub kept_put : (m : Message) → 1 ≤ d → Fair p.posts last m → last_of p m.sender < m.counter → ((m.sender ≡ p.own → ⊥) → many (by m.sender) (waiting_of p) < 4)
      → Stands p.own phase order p.takes (put stamp m (waiting_of p)) → (phase ≡ 3 → T (free (remade p c last (put stamp m (waiting_of p)) phase order)))
      → Kept (settle (remade p c last (put stamp m (waiting_of p)) phase order))
  kept_put m one f new less stands held =
      let l = length-waiting p s k.shape in
      let e = length-put stamp m (waiting_of p) in
      let w = most p k.shape k.width k.sound in
      kept_of (put stamp m (waiting_of p)) (ready (put stamp m (waiting_of p)) (omega arith) (omega arith)
      (λ a i. ⊎_elim (λ x. subst (Fair p.posts last) (sym x) f) (fair_still a) (in_put stamp m a (waiting_of p) i))
      (rising_put stamp m (waiting_of p) s.rising other)
      few stands held)
    where
      other : (a : Message) → In a (waiting_of p) → stamp a ≡ stamp m → ⊥
      other a i e =
          let g = s.fair a i in
          let b : a.sender ≡ m.sender = omega arith in
          let v = ap (last_of p) b in
          omega arith

      few : (q : ℕ) → q < p.posts → (q ≡ p.own → ⊥) → many (by q) (put stamp m (waiting_of p)) ≤ 4
      few q lq dq =
          test (eqb m.sender q)
          (λ y. let e = eqb→eq m.sender q y in
          let a = many-put (by q) stamp m (waiting_of p) in
          let b = one_yes (by q m) y in
          let g : many (by m.sender) (waiting_of p) ≡ many (by q) (waiting_of p) = ap (λ (x : ℕ). many (by x) (waiting_of p)) e in
          let z = less (λ x. dq (sym e ∙ x)) in
          omega arith)
          (λ y. let a = ap length (keep-put_no stamp (by q) m (waiting_of p) y) in let b = s.few q lq dq in omega arith)
