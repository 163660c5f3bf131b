-- By cases. Assumes nothing.
use Rattle.std.proofs.Common.{◌≡◌, refl, ap, sym, subst, ◌∙◌, List, ℕ, ◌+◌, get_or, rules, Some, Option}
use mathlib.Core.Bool.{Bool, true, false, true≢false}
use native.Mathlib.Omega.{arith}
use lib.ListN.{set}
use Rattle.std.specs.Prelude.{Result, Ok, Err, is_ok}
use Rattle.frame.specs.declared.refusal.Refusal.{Refusal}
use Rattle.calls.specs.declared.Own.TheVariants.{Taking, Returning}
use Rattle.post.specs.Calls.{spoke, received, Gives}
use Rattle.frame.specs.Message.{blank}
use Rattle.frame.specs.Frame.{bytes_after}
use Rattle.frame.specs.Refusal.{number_in}
use Rattle.frame.proofs.Refusals.{not_zero}
use Rattle.bench.specs.declared.{lines.Command.{Command}, Night.{Night}}
use Rattle.post.specs.declared.{Post.{Post}, Answer.{Answer}}
use Rattle.bench.specs.Night.{lent, speaks, receives, post_of, handed_back, answered, passed, ran}
use Rattle.bench.specs.Inside.{giving, heard}
use Rattle.bench.proofs.Nights.{called_on, accepted, stays_next, none_next, one_next}
use Rattle.bench.proofs.Night.run.Goals as goal

named : {c : Option Command} {d e : Command} → c ≡ Some d → d ≡ e → c ≡ Some e
named p q = p ∙ ap Some q

-- a result is done where its number is 0
done : (r : Result Bool Refusal) → is_ok r ≡ true → number_in r ≡ 0
done (Ok b) e = refl
done (Err r) e = absurd (true≢false (sym e))

not_done : (r : Result Bool Refusal) → is_ok r ≡ false → number_in r ≡ 0 → ⊥
not_done (Ok b) e = absurd (true≢false e)
not_done (Err r) e = not_zero r

pub returns-in_default : goal.returns-in_default
unfolding ran
returns-in_default c = ap (ran c.args.self.now) (sym c.in_default.is)

pub returns-in_default-next : goal.returns-in_default-next
returns-in_default-next c =
    let s = c.args.self.now in
    none_next s _ _ _ c.in_default-next.ensures.place (omega arith) ∙ ap (ran s) (sym (named c.in-Some.is c.in-Deliver.is))

pub returns-in-Take : goal.returns-in-Take
unfolding ran speaks
returns-in-Take c =
    let w = c.call.ensures in
    let s = c.args.self.now in
    called_on s _ _ (spoke Taking) c.in-Take.p w.0 w.1.now w.2.now w.3 w.4 w.5 (search rules) w.7 ∙ ap (ran s) (sym (named c.in-Some.is c.in-Take.is))

pub returns-in-Return : goal.returns-in-Return
unfolding ran speaks
returns-in-Return c =
    let w = c.call-in-Return.ensures in
    let s = c.args.self.now in
    called_on s _ _ (spoke Returning) c.in-Return.p w.0 w.1.now w.2.now w.3 w.4 w.5 (search rules) w.7 ∙ ap (ran s) (sym (named c.in-Some.is c.in-Return.is))

-- what receive gave and left, of the frame that was written of message i
heard_of : (s s' : Night) (g : Result Bool Refusal) (q i : ℕ) (frame : List ℕ) (post : Post) (buf after : List ℕ) (a : Answer)
    → frame ≡ bytes_after lent 0 (get_or s.sent i blank) → post ≡ post_of s q → buf ≡ lent → Gives (received post frame buf) a after
    → giving s' g ≡ answered (handed_back s q (heard a after)) (heard a after)
    → giving s' g ≡ answered (handed_back s q (receives (post_of s q) (get_or s.sent i blank))) (receives (post_of s q) (get_or s.sent i blank))
unfolding receives
heard_of s s' g q i frame post buf after a f e d o h =
    called_on s s' g (λ r. received r (bytes_after lent 0 (get_or s.sent i blank))) q post buf after a e d
    (subst (λ (l : List ℕ). Gives (received post l buf) a after) f o) h

pub returns-then-is_ok : goal.returns-then-is_ok
unfolding passed
returns-then-is_ok c =
    let w = c.call-outcome.ensures in
    let s = c.args.self.now in
    let q = c.in-Deliver.q in
    let i = c.in-Some-next.i in
    let g = c.call-outcome.result in
    let n = c.call-outcome.new.self in
    let m = heard_of s n g q i c.write.new.buf w.0 w.1.now w.2.now w.3 c.write.ensures.leaves w.4 w.5 (search rules) w.7 in
    (λ j. giving (record { posts = n.posts; sent = n.sent; count = n.count; read = set n.read (c.place.ensures.0 j) (i + 1) }) g)
    ∙ accepted s n g c.in-Deliver.p q i m (done g (sym c.is_ok.ensures.value ∙ c.if-is_ok.true))
    ∙ one_next s c.in-Deliver.p q i c.in-Some-next.ensures.place c.in-Some-next.ensures.within
    ∙ ap (ran s) (sym (named c.in-Some.is c.in-Deliver.is))

pub returns-else-is_ok : goal.returns-else-is_ok
returns-else-is_ok c =
    let w = c.call-outcome.ensures in
    let s = c.args.self.now in
    let q = c.in-Deliver.q in
    let i = c.in-Some-next.i in
    let g = c.call-outcome.result in
    let m = heard_of s c.call-outcome.new.self g q i c.write.new.buf w.0 w.1.now w.2.now w.3 c.write.ensures.leaves w.4 w.5 (search rules) w.7 in
    stays_next s _ g c.in-Deliver.p q i m (not_done g (sym c.is_ok.ensures.value ∙ c.if-is_ok.false))
    ∙ one_next s c.in-Deliver.p q i c.in-Some-next.ensures.place c.in-Some-next.ensures.within
    ∙ ap (ran s) (sym (named c.in-Some.is c.in-Deliver.is))
