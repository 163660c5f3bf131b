-- Each promise is an equation with a definition, and a result is told by its number. Assumes nothing.
use mathlib.Core.Path.{◌≡◌, refl, ◌∙◌, sym}
use Rattle.std.specs.Prelude.{Result, Ok, Err, false, ℤ}
use Rattle.laws.specs.One.{OneAfter}
use Rattle.laws.proofs.OneLaws.{one}
use Rattle.frame.specs.declared.refusal.Refusal.{Refusal}
use Rattle.frame.proofs.Refusals.{result_at, of_number, result_back, told_apart}
use Rattle.post.specs.declared.{Post.{Post}, Started.{Started}, Marks.{Marks}, Answer.{Answer}, Missing.{Missing}}
use Rattle.post.specs.{Sound.{sound}, Calls.{StartTold, start_told, started, AnswerTold, outcome_told, answer_told, Outcome, Gives, spoke, received, ValueTold, value_told, valued, MissingTold, missing_told, missed}, Unique.{Unique}}

start_back : StartTold → Started
start_back t = record { post = t.post; outcome = result_at t.number tt }

as_started : (s : Started) → start_back (start_told s) ≡ s
unfolding start_back
as_started s = λ i. record { post = s.post; outcome = result_back s.outcome i }

answer_back : AnswerTold → Answer
answer_back t = record { post = t.post; outcome = result_at t.number (record { wrote = t.wrote; granted = t.granted }) }

as_answer : (p : Post) (r : Result Marks Refusal) → answer_back (outcome_told p r) ≡ record { post = p; outcome = r }
unfolding answer_back result_at
as_answer p (Ok m) = refl
as_answer p (Err r) = λ i. record { post = p; outcome = of_number r (record { wrote = false; granted = false }) i }

value_back : ValueTold → Result ℤ Refusal
value_back t = result_at t.number t.value

as_value : (r : Result ℤ Refusal) → value_back (value_told r) ≡ r
unfolding value_back result_at
as_value (Ok v) = refl
as_value (Err r) = of_number r _

missing_back : MissingTold → Result Missing Refusal
missing_back t = result_at t.number (record { set = t.set; count = t.count })

as_missing : (r : Result Missing Refusal) → missing_back (missing_told r) ≡ r
unfolding missing_back result_at
as_missing (Ok m) = refl
as_missing (Err r) = of_number r _

gives_one : (o : Outcome) → OneAfter Answer (Gives o)
gives_one o a b x y p q = (told_apart answer_told answer_back (λ c. as_answer c.post c.outcome) o.gives a b p.gives q.gives, p.leaves ∙ sym q.leaves)

pub unique : Unique
unique = record {
  start = λ st. told_apart start_told start_back as_started (started st);
  sound? = λ p. one (sound p);
  own = λ o p lent. gives_one (spoke o p lent);
  receive = λ p s lent. gives_one (received p s lent);
  value = λ p. told_apart value_told value_back as_value (valued p);
  missing = λ p. told_apart missing_told missing_back as_missing (missed p);
}
