-- Each promise is an equation with a definition, and a result is told by its number. Assumes nothing.
use mathlib.Core.Path.{◌≡◌, refl, ◌∙◌, sym}
use Rattle.std.specs.Prelude.{Result, Ok, Err}
use Rattle.laws.specs.Ladder.{refusal}
use Rattle.laws.proofs.OneLaws.{one}
use Rattle.frame.specs.{Message.{msg}, Kind.{kind_number}, Refusal.{number}}
use Rattle.frame.specs.{declared.Reading.{Reading}, declared.refusal.Refusal.{Refusal}, Frame.{ReadingTold, fields_of, form_rows, reading_told, read_frame}, Unique.{Unique}}
use Rattle.frame.proofs.Refusals.{result_at, of_number, told_apart, one_number, one_read}

read_back : ReadingTold → Result Reading Refusal
read_back t = result_at t.number (record { feeder = t.feeder; message = t.message })

as_read : (r : Result Reading Refusal) → read_back (reading_told r) ≡ r
unfolding read_back result_at
as_read (Ok r) = refl
as_read (Err r) = of_number r _

pub unique : Unique
unique = record {
  number = λ r. one (number r);
  try_from = one_read;
  new = λ k p c. one (msg (kind_number k) p c);
  split = λ s. one (fields_of s);
  check_form = λ n f. one_number (refusal (form_rows n f));
  read = λ s. told_apart reading_told read_back as_read (read_frame s);
  write = λ old f m a b x y p q. (one_number _ a b p.gives q.gives, p.leaves ∙ sym q.leaves);
}
