-- For each public function: two results that meet its promise are equal, and so are the lent bytes after them.
use Rattle.std.specs.Prelude.{List, ◌≡◌, ℕ, Result}
use Rattle.laws.specs.{Ladder.{refusal}, One.{One, OneAfter}}
use Rattle.frame.specs.{declared.Kind.{Kind}, declared.Message.{Message}, Message.{msg}, Kind.{kind_number, IsKind}, declared.Fields.{Fields}, declared.Reading.{Reading}, declared.refusal.Refusal.{Refusal}, Refusal.{number, number_in}, Frame.{fields_of, form_rows, reading_told, read_frame, Written}}

pub record Unique : Type 0 where
  pub number : (r : Refusal) → One ℕ (λ n. n ≡ number r)
  pub try_from : (k : ℕ) → One (Result Kind Refusal) (IsKind k)
  pub new : (k : Kind) (p c : ℕ) → One Message (λ m. m ≡ msg (kind_number k) p c)
  pub split : (s : List ℕ) → One Fields (λ r. r ≡ fields_of s)
  pub check_form : (n : ℕ) (f : Fields) → One (Result Unit Refusal) (λ r. number_in r ≡ refusal (form_rows n f))
  pub read : (s : List ℕ) → One (Result Reading Refusal) (λ r. reading_told r ≡ read_frame s)
  pub write : (old : List ℕ) (f : ℕ) (m : Message) → OneAfter (Result Unit Refusal) (λ r after. Written old after f m (number_in r))
