-- The kinds of a message by their numbers.
use Rattle.std.specs.Prelude.{◌≡◌, false, ℕ, Result, MatchResult}
use Rattle.frame.specs.declared.{Kind.{Kind}, refusal.Refusal.{Refusal}}
use Rattle.frame.specs.declared.Kind.TheVariants.{Take, Return, Ack}
use Rattle.frame.specs.Message.{take_kind, return_kind, ack_kind, known}

abbrev pub kind_number : Kind → ℕ
kind_number Take = take_kind
kind_number Return = return_kind
kind_number Ack = ack_kind

-- the kind of the number k, or the refusal where there is none
abbrev pub IsKind : ℕ → Result Kind Refusal → Type 0
IsKind k r = MatchResult r (λ kind. kind_number kind ≡ k) (λ e. (e ≡ Refusal.Kind) × (known k ≡ false))
