-- A result is told by its number: no two refusals share one, and none has 0. Assumes nothing.
use Rattle.std.specs.Prelude.{◌≡◌, refl, ℕ, zero, suc, List, [], ◌∷◌, Result, Ok, Err, is_ok, IsOk, Bool, true, false, cond, eqb, slice_index_or}
use Rattle.std.proofs.Math.Nat.{suc-ne-zero}
use mathlib.Core.Path.{ap, ◌∙◌, sym}
use Rattle.laws.specs.One.{One}
use Rattle.frame.specs.declared.refusal.Refusal.{Refusal}
use Rattle.frame.specs.declared.refusal.Refusal.TheVariants.{Record, Buffer, Length, Mark, Version, Feeder, Sender, Counter, Turn, Spent, Waiting, Take, Return, Nothing, Command, End}
use Rattle.frame.specs.declared.Kind.{Kind}
use Rattle.frame.specs.Message.{take_kind, return_kind, known}
use Rattle.frame.specs.Kind.{kind_number, IsKind}
use Rattle.frame.specs.Refusal.{number, number_in}

-- the refusals from 1 on
abbrev pub table : List Refusal
table = Record ∷ Buffer ∷ Length ∷ Mark ∷ Version ∷ Feeder ∷ Refusal.Kind ∷ Sender ∷ Counter ∷ Turn ∷ Spent ∷ Waiting ∷ Take ∷ Return ∷ Nothing ∷ Command ∷ End ∷ []

-- the result with this number, and with a where that is 0
unfoldable pub result_at : {A : Type 0} → ℕ → A → Result A Refusal
result_at zero a = Ok a
result_at (suc n) a = Err (slice_index_or table n End)

pub of_number : {A : Type 0} (r : Refusal) (a : A) → result_at (number r) a ≡ Err r
unfolding result_at
of_number Record a = refl
of_number Buffer a = refl
of_number Length a = refl
of_number Mark a = refl
of_number Version a = refl
of_number Feeder a = refl
of_number Refusal.Kind a = refl
of_number Sender a = refl
of_number Counter a = refl
of_number Turn a = refl
of_number Spent a = refl
of_number Waiting a = refl
of_number Take a = refl
of_number Return a = refl
of_number Nothing a = refl
of_number Command a = refl
of_number End a = refl

pub not_zero : (r : Refusal) → number r ≡ 0 → ⊥
unfolding result_at
not_zero r e =
    let p : Err r ≡ Ok tt = sym (of_number r tt) ∙ ap (λ (n : ℕ). result_at n tt) e in
    let q : 1 ≡ 0 = ap (λ (x : Result Unit Refusal). cond (is_ok x) 0 1) p in
    suc-ne-zero 0 q

pub result_back : (r : Result Unit Refusal) → result_at (number_in r) tt ≡ r
unfolding result_at
result_back (Ok u) = refl
result_back (Err r) = of_number r tt

-- what tells a value leaves one value
pub told_apart : {A B : Type 0} (told : A → B) (back : B → A) → ((a : A) → back (told a) ≡ a) → (b : B) → One A (λ a. told a ≡ b)
told_apart told back h b x y p q = sym (h x) ∙ ap back (p ∙ sym q) ∙ h y

pub one_number : (n : ℕ) → One (Result Unit Refusal) (λ r. number_in r ≡ n)
one_number = told_apart number_in (λ n. result_at n tt) result_back

pub no_refusal : (r : Result Unit Refusal) → number_in r ≡ 0 → IsOk r
no_refusal (Ok u) e = refl
no_refusal (Err r) e = absurd (not_zero r e)

-- .. and so is a refusal, and a kind
abbrev err_or : {A : Type 0} → Refusal → Result A Refusal → Refusal
err_or d (Ok a) = d
err_or d (Err r) = r

pub one_refusal : (n : ℕ) → One Refusal (λ r. number r ≡ n)
one_refusal = told_apart number (λ n. err_or {A = ℕ} End (result_at n 0)) (λ r. ap (err_or {A = ℕ} End) (of_number r 0))

kind_at : ℕ → Kind
kind_at n = cond (eqb n take_kind) Kind.Take (cond (eqb n return_kind) Kind.Return Kind.Ack)

of_kind : (k : Kind) → kind_at (kind_number k) ≡ k
unfolding kind_at
of_kind Kind.Take = refl
of_kind Kind.Return = refl
of_kind Kind.Ack = refl

pub one_kind : (n : ℕ) → One Kind (λ k. kind_number k ≡ n)
one_kind = told_apart kind_number kind_at of_kind

kinds_known : (k : Kind) → known (kind_number k) ≡ true
kinds_known Kind.Take = refl
kinds_known Kind.Return = refl
kinds_known Kind.Ack = refl

none_known : (n : ℕ) (k : Kind) → kind_number k ≡ n → known n ≡ false → ⊥
none_known n k e f =
    let p : true ≡ false = sym (kinds_known k) ∙ ap known e ∙ f in
    suc-ne-zero 0 (ap (λ (b : Bool). cond b 1 0) p)

pub one_read : (n : ℕ) → One (Result Kind Refusal) (IsKind n)
one_read n (Ok a) (Ok b) p q = ap Ok (one_kind n a b p q)
one_read n (Ok a) (Err b) p q = absurd (none_known n a p q.1)
one_read n (Err a) (Ok b) p q = absurd (none_known n b q p.1)
one_read n (Err a) (Err b) p q = ap Err (p.0 ∙ sym q.0)
