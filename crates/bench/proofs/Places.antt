-- A command sends at most one message, so 256 places are enough for 256 commands. Assumes nothing.
use mathlib.Core.Bool.{◌&&◌}
use mathlib.Core.List.{List, [], ◌∷◌}
use Prim.Native.Nat.{ℕ, ◌+◌, ◌≤◌}
use Rattle.std.specs.Prelude.{Option, Some, None}
use native.Mathlib.Omega.{arith}
use lib.Dec.{leb, ltb, eqb}
use lib.ListN.{length, get_or}
use Rattle.laws.proofs.Tests.{cond_both}
use Rattle.frame.specs.Message.{blank}
use Rattle.calls.specs.declared.Own.TheVariants.{Taking, Returning}
use Rattle.bench.specs.declared.Night.{Night}
use Rattle.bench.specs.declared.lines.Command.{Command}
use Rattle.bench.specs.declared.lines.Command.TheVariants.{Take, Return, Deliver}
use Rattle.bench.specs.Night.{Called, speaks, receives, begun, post_of, handed_back, next_of, passed, Ran, refused, offered, ran}
use Rattle.bench.specs.Output.{after_all, NoneDropped}

one_more : (s : Night) (p : ℕ) (c : Called) → (handed_back s p c).count ≤ s.count + 1
unfolding handed_back
one_more s p c =
    cond_both (λ n. n ≤ s.count + 1) (c.answer.wrote && ltb s.count 256) (s.count + 1) s.count (λ y. omega arith) (λ n. omega arith)

by_command : (s : Night) (c : Option Command) → (ran s c).night.count ≤ s.count + 1
unfolding ran offered passed
by_command s (Some (Take p)) = one_more s p (speaks Taking (post_of s p))
by_command s (Some (Return p)) = one_more s p (speaks Returning (post_of s p))
by_command s (Some (Deliver p q)) =
    let i = next_of s p q in
    let c = receives (post_of s q) (get_or s.sent i blank) in
    cond_both {A = Ran} (λ r. r.night.count ≤ s.count + 1) (leb 256 i) (refused s 15) (offered s p q i)
    (λ y. omega arith)
    (λ n.
    cond_both {A = Night} (λ t. t.count ≤ s.count + 1) (eqb c.answer.number 0) (passed (handed_back s q c) p q i) (handed_back s q c)
    (λ y. one_more s q c) (λ x. one_more s q c))
by_command s None = omega arith

by_commands : (cs : List (Option Command)) (s : Night) → (after_all s cs).count ≤ s.count + length cs
unfolding after_all
by_commands [] s = omega arith
by_commands (c ∷ cs) s = let a = by_command s c in let b = by_commands cs (ran s c).night in omega arith

pub none_dropped : NoneDropped
unfolding begun
none_dropped posts places cs h = let a = by_commands cs (begun posts places) in omega arith
