-- What is settled leaves the slots in stamp order and is counted; then a numbered take is granted if there is a place for it.
use Rattle.std.specs.Prelude.{Bool, cond, List, [], ◌∷◌, ℕ, ◌+◌, leb, eqb, length, drop}
use Rattle.laws.specs.Lists.{many, leading}
use Rattle.frame.specs.{declared.Message.{Message}, Message.{is_take, is_return, stamp, by}}
use Rattle.post.specs.{declared.Post.{Post}, Record.{start_of, waiting_of, floor, made, record_of}}

-- the waiting messages that are settled, at or below the floor, and those that are left
abbrev pub gone : Post → List Message
gone p = leading stamp (floor p) (waiting_of p)

abbrev pub left : Post → List Message
left p = drop (length (gone p)) (waiting_of p)

-- after n takes: how many takes there are up to and including the own one; 0 where it is not there
unfoldable pub own_number : ℕ → ℕ → List Message → ℕ
own_number own n [] = 0
own_number own n (m ∷ ms) = cond (is_take m) (cond (by own m) (n + 1) (own_number own (n + 1) ms)) (own_number own n ms)

-- the order number once they are counted
unfoldable pub order_after : Post → ℕ
order_after p = cond (eqb p.phase 1) (own_number p.own p.takes (gone p)) p.order

-- the record once what is settled has left and is counted
unfoldable pub tallied : Post → Post
tallied p =
    record_of (start_of p) p.clock p.last (left p) (p.takes + many is_take (gone p)) (p.returns + many is_return (gone p)) p.phase (order_after p)

-- the grant rule: there is a place for the take of the order number
unfoldable pub free : Post → Bool
free p = leb p.order (p.places + p.returns)

-- the phase then: a numbered take is granted as soon as there is a place for it
unfoldable pub phase_after : ℕ → ℕ → Bool → ℕ
phase_after phase order free = cond (eqb phase 0) 0 (cond (eqb phase 3) 3 (cond (eqb order 0) 1 (cond free 3 2)))

-- the record in another phase
abbrev pub in_phase : Post → ℕ → Post
in_phase p phase = made (start_of p) p.clock p.last p.waits p.slots p.takes p.returns phase p.order

-- the record once it has settled
unfoldable pub settle : Post → Post
settle p = let t = tallied p in in_phase t (phase_after t.phase t.order (free t))
