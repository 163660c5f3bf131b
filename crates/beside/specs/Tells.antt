-- What can be read off a reply.
use Rattle.std.specs.Prelude.{Bool, cond, List, [], ◌∷◌, ℕ, eqb, take}
use Rattle.frame.specs.Frame.{size}
use Rattle.calls.specs.Replies.{Reply, told, worth, lacking}

-- the first bytes of a reply that says that a frame was written
abbrev pub written : Reply → List (List ℕ)
written (told t) = cond t.wrote (take size t.lent ∷ []) []
written (worth number value) = []
written (lacking number set count) = []

abbrev pub done : Reply → Bool
done (told t) = eqb t.number 0
done (worth number value) = eqb number 0
done (lacking number set count) = eqb number 0
