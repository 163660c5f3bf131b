-- What a post is started with.
use Rattle.std.specs.Prelude.{Bool, [], ◌∷◌, ℕ, leb, ltb}
use Rattle.laws.specs.Ladder.{every}
use Rattle.calls.specs.declared.Start.{Start}

abbrev pub starting : ℕ → ℕ → ℕ → ℕ → Start
starting posts own feeder places = record { posts = posts; own = own; feeder = feeder; places = places }

-- N is 1 to 16, own number below N, K 1 to 16; feeder is 0 to 255
unfoldable pub in_range : Start → Bool
in_range st = every (leb 1 st.posts ∷ leb st.posts 16 ∷ ltb st.own st.posts ∷ leb 1 st.places ∷ leb st.places 16 ∷ leb st.feeder 255 ∷ [])
