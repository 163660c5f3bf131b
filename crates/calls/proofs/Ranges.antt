-- What start numbers in range are. Assumes nothing.
use mathlib.Core.Bool.{Bool}
use mathlib.Core.List.{List, [], ◌∷◌}
use Prim.Native.Nat.{◌≤◌, ◌<◌}
use lib.Dec.{T, leb, ltb, leb→le, ltb→lt, le→leb, lt→ltb}
use Rattle.laws.proofs.EveryLaws.{each, all_of}
use Rattle.calls.specs.{declared.Start.{Start}, Start.{in_range}}

pub record Range (st : Start) : Type 0 where
  pub posts_low : 1 ≤ st.posts
  pub posts_high : st.posts ≤ 16
  pub own_low : st.own < st.posts
  pub places_low : 1 ≤ st.places
  pub places_high : st.places ≤ 16
  pub feeder_high : st.feeder ≤ 255

abbrev tests : Start → List Bool
tests st = leb 1 st.posts ∷ leb st.posts 16 ∷ ltb st.own st.posts ∷ leb 1 st.places ∷ leb st.places 16 ∷ leb st.feeder 255 ∷ []

pub range_is : (st : Start) → T (in_range st) → Range st
unfolding in_range
range_is st t =
    let e = each (tests st) t in
    record {
      posts_low = leb→le 1 st.posts e.0;
      posts_high = leb→le st.posts 16 e.1.0;
      own_low = ltb→lt st.own st.posts e.1.1.0;
      places_low = leb→le 1 st.places e.1.1.1.0;
      places_high = leb→le st.places 16 e.1.1.1.1.0;
      feeder_high = leb→le st.feeder 255 e.1.1.1.1.1.0;
    }

pub is_range : (st : Start) → Range st → T (in_range st)
unfolding in_range
is_range st r =
    all_of (tests st) (
      le→leb 1 st.posts r.posts_low,
      (le→leb st.posts 16 r.posts_high, (lt→ltb st.own st.posts r.own_low, (le→leb 1 st.places r.places_low, (le→leb st.places 16 r.places_high, (le→leb st.feeder 255 r.feeder_high, tt))))),
    )
