-- The hit area of a listing: its places, and the hits among triangles. Definitions only. Assumes nothing.
use Rattle.std.specs.Prelude.{ℕ, ◌/◌, Bool, true, false, cond, List, [], ◌∷◌, ◌++◌, leb, Float, length, replicate}
use Rattle.std.specs.Float.{nan}
use Rattle.vectors.specs.Numbers.{zeroᶠ}
use Rattle.casts.specs.Answer.{Answer, hit, none, refused}
use Rattle.lists.specs.Lists.{keep, sort_by}
use Rattle.tree_query.specs.Query.{Listing, refused as refused_with}
use Rattle.depth_sort.specs.Order.{ahead}

-- "The hit area is u32 indices, one a place, and f64, four a place, distance then normal"
pub record HitArea : Type 0 where
  pub indices : List ℕ
  pub numbers : List Float

abbrev pub hit_area : List ℕ → List Float → HitArea
hit_area indices numbers = record { indices = indices; numbers = numbers }

-- the count or a refusal number, and what the hit area holds afterwards
pub record Outcome : Type 0 where
  pub answer : Listing
  pub area : HitArea

-- "it has as many places as both hold"
unfoldable pub places_of : ℕ → ℕ → ℕ
places_of indices numbers = cond (leb indices (numbers / 4)) indices (numbers / 4)

abbrev pub places_in : HitArea → ℕ
places_in area = places_of (length area.indices) (length area.numbers)

-- ---- one triangle
unfoldable pub is_hit : Answer → Bool
is_hit (hit normal distance) = true
is_hit none = false
is_hit (refused number) = false

unfoldable pub depth_of : Answer → Float
depth_of (hit normal distance) = distance
depth_of none = nan
depth_of (refused number) = nan

-- the four numbers of its place
unfoldable pub place_of : Answer → List Float
place_of (hit normal distance) = distance ∷ (normal.x ∷ (normal.y ∷ (normal.z ∷ [])))
place_of none = []
place_of (refused number) = []

-- ---- many triangles
module _ (answer : ℕ → Answer) where
  -- "every hit, once per place in the query's list"
  abbrev pub hits_of : List ℕ → List ℕ
  hits_of = keep (λ (t : ℕ). is_hit (answer t))

  abbrev pub depth_at : ℕ → Float
  depth_at t = depth_of (answer t)

  -- the order of the places: "Its order becomes ascending distance, then ascending triangle index."
  abbrev pub in_order : List ℕ → List ℕ
  in_order = sort_by (ahead depth_at)

  unfoldable pub numbers_of : List ℕ → List Float
  numbers_of [] = []
  numbers_of (t ∷ ts) = place_of (answer t) ++ numbers_of ts

-- ---- the answers
-- after 5, 6, a triangle's refusal or the late 3 "the hit area is then zeros", every place of both
abbrev pub zeros : HitArea → HitArea
zeros area = record {
  indices = replicate (length area.indices) 0;
  numbers = replicate (length area.numbers) zeroᶠ;
}

abbrev pub refused_at : ℕ → HitArea → Outcome
refused_at number area = record { answer = refused_with number; area = zeros area }
