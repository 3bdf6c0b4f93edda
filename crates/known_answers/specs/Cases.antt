-- A marked case, what the definitions give for it, and what document 01 can say of that. Definitions only. Assumes nothing.
use Rattle.std.specs.Prelude.{ℕ, Bool, true, false, List, eqb, Float}
use Rattle.std.specs.Float.{binary64}
use Rattle.std.specs.Float.Ieee.{to_bits}
use Rattle.arithmetic.specs.Root.{root_of}
use Rattle.arithmetic.specs.Rounding.{round_of}
use Rattle.vectors.specs.declared.vec3.Vec3.{Vec3}
use Rattle.geometry.specs.declared.ray.Ray.{Ray}
use Rattle.casts.specs.Answer.{Answer, hit, none, refused}
use Rattle.casts.specs.Plane.{ray_plane}
use Rattle.triangle_cast.specs.Triangle.{ray_triangle}
use Rattle.casts.specs.declared.plane.Plane.{Plane}
use Rattle.nearest_hit.specs.Nearest.{Indexed, hit_at, no_hit, stopped}
use Rattle.height_field.specs.Cast.{ray_height_field}
use Rattle.height_field.specs.declared.field.Field.{Field}
use Rattle.level_set.specs.Walk.{ray_level_set}
use Rattle.tree.specs.Mesh.{Mesh}
use Rattle.tree_build.specs.Build.{Answer as Built, nodes, refused as unbuilt}
use Rattle.mesh.specs.Through.{through_own_tree, freshly_built}
use Rattle.distance_grid.specs.declared.grid.Grid.{Grid}

-- what is asked
pub data Case : Type 0 where
  at_plane : Plane → Ray → Case
  at_triangle : List Vec3 → Ray → Case
  at_mesh : Mesh → Ray → Case
  build_of_mesh : Mesh → Case
  at_heights : Field → List Float → Ray → Case
  at_distances : Grid → List Float → Ray → Case
  root_at : Float → Case
  round_at : Float → Case

-- what the definitions give: a hit's distance and index, none, a refusal's number, or a whole number (a node count, or a float's bits)
pub data Outcome : Type 0 where
  hits : Float → ℕ → Outcome
  misses : Outcome
  refuses : ℕ → Outcome
  gives : ℕ → Outcome

abbrev pub of_answer : Answer → Outcome
of_answer (hit normal distance) = hits distance 0
of_answer none = misses
of_answer (refused number) = refuses number

abbrev pub of_indexed : Indexed → Outcome
of_indexed (hit_at normal distance index) = hits distance index
of_indexed no_hit = misses
of_indexed (stopped number) = refuses number

unfoldable pub of_built : Built → Outcome
of_built (nodes count) = gives count
of_built (unbuilt number) = refuses number

unfoldable pub outcome : Case → Outcome
outcome (at_plane plane r) = of_answer (ray_plane plane r)
outcome (at_triangle corners r) = of_answer (ray_triangle r corners)
outcome (at_mesh m r) = of_indexed (through_own_tree r m)
outcome (build_of_mesh m) = of_built (freshly_built m).answer
outcome (at_heights f heights r) = of_answer (ray_height_field r f heights)
outcome (at_distances g values r) = of_answer (ray_level_set r g values)
outcome (root_at x) = gives (to_bits binary64 (root_of x))
outcome (round_at x) = gives (to_bits binary64 (round_of x))

-- what document 01 says: a hit of which something holds, none, a refusal, or a number
abbrev pub a_hit : (Float → ℕ → Bool) → Outcome → Bool
a_hit p (hits distance index) = p distance index
a_hit p misses = false
a_hit p (refuses number) = false
a_hit p (gives number) = false

abbrev pub a_none : Outcome → Bool
a_none (hits distance index) = false
a_none misses = true
a_none (refuses number) = false
a_none (gives number) = false

abbrev pub a_refusal : ℕ → Outcome → Bool
a_refusal n (hits distance index) = false
a_refusal n misses = false
a_refusal n (refuses number) = eqb number n
a_refusal n (gives number) = false

abbrev pub a_number : ℕ → Outcome → Bool
a_number n (hits distance index) = false
a_number n misses = false
a_number n (refuses number) = false
a_number n (gives number) = eqb number n
