-- Inner contracts only: what the code has found part way through the cells: the cast of the listing, cell by cell. Definitions only.
-- Assumes nothing.
use Rattle.std.specs.Prelude.{ℕ, zero, suc, ◌+◌, ◌≡◌, Bool, true, false, cond, List, eqb, Float, Option, Result, Ok, Err}
use Rattle.vectors.specs.Vector.{finite_vec, min_of, max_of}
use Rattle.geometry.specs.Box.{touch_side, touches, corner, corners_box}
use Rattle.vectors.specs.declared.vec3.Vec3.{Vec3}
use Rattle.geometry.specs.declared.aabb.Aabb.{Aabb}
use Rattle.geometry.specs.declared.ray.Ray.{Ray}
use Rattle.casts.specs.Answer.{Answer, refused, number_of}
use Rattle.casts.specs.declared.answer.Refusal.{Refusal}
use Rattle.triangle_cast.specs.Triangle.{triangle_cast}
use Rattle.nearest_hit.specs.declared.nearest.IndexedHit.{IndexedHit}
use Rattle.nearest_hit.specs.Nearest.{Indexed, hit_at, no_hit, stopped, says_indexed, next_of, gives_way, fold_from, without_index}
use Rattle.height_field.specs.declared.field.Field.{Field}
use Rattle.height_field.specs.Grid.{vertex_at}
use Rattle.height_field.specs.Listing.{Listing, listed, unlisted, grid_listing}
use Rattle.height_field.specs.Cast.{answer_of}

-- what was found in the cells so far, or the listing's refusal
pub data Passed : Type 0 where
  going : Indexed → Passed
  ended : ℕ → Passed

-- what each case of the code's answer says
abbrev pub says_pass : Result (Result (Option IndexedHit) Refusal) Refusal → Passed
says_pass (Ok best) = going (says_indexed best)
says_pass (Err refusal) = ended (number_of refusal)

-- the fold over what is listed, on top of what was found before
unfoldable pub pass_from : (ℕ → Answer) → Indexed → Listing → Passed
pass_from answer best (listed features) = going (fold_from answer best features)
pass_from answer best (unlisted number) = ended number

-- the answer at the end
unfoldable pub answer_of_pass : Passed → Answer
answer_of_pass (going best) = without_index best
answer_of_pass (ended number) = refused number

-- all the cells that a box visits
unfoldable pub grid_pass : Ray → Aabb → Field → List Float → Passed
grid_pass ray box f heights = pass_from (answer_of ray f heights) no_hit (grid_listing f heights box)

-- ---- one cell

-- three corners that are finite
pub record FiniteCorners (corners : List Vec3) : Type 0 where
  pub first : finite_vec (corner corners 0) ≡ true
  pub second : finite_vec (corner corners 1) ≡ true
  pub third : finite_vec (corner corners 2) ≡ true

-- the box around a cell's vertices, which holds those of both triangles
unfoldable pub around_cell : Vec3 → Vec3 → Vec3 → Vec3 → Aabb
around_cell v00 v10 v01 v11 =
    record { min = min_of (min_of v00 v10) (min_of v01 v11); max = max_of (max_of v00 v10) (max_of v01 v11) }

unfoldable pub cell_touches : Field → List Float → Aabb → ℕ → ℕ → Bool
cell_touches f heights box row column =
    touches
    (around_cell (vertex_at f heights row column) (vertex_at f heights row (column + 1)) (vertex_at f heights (row + 1) column)
    (vertex_at f heights (row + 1) (column + 1))) box

-- three corners that are finite, whose box touches on x and on y
pub record NearCorners (box : Aabb) (corners : List Vec3) : Type 0 where
  pub finite : FiniteCorners corners
  pub across : touch_side (corners_box corners).min.x (corners_box corners).max.x box.min.x box.max.x ≡ true
  pub along : touch_side (corners_box corners).min.y (corners_box corners).max.y box.min.y box.max.y ≡ true

-- a triangle with its corners counts where its box touches
unfoldable pub pass_triangle : Ray → Aabb → List Vec3 → ℕ → Indexed → Indexed
pass_triangle ray box corners feature best = cond (touches (corners_box corners) box) (next_of best feature (triangle_cast ray corners))
    best

-- a triangle's refusal
unfoldable pub is_stopped : Indexed → Bool
is_stopped (hit_at normal distance index) = false
is_stopped no_hit = false
is_stopped (stopped number) = true

-- what was found so far, and what one more triangle came to alone
unfoldable pub nearer_of : Indexed → Indexed → Indexed
nearer_of best (hit_at normal distance index) = cond (gives_way best distance) (hit_at normal distance index) best
nearer_of best no_hit = best
nearer_of best (stopped number) = cond (is_stopped best) best (stopped number)

-- the corners of triangle 0, or else of triangle 1
unfoldable pub half_of : List Vec3 → List Vec3 → ℕ → List Vec3
half_of lower upper triangle = cond (eqb triangle 0) lower upper

-- the first triangles of a cell, one after another: two are all
unfoldable pub pass_triangles : Ray → Aabb → List Vec3 → List Vec3 → ℕ → Indexed → ℕ → Indexed
pass_triangles ray box lower upper feature best zero = best
pass_triangles ray box lower upper feature best (suc k) =
    pass_triangle ray box (half_of lower upper k) (feature + k) (pass_triangles ray box lower upper feature best k)
