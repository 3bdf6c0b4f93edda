-- Finite numbers make boxes that hold, and a box of three corners touches where comparisons with the corners say so. Assumes nothing.
use Prim.Native.Nat.{ℕ, ◌+◌, ◌*◌, ◌≤◌}
use mathlib.Core.Path.{◌≡◌, sym, ap, ◌∙◌}
use mathlib.Core.Bool.{Bool, true, false, ◌&&◌, ◌||◌}
use mathlib.Core.List.{List}
use native.Mathlib.Omega.{arith}
use lib.Ieee.{Float, le}
use lib.ListN.{length}
use Rattle.arithmetic.specs.Extremes.{minimum_of, maximum_of}
use Rattle.arithmetic.proofs.ExtremesLimits.{minimum_at_most_one, maximum_at_least_one}
use Rattle.geometry.specs.Box.{corners_box, corner, touches, touch_side, valid_box}
use Rattle.vectors.specs.Vector.{finite_vec, min_of, max_of}
use Rattle.vectors.specs.declared.vec3.Vec3.{Vec3}
use Rattle.geometry.specs.declared.aabb.Aabb.{Aabb}
use Rattle.geometry.proofs.BoxLaws.{corners_box_valid}
use Rattle.tree.specs.Mesh.{Mesh, thirds, corner_index, corners_inside, corner_at, corners_of, triangle_box}
use Rattle.tree.proofs.Corners.{first_fits, second_fits, third_fits_lem, corners_box_lem}
use Rattle.mesh_plain.specs.Boxes.{AllFinite, BoxesHold, one_at_most, side_touches}

-- ---- finite numbers
module _ (m : Mesh) (all : AllFinite m.vertices) where
  corner_finite : (i k : ℕ) → 3 * corner_index m.triangles i k + 3 ≤ length m.vertices → finite_vec
      (corner_at m.vertices m.triangles i k) ≡ true
  unfolding corner_at
  corner_finite i k h = all.each (corner_index m.triangles i k) (omega (arith, h))

  finite_valid : (i : ℕ) → corners_inside (thirds (length m.vertices)) m.triangles i ≡ true
      → valid_box (triangle_box m.vertices m.triangles i) ≡ true
  unfolding corners_of
  finite_valid i inside =
      sym (ap valid_box (corners_box_lem m.vertices m.triangles i))
      ∙ corners_box_valid (corners_of m.vertices m.triangles i)
      (corner_finite i 0 (first_fits m.triangles i (length m.vertices) inside))
      (corner_finite i 1 (second_fits m.triangles i (length m.vertices) inside))
      (corner_finite i 2 (third_fits_lem m.triangles i (length m.vertices) inside))

  pub finite_hold : BoxesHold m
  finite_hold = record { each = λ (i : ℕ) below inside. finite_valid i inside }

-- ---- one axis, and all three
side : (a b c from to : Float)
    → side_touches a b c from to ≡ touch_side (minimum_of (minimum_of a b) c) (maximum_of (maximum_of a b) c) from to
unfolding touch_side
side a b c from to =
    sym (
    ap (λ (z : Bool). z && le from (maximum_of (maximum_of a b) c))
    (minimum_at_most_one (minimum_of a b) c to ∙ ap (λ (z : Bool). z || le c to) (minimum_at_most_one a b to))
    ∙ ap (λ (z : Bool). one_at_most a b c to && z)
    (maximum_at_least_one (maximum_of a b) c from ∙ ap (λ (z : Bool). z || le from c) (maximum_at_least_one a b from))
    )

module _ (vs : List Vec3) (box : Aabb) where
  abbrev a : Vec3
  a = corner vs 0

  abbrev b : Vec3
  b = corner vs 1

  abbrev c : Vec3
  c = corner vs 2

  -- by the axes
  abbrev on_x_lem : Bool
  on_x_lem = side_touches a.x b.x c.x box.min.x box.max.x

  abbrev on_y_lem : Bool
  on_y_lem = side_touches a.y b.y c.y box.min.y box.max.y

  abbrev on_z_lem : Bool
  on_z_lem = side_touches a.z b.z c.z box.min.z box.max.z

  pub by_axes : (on_x_lem && (on_y_lem && on_z_lem)) ≡ touches (corners_box vs) box
  unfolding touches corners_box min_of max_of
  by_axes =
      ap (λ (z : Bool). z && (on_y_lem && on_z_lem)) (side a.x b.x c.x box.min.x box.max.x)
      ∙ ap (λ (z : Bool). touch_side (corners_box vs).min.x (corners_box vs).max.x box.min.x box.max.x && (z && on_z_lem))
      (side a.y b.y c.y box.min.y box.max.y)
      ∙ ap (λ (z : Bool). touch_side (corners_box vs).min.x (corners_box vs).max.x box.min.x box.max.x
      && (touch_side (corners_box vs).min.y (corners_box vs).max.y box.min.y box.max.y && z))
      (side a.z b.z c.z box.min.z box.max.z)

  pub apart_on_x : on_x_lem ≡ false → false ≡ touches (corners_box vs) box
  apart_on_x h = sym (ap (λ (z : Bool). z && (on_y_lem && on_z_lem)) h) ∙ by_axes

  pub apart_on_y : on_x_lem ≡ true → on_y_lem ≡ false → false ≡ touches (corners_box vs) box
  apart_on_y h k = sym (ap (λ (z : Bool). z && (on_y_lem && on_z_lem)) h ∙ ap (λ (z : Bool). z && on_z_lem) k) ∙ by_axes

  pub by_z : on_x_lem ≡ true → on_y_lem ≡ true → on_z_lem ≡ touches (corners_box vs) box
  by_z h k = sym (ap (λ (z : Bool). z && (on_y_lem && on_z_lem)) h ∙ ap (λ (z : Bool). z && on_z_lem) k) ∙ by_axes
