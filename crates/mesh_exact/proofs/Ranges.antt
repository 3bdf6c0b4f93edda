-- Vertices in range: as far as the loop has come, all of them, and the corners of a triangle. Assumes nothing.
use Prim.Native.Nat.{ℕ, ◌+◌, ◌*◌, ◌≤◌, ◌<◌}
use mathlib.Core.Path.{◌≡◌, refl, sym, ap, ◌∙◌}
use mathlib.Core.Logic.{◌⊎◌, inl, inr}
use mathlib.Core.Bool.{true, false, false≢true}
use mathlib.Core.List.{List}
use native.Mathlib.Nat.{eq-or-lt_of_le}
use native.Mathlib.Omega.{arith}
use lib.IntN.{pos}
use lib.Ieee.{Float, nan, inf, fin, le, lt, eq}
use lib.ListN.{length}
use Rattle.lists.proofs.JoinedTests.{and_three}
use Rattle.vectors.specs.declared.vec3.Vec3.{Vec3}
use Rattle.vectors.specs.Vector.{finite_vec}
use Rattle.arithmetic.specs.Basic.{is_finite, absolute}
use Rattle.tree.specs.Layout.{vector_at}
use Rattle.tree.specs.Mesh.{Mesh, thirds, corner_index, corners_inside, corner_at, corners_of}
use Rattle.tree.proofs.Corners.{first_fits, second_fits, third_fits_lem}
use Rattle.mesh_plain.specs.Boxes.{AllFinite, BoxesHold}
use Rattle.mesh_plain.proofs.BoxTests.{finite_hold}
use Rattle.exact_triangle.specs.Grid.{within, all_within, furthest}
use Rattle.exact_triangle.proofs.Touching.{furthest_is}
use Rattle.exact_triangle.proofs.Laws.{within_x, within_y, within_z}
use Rattle.exact_triangle.specs.Reach.{corners_read}
use Rattle.mesh_exact.specs.Bounds.{AllWithin}

-- ---- the loop over the vertices
pub record Passed (xs : List Float) (i : ℕ) : Type 0 where
  pub each : (j : ℕ) → j < i → all_within furthest (vector_at xs (3 * j)) ≡ true

pub passed_begins : (xs : List Float) → Passed xs 0
passed_begins xs = record { each = λ j h. absurd (omega (arith, h)) }

pub passed_goes : (xs : List Float) (i : ℕ) → Passed xs i → (v : Vec3) → v ≡ vector_at xs (3 * i) → all_within furthest v ≡ true
    → Passed xs (i + 1)
passed_goes xs i p v e h = record { each = λ j l. let h : j ≤ i = omega (arith, l) in go j (eq-or-lt_of_le h) }
  where
    go : (j : ℕ) → (j ≡ i) ⊎ (j < i) → all_within furthest (vector_at xs (3 * j)) ≡ true
    go j (inl q) = ap (λ (k : ℕ). all_within furthest (vector_at xs (3 * k))) q ∙ sym (ap (all_within furthest) e) ∙ h
    go j (inr q) = p.each j q

pub passed_ends : (xs : List Float) (i : ℕ) → Passed xs i → thirds (length xs) ≤ i → AllWithin xs
passed_ends xs i p h = record { each = λ j l. p.each j (omega (arith, l, h)) }

-- ---- all of them
number_finite : (x : Float) → le (absolute x) (fin false 1 (pos 13)) ≡ true → is_finite x ≡ true
unfolding is_finite absolute
number_finite nan h = unfold le lt eq in absurd (false≢true h)
number_finite (inf s) h = unfold le lt eq in absurd (false≢true h)
number_finite (fin s m e) h = refl

within_number : (x : Float) → within furthest x ≡ true → is_finite x ≡ true
within_number x h = number_finite x (ap (le (absolute x)) (sym furthest_is) ∙ h)

pub vector_finite : (v : Vec3) → all_within furthest v ≡ true → finite_vec v ≡ true
unfolding finite_vec
vector_finite v h =
    and_three _ _ _ (within_number v.x (within_x furthest v h)) (within_number v.y (within_y furthest v h))
    (within_number v.z (within_z furthest v h))

pub within_finite : (xs : List Float) → AllWithin xs → AllFinite xs
within_finite xs all = record { each = λ i h. vector_finite (vector_at xs (3 * i)) (all.each i h) }

pub within_hold : (m : Mesh) → AllWithin m.vertices → BoxesHold m
within_hold m all = finite_hold m (within_finite m.vertices all)

-- a triangle's corners
module _ (m : Mesh) (all : AllWithin m.vertices) where
  corner_within : (i k : ℕ) → 3 * corner_index m.triangles i k + 3 ≤ length m.vertices
      → all_within furthest (corner_at m.vertices m.triangles i k) ≡ true
  unfolding corner_at
  corner_within i k h = all.each (corner_index m.triangles i k) (omega (arith, h))

  pub corners_within : (i : ℕ) → corners_inside (thirds (length m.vertices)) m.triangles i ≡ true
      → corners_read (corners_of m.vertices m.triangles i) ≡ true
  unfolding corners_read corners_of
  corners_within i inside =
      and_three _ _ _ (corner_within i 0 (first_fits m.triangles i (length m.vertices) inside))
      (corner_within i 1 (second_fits m.triangles i (length m.vertices) inside))
      (corner_within i 2 (third_fits_lem m.triangles i (length m.vertices) inside))
