-- The promise for meshes at three triangles with whole corners, in a tree that no builder of ours would write. Assumes nothing.
use mathlib.Core.Path.{◌≡◌, refl, subst}
use mathlib.Core.Bool.{Bool, true, false}
use mathlib.Core.List.{List, [], ◌∷◌}
use Prim.Native.Nat.{ℕ, zero, suc, ◌≤◌, ◌<◌}
use native.Mathlib.Omega.{arith}
use lib.Dec.{T, lit≤}
use lib.IntN.{ℤ, pos, negsuc}
use lib.Signed.{le_z_yes, lt_z_yes}
use lib.Ieee.{Float, binary64, span, climb, size, odd, units, round, of_int, neg, sum, add, sub, mul, lt, eq, le, ne, is_nan, of_fields}
use lib.Ieee.{of_bits}
use Rattle.arithmetic.specs.Basic.{is_finite}
use Rattle.arithmetic.specs.Extremes.{minimum_of, maximum_of}
use Rattle.vectors.specs.Vector.{component, add_of, scale_of, min_of, max_of}
use Rattle.geometry.specs.Box.{touch_side, touches}
use Rattle.geometry.specs.Segment.{segment_end, segment_box}
use Rattle.vectors.specs.declared.vec3.Vec3.{Vec3}
use Rattle.geometry.specs.declared.ray.Ray.{Ray}
use Rattle.nearest_hit.specs.Nearest.{hit_at}
use Rattle.tree.specs.Layout.{vector_at}
use Rattle.tree.specs.Mesh.{Mesh, lengths_admitted, corner_at, triangle_box}
use Rattle.known_answers.proofs.QueryExamples.{o, i, ten, eleven, lower, odd_tree}
use Rattle.mesh.specs.MeshCast.{tree_fits, room_for, ray_mesh}
use Rattle.mesh.specs.Demand3.{Candidate}
use Rattle.known_answers.proofs.MeshExamples.{odd_passes}
use Rattle.whole_numbers.specs.Points.{Point}
use Rattle.whole_numbers.specs.WholeTriangle.{Drawn, DrawnAt, downward}
use Rattle.whole_numbers.specs.WholeMesh.{Plan, drawing_of, WholeMesh, Met, MeshExact}
use Rattle.whole_numbers.proofs.WholeMeshes.{meshes_exact}

-- ---- the mesh: one at height 0, one beside it, one below it
abbrev vertices : List Float
vertices =
    o ∷ o ∷ o ∷ i ∷ o ∷ o ∷ o ∷ i ∷ o ∷ ten ∷ o ∷ o ∷ eleven ∷ o ∷ o ∷ ten ∷ i ∷ o ∷ o ∷ o ∷ lower ∷ i ∷ o ∷ lower ∷ o ∷ i ∷ lower ∷ []

abbrev mesh : Mesh
mesh = record { vertices = vertices; triangles = 0 ∷ 1 ∷ 2 ∷ 3 ∷ 4 ∷ 5 ∷ 6 ∷ 7 ∷ 8 ∷ [] }

-- down from a millimetre above its first corner
abbrev ray : Ray
ray = record {
  origin = record { x = o; y = o; z = i };
  direction = record { x = o; y = o; z = lower };
  max_distance = of_bits binary64 0x4008_0000_0000_0000;
  near = o;
}

-- ---- the same in whole numbers
abbrev at : ℤ → ℤ → ℤ → Point
at x y z = record { x = x; y = y; z = z }

abbrev corner_of : ℕ → ℕ → Point
corner_of zero zero = at (pos 0) (pos 0) (pos 0)
corner_of zero (suc zero) = at (pos 1) (pos 0) (pos 0)
corner_of zero (suc (suc k)) = at (pos 0) (pos 1) (pos 0)
corner_of (suc zero) zero = at (pos 10) (pos 0) (pos 0)
corner_of (suc zero) (suc zero) = at (pos 11) (pos 0) (pos 0)
corner_of (suc zero) (suc (suc k)) = at (pos 10) (pos 1) (pos 0)
corner_of (suc (suc j)) zero = at (pos 0) (pos 0) (negsuc 0)
corner_of (suc (suc j)) (suc zero) = at (pos 1) (pos 0) (negsuc 0)
corner_of (suc (suc j)) (suc (suc k)) = at (pos 0) (pos 1) (negsuc 0)

abbrev plan : Plan
plan = record { o = at (pos 0) (pos 0) (pos 1); direction = downward; maximum = 3; corner = corner_of }

drawn_nought : (B : ℕ) → Drawn B o (pos 0)
unfolding eq of_int round units odd size climb span of_bits of_fields
drawn_nought B = record { equal = refl; bound = omega arith }

drawn_one : (B : ℕ) → 1 ≤ B → Drawn B i (pos 1)
unfolding eq of_int round units odd size climb span of_bits of_fields
drawn_one B h = record { equal = refl; bound = h }

drawn_lower : (B : ℕ) → 1 ≤ B → Drawn B lower (negsuc 0)
unfolding eq of_int round units odd size climb span of_bits of_fields
drawn_lower B h = record { equal = refl; bound = h }

drawn_ten : Drawn 4096 ten (pos 10)
unfolding eq of_int round units odd size climb span of_bits of_fields
drawn_ten = record { equal = refl; bound = lit≤ tt }

drawn_eleven : Drawn 4096 eleven (pos 11)
unfolding eq of_int round units odd size climb span of_bits of_fields
drawn_eleven = record { equal = refl; bound = lit≤ tt }

drawn_three : Drawn 16384 (of_bits binary64 0x4008_0000_0000_0000) (pos 3)
unfolding eq of_int round units odd size climb span of_bits of_fields
drawn_three = record { equal = refl; bound = lit≤ tt }

abbrev nought : Drawn 4096 o (pos 0)
nought = drawn_nought 4096

abbrev one : Drawn 4096 i (pos 1)
one = drawn_one 4096 (lit≤ tt)

abbrev under : Drawn 4096 lower (negsuc 0)
under = drawn_lower 4096 (lit≤ tt)

corners : (j : ℕ) → j < 3 → (k : ℕ) → k < 3 → DrawnAt 4096 (corner_at vertices mesh.triangles j k) (corner_of j k)
unfolding corner_at vector_at
corners zero h zero g = record { first = nought; second = nought; third = nought }
corners zero h (suc zero) g = record { first = one; second = nought; third = nought }
corners zero h (suc (suc zero)) g = record { first = nought; second = one; third = nought }
corners zero h (suc (suc (suc k))) g = absurd (omega (arith, g))
corners (suc zero) h zero g = record { first = drawn_ten; second = nought; third = nought }
corners (suc zero) h (suc zero) g = record { first = drawn_eleven; second = nought; third = nought }
corners (suc zero) h (suc (suc zero)) g = record { first = drawn_ten; second = one; third = nought }
corners (suc zero) h (suc (suc (suc k))) g = absurd (omega (arith, g))
corners (suc (suc zero)) h zero g = record { first = nought; second = nought; third = under }
corners (suc (suc zero)) h (suc zero) g = record { first = one; second = nought; third = under }
corners (suc (suc zero)) h (suc (suc zero)) g = record { first = nought; second = one; third = under }
corners (suc (suc zero)) h (suc (suc (suc k))) g = absurd (omega (arith, g))
corners (suc (suc (suc j))) h k g = absurd (omega (arith, h))

pub odd_corners : WholeMesh ray mesh plan
odd_corners = record {
  origin = record { first = nought; second = nought; third = one };
  direction = record { first = drawn_nought 1; second = drawn_nought 1; third = drawn_lower 1 (lit≤ tt) };
  near = drawn_nought 0;
  maximum = drawn_three;
  positive = lit≤ tt;
  corners = λ (j : ℕ) (c : Candidate ray mesh j). corners j c.triangle;
}

pub odd_exact : MeshExact ray mesh plan (ray_mesh ray mesh vertices odd_tree 3 4)
unfolding lengths_admitted room_for tree_fits
odd_exact = meshes_exact ray mesh odd_tree 3 4 plan refl (record { marks = 9; says_yes = odd_passes }) refl odd_corners

-- ---- the first triangle is crossed in its first corner, a millimetre deep
first_candidate : Candidate ray mesh 0
unfolding touches touch_side triangle_box corner_at vector_at segment_box segment_end add_of scale_of min_of max_of component minimum_of
    maximum_of
    is_finite of_bits of_fields is_nan ne le eq lt mul sub add sum neg round units odd size climb span
first_candidate = record { triangle = lit≤ tt; near = refl }

abbrev is_negative : ℤ → Bool
is_negative (pos n) = false
is_negative (negsuc n) = true

first_met : Met (drawing_of plan 0) 1 (pos 0) (pos 0) (pos 1)
first_met = record {
  apart = λ (h : ◌≡◌ {A = ℤ} (negsuc 0) (pos 0)). subst (λ (z : ℤ). T (is_negative z)) h tt;
  crossing = record { divisor = lit≤ tt; meets = refl };
  inside = record { first = le_z_yes tt; second = le_z_yes tt; sum = lt_z_yes tt };
  from_zero = le_z_yes tt;
  below_maximum = lt_z_yes tt;
}

pub odd_hit : (normal : Vec3) × (distance : Float) × (index : ℕ) × (ray_mesh ray mesh vertices odd_tree 3 4 ≡ hit_at normal distance index)
odd_hit = odd_exact.hits 0 first_candidate 1 (pos 0) (pos 0) (pos 1) first_met
