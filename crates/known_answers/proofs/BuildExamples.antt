-- Document 01's K10 and K11, computed. Assumes nothing.
use mathlib.Core.Path.{◌≡◌, refl}
use mathlib.Core.List.{List, [], ◌∷◌}
use Prim.Native.Nat.{ℕ, zero, suc, ◌*◌}
use lib.Ieee.{Float, of_bits, round, add, sub, mul, neg, lt, le, is_nan}
use lib.ListN.{replicate}
use Rattle.arithmetic.specs.Extremes.{minimum_of, maximum_of}
use Rattle.arithmetic.specs.Basic.{is_finite, negative}
use Rattle.arithmetic.specs.Ordering.{total_order}
use Rattle.vectors.specs.Numbers.{zeroᶠ, oneᶠ}
use Rattle.vectors.specs.Vector.{component, finite_vec, add_of, sub_of, scale_of, min_of, max_of}
use Rattle.geometry.specs.Box.{valid_side, valid_box, centre}
use Rattle.lists.specs.Lists.{range, every, insert_by, sort_by, folded}
use Rattle.tree.specs.Layout.{vector_at, box_at, box_numbers, areas}
use Rattle.tree.specs.Mesh.{lengths_admitted, corners_inside, corner_at, triangle_box, mesh, each_box, triangle_fits, triangles_fit}
use Rattle.tree.specs.Mesh.{boxes_written}
use Rattle.tree_build.specs.Shape.{shape_within, shape_of, size_of, nodes_of}
use Rattle.tree_ranges.specs.Extents.{longest_axis, centre_of, extent_of}
use Rattle.tree_ranges.specs.Keys.{key_of, stands_before}
use Rattle.tree_build.specs.Ranges.{sorted_range, left_range, right_range, extents_finite}
use Rattle.tree_build.specs.Build.{Answer, nodes, refused, room_for, built_of, build_of}

-- "T is (0,0,0),(1,0,0),(0,1,0)", so many times
unfoldable pub corners : List Float
corners = zeroᶠ ∷ (zeroᶠ ∷ (zeroᶠ ∷ (oneᶠ ∷ (zeroᶠ ∷ (zeroᶠ ∷ (zeroᶠ ∷ (oneᶠ ∷ (zeroᶠ ∷ []))))))))

unfoldable pub times : ℕ → List ℕ
times zero = []
times (suc n) = 0 ∷ (1 ∷ (2 ∷ times n))

unfoldable pub answered : ℕ → Answer
answered n = (build_of (mesh corners (times n)) (areas (replicate (12 * n) zeroᶠ) (replicate (6 * n) zeroᶠ) (replicate (6 * n) 0)
    (replicate n
    0)) n).answer

-- "K10 a build of no triangle: 5"
pub k10 : answered 0 ≡ refused 5
unfolding answered times corners build_of built_of room_for lengths_admitted
k10 = refl

-- "K11 a build of T four times: one node; five times: three"
pub k11_four : answered 4 ≡ nodes 1
unfolding answered times corners build_of built_of room_for lengths_admitted triangles_fit triangle_fits every range corners_inside
    valid_box
    valid_side triangle_box corner_at vector_at min_of max_of minimum_of maximum_of is_finite le lt of_bits is_nan shape_of shape_within
    nodes_of
    extents_finite
k11_four = refl

pub k11_five : answered 5 ≡ nodes 3
unfolding answered times corners build_of built_of room_for lengths_admitted triangles_fit triangle_fits every range corners_inside
    valid_box
    valid_side triangle_box corner_at vector_at min_of max_of minimum_of maximum_of is_finite le lt of_bits is_nan shape_of shape_within
    nodes_of size_of
    extents_finite boxes_written each_box box_numbers extent_of sub_of folded centre_of centre box_at scale_of add_of finite_vec left_range
    right_range
    sorted_range sort_by insert_by stands_before total_order negative key_of component longest_axis sub add mul neg round
k11_five = refl
