-- The agreement at three triangles with whole corners, in a tree that no builder of ours would write. Assumes nothing.
use Prim.Native.Nat.{ℕ, zero, suc, ◌*◌, ◌≤◌, ◌<◌}
use mathlib.Core.Path.{◌≡◌, refl, sym, ap, ◌∙◌, subst}
use mathlib.Core.Bool.{Bool, true, false, true≢false}
use mathlib.Core.Logic.{inr}
use mathlib.Core.List.{List, [], ◌∷◌}
use native.Mathlib.Nat.{le_trans, mul-le-mul_right}
use native.Mathlib.Omega.{arith}
use lib.Dec.{T, lit≤}
use lib.IntN.{ℤ, pos, negsuc, nat_abs, ◌+ℤ◌, ◌*ℤ◌}
use lib.ListN.{get_or}
use lib.Ieee.{Float, binary64, span, climb, size, odd, units, round, neg, sum, add, sub, mul, div, lt, eq, le, ne, is_nan, of_fields}
use lib.Ieee.{of_bits}
use lib.Ieee.{of_int, to_signed}
use Rattle.arithmetic.specs.Basic.{is_finite, absolute}
use Rattle.arithmetic.specs.Extremes.{minimum_of, maximum_of}
use Rattle.arithmetic.specs.Scaling.{unit, digits_of, scaled_by}
use Rattle.arithmetic.specs.Root.{root_digits, whole_root, root_round, root_of}
use Rattle.vectors.specs.Vector.{component, finite_vec, add_of, neg_of, scale_of, min_of, max_of, abs_of, max_element}
use Rattle.vectors.specs.Vector.{dot_of, checked_dot, length_of}
use Rattle.vectors.specs.Vector.{normalizable, zero_vec, dot_tells, scaled_to_one, over_length, try_normalize}
use Rattle.geometry.specs.Box.{valid_side, valid_box, touch_side, touches}
use Rattle.geometry.specs.Segment.{unit_length, ray_admitted, segment_end, segment_box}
use Rattle.vectors.specs.declared.vec3.Vec3.{Vec3}
use Rattle.geometry.specs.declared.ray.Ray.{Ray}
use Rattle.casts.specs.Surface.{facing}
use Rattle.nearest_hit.specs.Nearest.{hit_at, next_of, fold_from}
use Rattle.lists.specs.Lists.{range, every}
use Rattle.tree.specs.Layout.{vector_at}
use Rattle.tree.specs.Mesh.{Mesh, lengths_admitted, corners_inside, corner_at, corners_of, triangle_box, triangle_fits, triangles_fit}
use Rattle.known_answers.proofs.QueryExamples.{o, i, ten, eleven, lower, odd_tree}
use Rattle.mesh.specs.MeshCast.{tree_fits, room_for, ray_mesh}
use Rattle.mesh.specs.Demand3.{Candidate}
use Rattle.known_answers.proofs.MeshExamples.{odd_passes}
use Rattle.exact_depth.specs.FirstPoint.{kept, crossing, side_of, entering, inside, entry, along_plane, area, in_plane, coplanar}
use Rattle.exact_depth.specs.FirstPoint.{by_weights}
use Rattle.exact_depth.specs.FirstPoint.{first_point}
use Rattle.wide_integers.proofs.Integers.{pp}
use Rattle.wide_integers.proofs.Polynomials.{own, own_pos, own_neg, rep_add, rep_mul, equal}
use Rattle.wide_integers.proofs.Order.{rep_same}
use Rattle.exact_triangle.specs.Grid.{furthest, all_within, nearest_to, grid_admitted, grid_line}
use Rattle.exact_triangle.specs.Box.{low_side, high_side, certain_box}
use Rattle.exact_triangle.specs.Shear.{main_of, depth_of}
use Rattle.exact_triangle.specs.Reach.{corners_read, corners_reach, grid_reach}
use Rattle.exact_triangle.specs.Cast.{grid_normal, grid_triangle}
use Rattle.mesh_exact.specs.GridCast.{exact_answer, over_triangles, ray_mesh_exact_plain}
use Rattle.whole_numbers.specs.Points.{Point}
use Rattle.whole_numbers.specs.WholeTriangle.{Drawing, DrawnAt, Parallel, Crossing, downward}
use Rattle.whole_numbers.specs.WholeMesh.{Plan, WholeMesh}
use Rattle.exact_agreement.specs.Agreement.{NoOpenCase, OthersApart, SameDepth, Agree}
use Rattle.exact_agreement.proofs.Agreeing.{whole_numbers_agree}

-- ---- one at height 0, one beside it, one below it
abbrev vertices : List Float
vertices =
    o ∷ o ∷ o ∷ i ∷ o ∷ o ∷ o ∷ i ∷ o ∷ ten ∷ o ∷ o ∷ eleven ∷ o ∷ o ∷ ten ∷ i ∷ o ∷ o ∷ o ∷ lower ∷ i ∷ o ∷ lower ∷ o ∷ i ∷ lower ∷ []

abbrev mesh : Mesh
mesh = record { vertices = vertices; triangles = 0 ∷ 1 ∷ 2 ∷ 3 ∷ 4 ∷ 5 ∷ 6 ∷ 7 ∷ 8 ∷ [] }

-- down from a millimetre above its first corner, three millimetres far
abbrev ray : Ray
ray = record {
  origin = record { x = o; y = o; z = i };
  direction = record { x = o; y = o; z = lower };
  max_distance = of_bits binary64 0x4008_0000_0000_0000;
  near = o;
}

-- ---- the exact cast: a hit at 1 of the upper one
cast_told : ray_mesh_exact_plain ray mesh ≡ hit_at (record { x = o; y = o; z = i }) i 0
unfolding ray_mesh_exact_plain over_triangles exact_answer triangles_fit triangle_fits every range triangle_box corner_at corners_of
    corners_inside
    lengths_admitted vector_at fold_from next_of facing grid_triangle grid_normal grid_reach corners_reach corners_read grid_admitted
    grid_line
    nearest_to depth_of main_of first_point by_weights crossing kept coplanar in_plane area along_plane entry inside entering side_of
    ray_admitted unit_length valid_box valid_side normalizable zero_vec dot_tells scaled_to_one over_length try_normalize digits_of
    scaled_by unit
    length_of checked_dot dot_of max_element abs_of max_of min_of neg_of finite_vec component root_of root_round whole_root root_digits
    maximum_of
    minimum_of absolute is_finite of_int to_signed of_bits of_fields is_nan ne le eq lt div mul sub add sum neg round units odd size climb
    span
cast_told = refl

-- ---- the one beside the column is no candidate, on the grid neither; the others are
second_apart : touches (triangle_box vertices mesh.triangles 1) (segment_box ray) ≡ false
unfolding touches touch_side triangle_box corner_at vector_at segment_box segment_end add_of scale_of min_of max_of component minimum_of
    maximum_of
    is_finite of_bits of_fields is_nan ne le eq lt mul sub add sum neg round units odd size climb span
second_apart = refl

second_off : touches (triangle_box vertices mesh.triangles 1) (certain_box (grid_line ray)) ≡ false
unfolding touches touch_side triangle_box corner_at vector_at certain_box low_side high_side grid_line nearest_to min_of max_of component
    minimum_of
    maximum_of is_finite of_bits of_fields is_nan ne le eq lt mul sub add sum neg round units odd size climb span
second_off = refl

near_told : touches (triangle_box vertices mesh.triangles 0) (segment_box ray)
    ∷ (touches (triangle_box vertices mesh.triangles 2) (segment_box ray) ∷ []) ≡ true ∷ (true ∷ [])
unfolding touches touch_side triangle_box corner_at vector_at segment_box segment_end add_of scale_of min_of max_of component minimum_of
    maximum_of
    is_finite of_bits of_fields is_nan ne le eq lt mul sub add sum neg round units odd size climb span
near_told = refl

-- every corner is within 8,192 mm
abbrev in_range : ℕ → ℕ → Bool
in_range j k = all_within furthest (corner_at vertices mesh.triangles j k)

ranges_told : in_range 0 0 ∷ (in_range 0 1 ∷ (in_range 0 2 ∷ (in_range 1 0 ∷ (in_range 1 1 ∷ (in_range 1 2
    ∷ (in_range 2 0 ∷ (in_range 2 1 ∷ (in_range 2 2 ∷ []))))))))
    ≡ true ∷ (true ∷ (true ∷ (true ∷ (true ∷ (true ∷ (true ∷ (true ∷ (true ∷ []))))))))
unfolding corner_at vector_at absolute of_bits of_fields le lt eq
ranges_told = refl

range_of_lem : (n : ℕ) → List Bool → Bool
range_of_lem n xs = get_or xs n false

in_range_lem : (j k : ℕ) → j < 3 → k < 3 → in_range j k ≡ true
unfolding range_of_lem
in_range_lem zero zero h g = ap (range_of_lem 0) ranges_told
in_range_lem zero (suc zero) h g = ap (range_of_lem 1) ranges_told
in_range_lem zero (suc (suc zero)) h g = ap (range_of_lem 2) ranges_told
in_range_lem (suc zero) zero h g = ap (range_of_lem 3) ranges_told
in_range_lem (suc zero) (suc zero) h g = ap (range_of_lem 4) ranges_told
in_range_lem (suc zero) (suc (suc zero)) h g = ap (range_of_lem 5) ranges_told
in_range_lem (suc (suc zero)) zero h g = ap (range_of_lem 6) ranges_told
in_range_lem (suc (suc zero)) (suc zero) h g = ap (range_of_lem 7) ranges_told
in_range_lem (suc (suc zero)) (suc (suc zero)) h g = ap (range_of_lem 8) ranges_told
in_range_lem (suc (suc (suc j))) k h g = absurd (omega (arith, h))
in_range_lem zero (suc (suc (suc k))) h g = absurd (omega (arith, g))
in_range_lem (suc zero) (suc (suc (suc k))) h g = absurd (omega (arith, g))
in_range_lem (suc (suc zero)) (suc (suc (suc k))) h g = absurd (omega (arith, g))

candidates : (j : ℕ) → j < 3 → touches (triangle_box vertices mesh.triangles j) (certain_box (grid_line ray)) ≡ true → Candidate ray mesh j
candidates zero h g = record { triangle = h; near = ap (λ (xs : List Bool). get_or xs 0 false) near_told }
candidates (suc zero) h g = absurd (true≢false (sym g ∙ second_off))
candidates (suc (suc zero)) h g = record { triangle = h; near = ap (λ (xs : List Bool). get_or xs 1 false) near_told }
candidates (suc (suc (suc j))) h g = absurd (omega (arith, h))

-- ---- as M-112 draws it
abbrev at : ℤ → ℤ → ℤ → Point
at x y z = record { x = x; y = y; z = z }

-- a triangle of the column, at a height
abbrev whole_triangle : ℤ → ℕ → Point
whole_triangle height zero = at (pos 0) (pos 0) height
whole_triangle height (suc zero) = at (pos 1) (pos 0) height
whole_triangle height (suc (suc k)) = at (pos 0) (pos 1) height

-- the one beside the column is no candidate
abbrev height_of : ℕ → ℤ
height_of zero = pos 0
height_of (suc j) = negsuc 0

abbrev plan : Plan
plan = record { o = at (pos 0) (pos 0) (pos 1); direction = downward; maximum = 3; corner = λ (j : ℕ). whole_triangle (height_of j) }

others : OthersApart ray mesh plan
others = record { in_range = λ j k h g. in_range_lem j k h g; whole_or_apart = λ j h. inr (candidates j h) }

whole_floats : eq o (of_int binary64 (pos 0)) ∷ (eq i (of_int binary64 (pos 1)) ∷ (eq lower (of_int binary64 (negsuc 0))
    ∷ (eq ray.max_distance (of_int binary64 (pos 3)) ∷ []))) ≡ true ∷ (true ∷ (true ∷ (true ∷ [])))
unfolding of_int of_bits of_fields eq neg round units odd size climb span
whole_floats = refl

is_zero_lem : eq o (of_int binary64 (pos 0)) ≡ true
is_zero_lem = ap (λ (xs : List Bool). get_or xs 0 false) whole_floats

is_one : eq i (of_int binary64 (pos 1)) ≡ true
is_one = ap (λ (xs : List Bool). get_or xs 1 false) whole_floats

is_lower : eq lower (of_int binary64 (negsuc 0)) ≡ true
is_lower = ap (λ (xs : List Bool). get_or xs 2 false) whole_floats

is_three : eq ray.max_distance (of_int binary64 (pos 3)) ≡ true
is_three = ap (λ (xs : List Bool). get_or xs 3 false) whole_floats

-- a corner by its floats
drawn_at : (B : ℕ) → 1 ≤ B → (x y z : Float) (p : Point) → eq x (of_int binary64 p.x) ≡ true → eq y (of_int binary64 p.y) ≡ true
    → eq z (of_int binary64 p.z) ≡ true → nat_abs p.x ≤ 1 → nat_abs p.y ≤ 1 → nat_abs p.z ≤ 1
    → DrawnAt B (record { x = x; y = y; z = z }) p
drawn_at B b x y z p e f g k l n = record {
  first = record { equal = e; bound = le_trans k b };
  second = record { equal = f; bound = le_trans l b };
  third = record { equal = g; bound = le_trans n b };
}

abbrev column_at : Float → ℕ → Vec3
column_at h zero = record { x = o; y = o; z = h }
column_at h (suc zero) = record { x = i; y = o; z = h }
column_at h (suc (suc k)) = record { x = o; y = i; z = h }

column_drawn : (height : ℤ) (h : Float) → eq h (of_int binary64 height) ≡ true → nat_abs height ≤ 1 → (k : ℕ)
    → DrawnAt 4096 (column_at h k) (whole_triangle height k)
column_drawn height h e n zero =
    drawn_at 4096 (lit≤ tt) o o h (whole_triangle height 0) is_zero_lem is_zero_lem e (lit≤ tt) (lit≤ tt) n
column_drawn height h e n (suc zero) =
    drawn_at 4096 (lit≤ tt) i o h (whole_triangle height 1) is_one is_zero_lem e (lit≤ tt) (lit≤ tt) n
column_drawn height h e n (suc (suc k)) =
    drawn_at 4096 (lit≤ tt) o i h (whole_triangle height 2) is_zero_lem is_one e (lit≤ tt) (lit≤ tt) n

upper_drawn : (k : ℕ) → k < 3 → DrawnAt 4096 (corner_at vertices mesh.triangles 0 k) (whole_triangle (pos 0) k)
unfolding corner_at vector_at
upper_drawn zero h = column_drawn (pos 0) o is_zero_lem (lit≤ tt) 0
upper_drawn (suc zero) h = column_drawn (pos 0) o is_zero_lem (lit≤ tt) 1
upper_drawn (suc (suc zero)) h = column_drawn (pos 0) o is_zero_lem (lit≤ tt) 2
upper_drawn (suc (suc (suc k))) h = absurd (omega (arith, h))

under_drawn : (k : ℕ) → k < 3 → DrawnAt 4096 (corner_at vertices mesh.triangles 2 k) (whole_triangle (negsuc 0) k)
unfolding corner_at vector_at
under_drawn zero h = column_drawn (negsuc 0) lower is_lower (lit≤ tt) 0
under_drawn (suc zero) h = column_drawn (negsuc 0) lower is_lower (lit≤ tt) 1
under_drawn (suc (suc zero)) h = column_drawn (negsuc 0) lower is_lower (lit≤ tt) 2
under_drawn (suc (suc (suc k))) h = absurd (omega (arith, h))

corners_drawn : (j : ℕ) → Candidate ray mesh j → (k : ℕ) → k < 3
    → DrawnAt 4096 (corner_at vertices mesh.triangles j k) (whole_triangle (height_of j) k)
corners_drawn zero c k h = upper_drawn k h
corners_drawn (suc zero) c k h = absurd (true≢false (sym c.near ∙ second_apart))
corners_drawn (suc (suc zero)) c k h = under_drawn k h
corners_drawn (suc (suc (suc j))) c k h = absurd (omega (arith, c.triangle))

column : WholeMesh ray mesh plan
column = record {
  origin = drawn_at 4096 (lit≤ tt) o o i plan.o is_zero_lem is_zero_lem is_one (lit≤ tt) (lit≤ tt) (lit≤ tt);
  direction = drawn_at 1 (lit≤ tt) o o lower (at (pos 0) (pos 0) (negsuc 0)) is_zero_lem is_zero_lem is_lower (lit≤ tt) (lit≤ tt) (lit≤ tt);
  near = record { equal = is_zero_lem; bound = lit≤ tt };
  maximum = record { equal = is_three; bound = lit≤ tt };
  positive = lit≤ tt;
  corners = corners_drawn;
}

-- ---- a triangle of the column is crossed in its first corner, k millimetres deep
abbrev is_negative : ℤ → Bool
is_negative (pos n) = false
is_negative (negsuc n) = true

abbrev drawing : ℤ → Drawing
drawing height = record {
  o = plan.o;
  direction = downward;
  maximum = 3;
  a = whole_triangle height 0;
  b = whole_triangle height 1;
  c = whole_triangle height 2;
}

record Column (height : ℤ) (k : ℕ) : Type 0 where
  apart : Parallel (drawing height) → ⊥
  first : (D : ℕ) (u v t : ℤ) → Crossing (drawing height) D u v t → u ≡ pos 0
  second : (D : ℕ) (u v t : ℤ) → Crossing (drawing height) D u v t → v ≡ pos 0
  depth : (D : ℕ) (u v t : ℤ) → Crossing (drawing height) D u v t → t ≡ pos (k * D)

no_first : (D : ℕ) (u v t : ℤ) → pos D *ℤ pos 0 +ℤ t *ℤ pos 0 ≡ u *ℤ pos 1 +ℤ v *ℤ pos 0 → u ≡ pos 0
no_first D u v t h =
    let e =
    rep_same (rep_add (rep_mul (own_pos D) (own_pos 0)) (rep_mul (own t) (own_pos 0)))
    (rep_add (rep_mul (own u) (own_pos 1)) (rep_mul (own v) (own_pos 0))) h in
    equal (own u) (own_pos 0) (omega (arith, e))

no_second : (D : ℕ) (u v t : ℤ) → pos D *ℤ pos 0 +ℤ t *ℤ pos 0 ≡ u *ℤ pos 0 +ℤ v *ℤ pos 1 → v ≡ pos 0
no_second D u v t h =
    let e =
    rep_same (rep_add (rep_mul (own_pos D) (own_pos 0)) (rep_mul (own t) (own_pos 0)))
    (rep_add (rep_mul (own u) (own_pos 0)) (rep_mul (own v) (own_pos 1))) h in
    equal (own v) (own_pos 0) (omega (arith, e))

deep : (k D : ℕ) (u v t : ℤ) → pos D *ℤ pos k +ℤ t *ℤ negsuc 0 ≡ u *ℤ pos 0 +ℤ v *ℤ pos 0 → t ≡ pos (k * D)
deep k D u v t h =
    let e =
    rep_same (rep_add (rep_mul (own_pos D) (own_pos k)) (rep_mul (own t) (own_neg 0)))
    (rep_add (rep_mul (own u) (own_pos 0)) (rep_mul (own v) (own_pos 0))) h in
    equal (own t) (own_pos (k * D)) (omega (arith, e))

upper : Column (pos 0) 1
upper = record {
  apart = λ (h : ◌≡◌ {A = ℤ} (negsuc 0) (pos 0)). subst (λ (z : ℤ). T (is_negative z)) h tt;
  first = λ D u v t x. no_first D u v t (ap (λ (p : Point). p.x) x.meets);
  second = λ D u v t x. no_second D u v t (ap (λ (p : Point). p.y) x.meets);
  depth = λ D u v t x. deep 1 D u v t (ap (λ (p : Point). p.z) x.meets);
}

under : Column (negsuc 0) 2
under = record {
  apart = λ (h : ◌≡◌ {A = ℤ} (negsuc 0) (pos 0)). subst (λ (z : ℤ). T (is_negative z)) h tt;
  first = λ D u v t x. no_first D u v t (ap (λ (p : Point). p.x) x.meets);
  second = λ D u v t x. no_second D u v t (ap (λ (p : Point). p.y) x.meets);
  depth = λ D u v t x. deep 2 D u v t (ap (λ (p : Point). p.z) x.meets);
}

-- every candidate is one of the column
record Candid (j : ℕ) : Type 0 where
  k : ℕ
  less : k < 3
  of_column : Column (height_of j) k

candid : (j : ℕ) → Candidate ray mesh j → Candid j
candid zero c = record { k = 1; less = lit≤ tt; of_column = upper }
candid (suc zero) c = absurd (true≢false (sym c.near ∙ second_apart))
candid (suc (suc zero)) c = record { k = 2; less = lit≤ tt; of_column = under }
candid (suc (suc (suc j))) c = absurd (omega (arith, c.triangle))

no_sum : (D : ℕ) (u v : ℤ) → 0 < D → u ≡ pos 0 → v ≡ pos 0 → u +ℤ v ≡ pos D → ⊥
no_sum D u v p e f h =
    let g : pos 0 ≡ pos D = (λ s. sym e s +ℤ sym f s) ∙ h in
    omega (arith, p, ap pp g)

before : (k D : ℕ) (t : ℤ) → k < 3 → 0 < D → t ≡ pos (k * D) → t ≡ pos (3 * D) → ⊥
before k D t l p e h =
    let g : k * D ≡ 3 * D = ap pp (sym e ∙ h) in
    let m : k * D ≤ 2 * D = mul-le-mul_right D (omega (arith, l)) in
    omega (arith, g, m, p)

column_clear : NoOpenCase ray mesh plan
column_clear = record {
  parallel = λ j c. (candid j c).of_column.apart;
  negate = λ j c D u v t x inner.
      let q = (candid j c).of_column in
      no_sum D u v x.divisor (q.first D u v t x) (q.second D u v t x);
  at_maximum = λ j c D u v t x inner.
      let q = candid j c in
      before q.k D t q.less x.divisor (q.of_column.depth D u v t x);
}

-- so the cast through that tree and the exact cast agree
pub odd_agrees : Agree ray mesh (ray_mesh ray mesh vertices odd_tree 3 4) (ray_mesh_exact_plain ray mesh)
unfolding lengths_admitted room_for tree_fits
odd_agrees = whole_numbers_agree ray mesh odd_tree 3 4 plan refl (record { marks = 9; says_yes = odd_passes }) refl column others
    column_clear

-- .. in the depth: where the cast through the tree is a hit, its distance lies within 2^-51 of the least depth, and 1 is nearest to that
pub odd_hit : (normal : Vec3) (distance : Float) (index : ℕ) → ray_mesh ray mesh vertices odd_tree 3 4 ≡ hit_at normal distance index
    → SameDepth ray mesh distance i
odd_hit n d j h = odd_agrees.depth n d j h (record { x = o; y = o; z = i }) i 0 cast_told
