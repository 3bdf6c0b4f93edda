-- A box that encloses a touching box touches; boxes that are equal under IEEE 754 touch alike; the box around two has the least and the
-- greatest corners; and the boxes of finite corners and of a segment with finite ends are valid. Each is shown on one side and then on all.
-- Assumes nothing.
use mathlib.Core.Path.{◌≡◌, refl, sym, ap, ◌∙◌}
use mathlib.Core.Bool.{Bool, true, false, ◌&&◌, ◌||◌, beq, false≢true}
use mathlib.Core.List.{List}
use Prim.Native.Nat.{ℕ, ◌*◌}
use borrow.Author.Tests.{eqb-true, eq-eqb}
use lib.Dec.{eqb}
use lib.Ieee.{Float, nan, inf, fin, up, down, le, eq, level}
use Rattle.arithmetic.specs.Basic.{is_finite}
use Rattle.arithmetic.specs.Extremes.{minimum_of, maximum_of}
use Rattle.arithmetic.proofs.Numbers.{finite_number}
use Rattle.arithmetic.proofs.Order.{le_of_eq, le_transitive}
use Rattle.arithmetic.proofs.ExtremesOrder.{minimum_finite, maximum_finite, minimum_below_second, maximum_above_second}
use Rattle.vectors.specs.Vector.{finite_vec, min_of, max_of}
use Rattle.geometry.specs.Box.{every_sides, valid_side, valid_box, touch_side, touches, within_side, encloses, same_side, same_box}
use Rattle.geometry.specs.Box.{union_of}
use Rattle.geometry.specs.Box.{corner, corners_box}
use Rattle.geometry.specs.Segment.{ray_admitted, range_admitted, unit_length, segment_end, segment_box}
use Rattle.vectors.specs.declared.vec3.Vec3.{Vec3}
use Rattle.geometry.specs.declared.aabb.Aabb.{Aabb}
use Rattle.geometry.specs.declared.ray.Ray.{Ray}
use Rattle.lists.proofs.JoinedTests.{and_both, and_first, and_second, and_three, alike}
use Rattle.vectors.proofs.FiniteVectors.{finite_x, finite_y, finite_z, min_finite, max_finite}

-- ---- equal numbers are at most the same, and at least the same
level_symmetric : (s : Bool) (a : ℕ) (t : Bool) (b : ℕ) → level s a t b ≡ true → level t b s a ≡ true
level_symmetric s a t b h =
    let e : a ≡ b = eqb-true a b (and_first (eqb a b) (beq s t || eqb a 0) h) in
    and_both (eqb b a) (beq t s || eqb b 0) (eq-eqb b a (sym e)) (signs s t (and_second (eqb a b) (beq s t || eqb a 0) h) e)
  where
    signs : (s t : Bool) → (beq s t || eqb a 0) ≡ true → a ≡ b → (beq t s || eqb b 0) ≡ true
    signs true true g e = refl
    signs true false g e = ap (λ (k : ℕ). eqb k 0) (sym e) ∙ g
    signs false true g e = ap (λ (k : ℕ). eqb k 0) (sym e) ∙ g
    signs false false g e = refl

eq_symmetric : (x y : Float) → eq x y ≡ true → eq y x ≡ true
unfolding eq
eq_symmetric nan y h = absurd (false≢true h)
eq_symmetric (inf s) nan h = absurd (false≢true h)
eq_symmetric (inf false) (inf false) h = refl
eq_symmetric (inf false) (inf true) h = h
eq_symmetric (inf true) (inf false) h = h
eq_symmetric (inf true) (inf true) h = refl
eq_symmetric (inf s) (fin t n d) h = absurd (false≢true h)
eq_symmetric (fin s m e) nan h = absurd (false≢true h)
eq_symmetric (fin s m e) (inf t) h = absurd (false≢true h)
eq_symmetric (fin s m e) (fin t n d) h = level_symmetric s (m * up e * down d) t (n * up d * down e) h

le_of_eq_reversed : (x y : Float) → eq x y ≡ true → le y x ≡ true
le_of_eq_reversed x y h = le_of_eq y x (eq_symmetric x y h)

-- ---- one side
module _ (low high low' high' a b : Float) where
  touch_side_grows : within_side low high low' high' ≡ true → touch_side low' high' a b ≡ true → touch_side low high a b ≡ true
  unfolding within_side touch_side
  touch_side_grows w h =
      and_both (le low b) (le a high)
      (le_transitive low low' b (and_first (le low low') (le high' high) w) (and_first (le low' b) (le a high') h))
      (le_transitive a high' high (and_second (le low' b) (le a high') h) (and_second (le low low') (le high' high) w))

-- equal sides enclose each other
within_of_same : (low high low' high' : Float) → same_side low high low' high' ≡ true → within_side low high low' high' ≡ true
unfolding same_side within_side
within_of_same low high low' high' h =
    and_both (le low low') (le high' high)
    (le_of_eq low low' (and_first (eq low low') (eq high high') h))
    (le_of_eq_reversed high high' (and_second (eq low low') (eq high high') h))

within_of_same_reversed : (low high low' high' : Float) → same_side low high low' high' ≡ true → within_side low' high' low high ≡ true
unfolding same_side within_side
within_of_same_reversed low high low' high' h =
    and_both (le low' low) (le high high')
    (le_of_eq_reversed low low' (and_first (eq low low') (eq high high') h))
    (le_of_eq high high' (and_second (eq low low') (eq high high') h))

-- ---- every side
-- three tests, each from two of its own
each_of_two : (p p' p'' q q' q'' r r' r'' : Bool) → (p ≡ true → q ≡ true → r ≡ true) → (p' ≡ true → q' ≡ true → r' ≡ true) →
    (p'' ≡ true → q'' ≡ true → r'' ≡ true)
    → (p && (p' && p'')) ≡ true → (q && (q' && q'')) ≡ true → (r && (r' && r'')) ≡ true
each_of_two p p' p'' q q' q'' r r' r'' f g k h l =
    and_both r (r' && r'') (f (and_first p (p' && p'') h) (and_first q (q' && q'') l))
    (and_both r' r''
    (g (and_first p' p'' (and_second p (p' && p'') h)) (and_first q' q'' (and_second q (q' && q'') l)))
    (k (and_second p' p'' (and_second p (p' && p'') h)) (and_second q' q'' (and_second q (q' && q'') l))))

abbrev on_sides : (Float → Float → Float → Float → Bool) → (Vec3 → Float) → Aabb → Aabb → Bool
on_sides rule axis b c = rule (axis b.min) (axis b.max) (axis c.min) (axis c.max)

abbrev Rule : Type 0
Rule = Float → Float → Float → Float → Bool

-- a rule between two boxes that two other rules give on each side
sides_of_two : (p q r : Rule) (b c d e f g : Aabb)
    → ((axis : Vec3 → Float) → on_sides p axis b c ≡ true → on_sides q axis d e ≡ true → on_sides r axis f g ≡ true)
    → every_sides p b c ≡ true → every_sides q d e ≡ true → every_sides r f g ≡ true
sides_of_two p q r b c d e f g step h l =
    each_of_two
    (on_sides p (λ v. v.x) b c) (on_sides p (λ v. v.y) b c) (on_sides p (λ v. v.z) b c)
    (on_sides q (λ v. v.x) d e) (on_sides q (λ v. v.y) d e) (on_sides q (λ v. v.z) d e)
    (on_sides r (λ v. v.x) f g) (on_sides r (λ v. v.y) f g) (on_sides r (λ v. v.z) f g)
    (step (λ v. v.x)) (step (λ v. v.y)) (step (λ v. v.z)) h l

pub touches_grows : (b c d : Aabb) → encloses b c ≡ true → touches c d ≡ true → touches b d ≡ true
unfolding encloses touches
touches_grows b c d =
    sides_of_two within_side touch_side touch_side b c c d b d
    (λ axis. touch_side_grows (axis b.min) (axis b.max) (axis c.min) (axis c.max) (axis d.min) (axis d.max))

pub encloses_of_same : (b c : Aabb) → same_box b c ≡ true → encloses b c ≡ true
unfolding encloses same_box
encloses_of_same b c h =
    sides_of_two same_side same_side within_side b c b c b c
    (λ axis s t. within_of_same (axis b.min) (axis b.max) (axis c.min) (axis c.max) s) h h

pub encloses_of_same_reversed : (b c : Aabb) → same_box b c ≡ true → encloses c b ≡ true
unfolding encloses same_box
encloses_of_same_reversed b c h =
    sides_of_two same_side same_side within_side b c b c c b
    (λ axis s t. within_of_same_reversed (axis b.min) (axis b.max) (axis c.min) (axis c.max) s) h h

pub touches_of_same : (b c d : Aabb) → same_box b c ≡ true → touches b d ≡ touches c d
touches_of_same b c d h =
    alike (touches b d) (touches c d) (touches_grows c b d (encloses_of_same_reversed b c h)) (touches_grows b c d (encloses_of_same b c h))

-- ---- the box around two, from its corners
pub union_is : (low high : Vec3) (next : Aabb) (v w : Vec3) (b : Aabb) → next ≡ b → v ≡ min_of low next.min → w ≡ max_of high next.max
    → ◌≡◌ {A = Aabb} (record { min = v; max = w }) (union_of (record { min = low; max = high }) b)
unfolding union_of
union_is low high next v w b e p q = rw (p, q, e)

-- ---- the boxes of finite corners
-- the second operand lies between its minimum with one number and its maximum with another
around_second : (x w y : Float) → is_finite x ≡ true → is_finite w ≡ true → is_finite y ≡ true
    → valid_side (minimum_of x y) (maximum_of w y) ≡
    true
unfolding valid_side
around_second x w y p q r =
    and_three (is_finite (minimum_of x y)) (is_finite (maximum_of w y)) (le (minimum_of x y) (maximum_of w y))
    (minimum_finite x y p r)
    (maximum_finite w y q r)
    (le_transitive (minimum_of x y) y (maximum_of w y)
    (minimum_below_second x y (finite_number x p) (finite_number y r))
    (maximum_above_second w y (finite_number w q) (finite_number y r)))

around_second_valid : (v w u : Vec3) → finite_vec v ≡ true → finite_vec w ≡ true → finite_vec u ≡ true → valid_box record
    { min = min_of v u; max = max_of w u } ≡ true
unfolding valid_box min_of max_of
around_second_valid v w u p q r =
    and_three
    (valid_side (minimum_of v.x u.x) (maximum_of w.x u.x))
    (valid_side (minimum_of v.y u.y) (maximum_of w.y u.y))
    (valid_side (minimum_of v.z u.z) (maximum_of w.z u.z))
    (around_second v.x w.x u.x (finite_x v p) (finite_x w q) (finite_x u r))
    (around_second v.y w.y u.y (finite_y v p) (finite_y w q) (finite_y u r))
    (around_second v.z w.z u.z (finite_z v p) (finite_z w q) (finite_z u r))

pub corners_box_valid : (vs : List Vec3) → finite_vec (corner vs 0) ≡ true → finite_vec (corner vs 1) ≡ true → finite_vec (corner vs 2)
    ≡ true
    → valid_box (corners_box vs) ≡ true
unfolding corners_box
corners_box_valid vs p q r =
    around_second_valid (min_of (corner vs 0) (corner vs 1)) (max_of (corner vs 0) (corner vs 1)) (corner vs 2)
    (min_finite (corner vs 0) (corner vs 1) p q) (max_finite (corner vs 0) (corner vs 1) p q) r

-- the origin of an admitted ray is finite
pub origin_finite : (r : Ray) → ray_admitted r ≡ true → finite_vec r.origin ≡ true
unfolding ray_admitted
origin_finite r = and_first (finite_vec r.origin) (finite_vec r.direction && (unit_length r.direction && range_admitted r))

pub segment_box_valid : (r : Ray) → ray_admitted r ≡ true → finite_vec (segment_end r) ≡ true → valid_box (segment_box r) ≡ true
unfolding segment_box
segment_box_valid r admitted finite =
    around_second_valid r.origin r.origin (segment_end r) (origin_finite r admitted) (origin_finite r admitted) finite
