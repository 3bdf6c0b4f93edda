-- The union of valid boxes is valid, encloses both and lies within each box that does; so the box of a range of triangles encloses each of
-- theirs, and the box of any part of it. Each is shown on one axis and then on all. Assumes nothing.
use Prim.Native.Nat.{ℕ, ◌<◌}
use mathlib.Core.Path.{◌≡◌, refl}
use mathlib.Core.Logic.{◌⊎◌, inl, inr}
use mathlib.Core.Bool.{Bool, true, false, ◌&&◌}
use mathlib.Core.List.{List, [], ◌∷◌}
use native.Mathlib.Omega.{arith}
use lib.Ieee.{Float, le, eq, is_nan}
use lib.ListN.{length}
use Rattle.arithmetic.specs.Basic.{is_finite}
use Rattle.arithmetic.specs.Extremes.{minimum_of, maximum_of}
use Rattle.arithmetic.proofs.Order.{le_left_number, le_right_number, le_reflexive, le_transitive, eq_of_le_le}
use Rattle.arithmetic.proofs.ExtremesOrder.{minimum_below_first, minimum_below_second, maximum_above_first}
use Rattle.arithmetic.proofs.ExtremesOrder.{maximum_above_second}
use Rattle.arithmetic.proofs.ExtremesLimits.{minimum_keeps, maximum_keeps}
use Rattle.vectors.specs.Vector.{min_of, max_of}
use Rattle.geometry.specs.Box.{valid_side, valid_box, within_side, encloses, same_side, same_box, union_of}
use Rattle.vectors.specs.declared.vec3.Vec3.{Vec3}
use Rattle.geometry.specs.declared.aabb.Aabb.{Aabb}
use Rattle.lists.proofs.JoinedTests.{and_both, and_first, and_second}
use Rattle.lists.specs.Lists.{count, folded}
use Rattle.lists.proofs.CountLaws.{one_same, one_other, same_or_other, count_cons, count_nil}
use Rattle.tree_ranges.specs.Extents.{hull_of}
use Rattle.tree.specs.Layout.{box_at}

-- ---- axes
data Axis : Type 0 where
  along_x : Axis
  along_y : Axis
  along_z : Axis

abbrev on : Axis → Vec3 → Float
on along_x v = v.x
on along_y v = v.y
on along_z v = v.z

abbrev every_axis : (Axis → Bool) → Bool
every_axis p = p along_x && (p along_y && p along_z)

axis_of_every : (p : Axis → Bool) → every_axis p ≡ true → (a : Axis) → p a ≡ true
axis_of_every p h along_x = and_first (p along_x) (p along_y && p along_z) h
axis_of_every p h along_y = and_first (p along_y) (p along_z) (and_second (p along_x) (p along_y && p along_z) h)
axis_of_every p h along_z = and_second (p along_y) (p along_z) (and_second (p along_x) (p along_y && p along_z) h)

every_of_axis : (p : Axis → Bool) → ((a : Axis) → p a ≡ true) → every_axis p ≡ true
every_of_axis p h = and_both (p along_x) (p along_y && p along_z) (h along_x) (and_both (p along_y) (p along_z) (h along_y) (h along_z))

-- ---- what a valid box and an enclosing box say on an axis
record Valid (low high : Float) : Type 0 where
  pub low_finite_lem : is_finite low ≡ true
  pub high_finite_lem : is_finite high ≡ true
  pub rises : le low high ≡ true

valid_of : (low high : Float) → Valid low high → valid_side low high ≡ true
unfolding valid_side
valid_of low high v = and_both (is_finite low) (is_finite high && le low high) v.low_finite_lem
    (and_both (is_finite high) (le low high) v.high_finite_lem v.rises)

of_valid : (low high : Float) → valid_side low high ≡ true → Valid low high
unfolding valid_side
of_valid low high h = record {
  low_finite_lem = and_first (is_finite low) (is_finite high && le low high) h;
  high_finite_lem = and_first (is_finite high) (le low high) (and_second (is_finite low) (is_finite high && le low high) h);
  rises = and_second (is_finite high) (le low high) (and_second (is_finite low) (is_finite high && le low high) h);
}

low_number : {low high : Float} → Valid low high → is_nan low ≡ false
low_number {low} {high} v = le_left_number low high v.rises

high_number : {low high : Float} → Valid low high → is_nan high ≡ false
high_number {low} {high} v = le_right_number low high v.rises

abbrev ValidOn : Axis → Aabb → Type 0
ValidOn a b = Valid (on a b.min) (on a b.max)

valid_on : (b : Aabb) → valid_box b ≡ true → (a : Axis) → ValidOn a b
unfolding valid_box
valid_on b h a = of_valid (on a b.min) (on a b.max) (axis_of_every (λ (a : Axis). valid_side (on a b.min) (on a b.max)) h a)

valid_box_lem : (b : Aabb) → ((a : Axis) → ValidOn a b) → valid_box b ≡ true
unfolding valid_box
valid_box_lem b h = every_of_axis (λ (a : Axis). valid_side (on a b.min) (on a b.max))
    (λ (a : Axis). valid_of (on a b.min) (on a b.max) (h a))

abbrev WithinOn : Axis → Aabb → Aabb → Type 0
WithinOn a b c = (le (on a b.min) (on a c.min) ≡ true) × (le (on a c.max) (on a b.max) ≡ true)

within_on : (b c : Aabb) → encloses b c ≡ true → (a : Axis) → WithinOn a b c
unfolding encloses within_side
within_on b c h a =
    let side = axis_of_every (λ (a : Axis). le (on a b.min) (on a c.min) && le (on a c.max) (on a b.max)) h a in (
      and_first (le (on a b.min) (on a c.min)) (le (on a c.max) (on a b.max)) side,
      and_second
          (le (on a b.min) (on a c.min)) (le (on a c.max) (on a b.max)) side,
    )

enclosing : (b c : Aabb) → ((a : Axis) → WithinOn a b c) → encloses b c ≡ true
unfolding encloses within_side
enclosing b c h =
    every_of_axis (λ (a : Axis). le (on a b.min) (on a c.min) && le (on a c.max) (on a b.max))
    (λ (a : Axis). and_both (le (on a b.min) (on a c.min)) (le (on a c.max) (on a b.max)) (h a).0 (h a).1)

-- ---- one box
pub valid_same : (b : Aabb) → valid_box b ≡ true → same_box b b ≡ true
unfolding same_box same_side
valid_same b h = every_of_axis (λ (a : Axis). eq (on a b.min) (on a b.min) && eq (on a b.max) (on a b.max))
    (λ (a : Axis). both a (valid_on b h a))
  where
    self : (x : Float) → is_nan x ≡ false → eq x x ≡ true
    self x n = eq_of_le_le x x (le_reflexive x n) (le_reflexive x n)

    both : (a : Axis) → ValidOn a b → (eq (on a b.min) (on a b.min) && eq (on a b.max) (on a b.max)) ≡ true
    both a v =
        and_both (eq (on a b.min) (on a b.min)) (eq (on a b.max) (on a b.max))
        (self (on a b.min) (low_number v))
        (self (on a b.max) (high_number v))

encloses_itself : (b : Aabb) → valid_box b ≡ true → encloses b b ≡ true
encloses_itself b h = enclosing b b (λ (a : Axis). let v = valid_on b h a in
    (le_reflexive (on a b.min) (low_number v), le_reflexive (on a b.max) (high_number v)))

pub encloses_through : (b c d : Aabb) → encloses b c ≡ true → encloses c d ≡ true → encloses b d ≡ true
encloses_through b c d h k = enclosing b d (λ (a : Axis). let u = within_on b c h a in let v = within_on c d k a in (
  le_transitive (on a b.min) (on a c.min) (on a d.min) u.0 v.0,
  le_transitive (on a d.max) (on a c.max)
      (on a b.max) v.1 u.1,
))

-- ---- the union of two
union_low : (a : Axis) (b c : Aabb) → on a (union_of b c).min ≡ minimum_of (on a b.min) (on a c.min)
unfolding union_of min_of
union_low along_x b c = refl
union_low along_y b c = refl
union_low along_z b c = refl

union_high : (a : Axis) (b c : Aabb) → on a (union_of b c).max ≡ maximum_of (on a b.max) (on a c.max)
unfolding union_of max_of
union_high along_x b c = refl
union_high along_y b c = refl
union_high along_z b c = refl

module _ (b c : Aabb) (p : valid_box b ≡ true) (q : valid_box c ≡ true) where
  union_on : (a : Axis) → WithinOn a (union_of b c) b × WithinOn a (union_of b c) c
  union_on a =
      let v = valid_on b p a in
      let w = valid_on c q a in (
        (
          rw (union_low a b c) (minimum_below_first (on a b.min) (on a c.min) (low_number v) (low_number w)),
          rw (union_high a b c) (maximum_above_first (on a b.max) (on a c.max) (high_number v) (high_number w)),
        ),
        (
          rw (union_low a b c) (minimum_below_second (on a b.min) (on a c.min) (low_number v) (low_number w)),
          rw (union_high a b c) (maximum_above_second (on a b.max) (on a c.max) (high_number v) (high_number w)),
        ),
      )

  pub union_first : encloses (union_of b c) b ≡ true
  union_first = enclosing (union_of b c) b (λ (a : Axis). (union_on a).0)

  pub union_second : encloses (union_of b c) c ≡ true
  union_second = enclosing (union_of b c) c (λ (a : Axis). (union_on a).1)

union_within : (b c d : Aabb) → encloses d b ≡ true → encloses d c ≡ true → encloses d (union_of b c) ≡ true
union_within b c d h k = enclosing d (union_of b c) on_axis
  where
    on_axis : (a : Axis) → WithinOn a d (union_of b c)
    on_axis a =
        let u = within_on d b h a in
        let v = within_on d c k a in (
          rw (union_low a b c) (minimum_keeps (λ (z : Float). le (on a d.min) z ≡ true) (on a b.min) (on a c.min) u.0 v.0),
          rw (union_high a b c) (maximum_keeps (λ (z : Float). le z (on a d.max) ≡ true) (on a b.max) (on a c.max) u.1 v.1),
        )

pub union_valid : (b c : Aabb) → valid_box b ≡ true → valid_box c ≡ true → valid_box (union_of b c) ≡ true
union_valid b c p q = valid_box_lem (union_of b c) on_axis
  where
    on_axis : (a : Axis) → ValidOn a (union_of b c)
    on_axis a =
        let v = valid_on b p a in
        let w = valid_on c q a in
        let u = (union_on b c p q a).0 in
        record {
          low_finite_lem = rw (union_low a b c) (minimum_keeps (λ (z : Float). is_finite z ≡ true) (on a b.min) (on a c.min)
              v.low_finite_lem w.low_finite_lem);
          high_finite_lem = rw (union_high a b c) (maximum_keeps (λ (z : Float). is_finite z ≡ true) (on a b.max) (on a c.max)
              v.high_finite_lem w.high_finite_lem);
          rises =
              le_transitive (on a (union_of b c).min) (on a b.min) (on a (union_of b c).max) u.0
              (le_transitive (on a b.min) (on a b.max) (on a (union_of b c).max) v.rises u.1);
        }

-- ---- the fold over a list
head_listed : (x : ℕ) (ts : List ℕ) → 0 < count x (x ∷ ts)
head_listed x ts = omega (arith, count_cons x x ts, one_same x x refl)

tail_listed : (x y : ℕ) (ts : List ℕ) → 0 < count x ts → 0 < count x (y ∷ ts)
tail_listed x y ts h = omega (arith, count_cons x y ts)

module _ (value : ℕ → Aabb) where
  -- every box of a list is valid, or lies within a box
  abbrev pub AllValid : List ℕ → Type 0
  AllValid ts = (x : ℕ) → 0 < count x ts → valid_box (value x) ≡ true

  abbrev pub AllWithin : Aabb → List ℕ → Type 0
  AllWithin d ts = (x : ℕ) → 0 < count x ts → encloses d (value x) ≡ true

  folded_valid : (b : Aabb) (ts : List ℕ) → valid_box b ≡ true → AllValid ts → valid_box (folded union_of value b ts) ≡ true
  unfolding folded
  folded_valid b [] p h = p
  folded_valid b (t ∷ ts) p h =
      folded_valid (union_of b (value t)) ts (union_valid b (value t) p (h t (head_listed t ts)))
      (λ (x : ℕ) (k : 0 < count x ts). h x (tail_listed x t ts k))

  folded_within : (d b : Aabb) (ts : List ℕ) → encloses d b ≡ true → AllWithin d ts → encloses d (folded union_of value b ts) ≡ true
  unfolding folded
  folded_within d b [] p h = p
  folded_within d b (t ∷ ts) p h =
      folded_within d (union_of b (value t)) ts (union_within b (value t) d p (h t (head_listed t ts)))
      (λ (x : ℕ) (k : 0 < count x ts). h x (tail_listed x t ts k))

  folded_first : (b : Aabb) (ts : List ℕ) → valid_box b ≡ true → AllValid ts → encloses (folded union_of value b ts) b ≡ true
  unfolding folded
  folded_first b [] p h = encloses_itself b p
  folded_first b (t ∷ ts) p h =
      let rest : AllValid ts = λ (x : ℕ) (k : 0 < count x ts). h x (tail_listed x t ts k) in
      let valid = h t (head_listed t ts) in
      encloses_through (folded union_of value (union_of b (value t)) ts) (union_of b (value t)) b
      (folded_first (union_of b (value t)) ts (union_valid b (value t) p valid) rest) (union_first b (value t) p valid)

  folded_each : (b : Aabb) (ts : List ℕ) → valid_box b ≡ true → AllValid ts → AllWithin (folded union_of value b ts) ts
  unfolding folded
  folded_each b [] p h x k = absurd (omega (arith, count_nil x))
  folded_each b (t ∷ ts) p h x k =
      let rest : AllValid ts = λ (x : ℕ) (k : 0 < count x ts). h x (tail_listed x t ts k) in
      let valid = h t (head_listed t ts) in
      let next = union_valid b (value t) p valid in
      go (folded_each (union_of b (value t)) ts next rest x) (folded_first (union_of b (value t)) ts next rest)
      (union_second b (value t) p valid) (same_or_other x t)
    where
      go : (0 < count x ts → encloses (folded union_of value (union_of b (value t)) ts) (value x) ≡ true)
          → encloses (folded union_of value (union_of b (value t)) ts) (union_of b (value t)) ≡ true
          → encloses (union_of b (value t)) (value t) ≡ true
          → (x ≡ t) ⊎ (x ≡ t → ⊥) → encloses (folded union_of value (union_of b (value t)) ts) (value x) ≡ true
      go later grown here (inl e) =
          rw e (encloses_through (folded union_of value (union_of b (value t)) ts) (union_of b (value t)) (value t) grown here)
      go later grown here (inr n) = later (omega (arith, count_cons x t ts, one_other x t n))

-- ---- the box of a range
module _ (boxes : List Float) where
  pub hull_valid : (ts : List ℕ) → 0 < length ts → AllValid (box_at boxes) ts → valid_box (hull_of boxes ts) ≡ true
  unfolding hull_of
  hull_valid [] some h = absurd (omega arith)
  hull_valid (t ∷ ts) some h =
      folded_valid (box_at boxes) (box_at boxes t) ts (h t (head_listed t ts)) (λ (x : ℕ) (k : 0 < count x ts). h x (tail_listed x t ts k))

  pub hull_encloses_each : (ts : List ℕ) → AllValid (box_at boxes) ts → AllWithin (box_at boxes) (hull_of boxes ts) ts
  unfolding hull_of
  hull_encloses_each [] h x k = absurd (omega (arith, count_nil x))
  hull_encloses_each (t ∷ ts) h x k = go (same_or_other x t)
    where
      rest : AllValid (box_at boxes) ts
      rest x k = h x (tail_listed x t ts k)

      first : valid_box (box_at boxes t) ≡ true
      first = h t (head_listed t ts)

      go : (x ≡ t) ⊎ (x ≡ t → ⊥) → encloses (folded union_of (box_at boxes) (box_at boxes t) ts) (box_at boxes x) ≡ true
      go (inl e) = rw e (folded_first (box_at boxes) (box_at boxes t) ts first rest)
      go (inr n) = folded_each (box_at boxes) (box_at boxes t) ts first rest x (omega (arith, count_cons x t ts, one_other x t n))

  pub hull_within : (d : Aabb) (ts : List ℕ) → 0 < length ts → AllWithin (box_at boxes) d ts → encloses d (hull_of boxes ts) ≡ true
  unfolding hull_of
  hull_within d [] some h = absurd (omega arith)
  hull_within d (t ∷ ts) some h =
      folded_within (box_at boxes) d (box_at boxes t) ts (h t (head_listed t ts))
      (λ (x : ℕ) (k : 0 < count x ts). h x (tail_listed x t ts k))
