-- The box of a plain range, and the extent of its centres, do not depend on the order of the range, and the box is the one around the
-- boxes of its parts. Assumes nothing.
use mathlib.Core.Path.{◌≡◌, refl, ap, ◌∙◌}
use mathlib.Core.Bool.{true, ◌&&◌}
use mathlib.Core.List.{List}
use Prim.Native.Nat.{ℕ, ◌+◌, ◌<◌}
use lib.ListN.{length}
use lib.Ieee.{Float}
use Rattle.lists.specs.Lists.{count, folded_all}
use Rattle.lists.proofs.CountLaws.{every_at, member_of_count}
use Rattle.lists.proofs.JoinedTests.{and_first, and_second}
use Rattle.arithmetic.specs.Extremes.{minimum_of, maximum_of}
use Rattle.vectors.specs.Vector.{vector, sub_of, min_of, max_of}
use Rattle.vectors.specs.declared.vec3.Vec3.{Vec3}
use Rattle.geometry.specs.Box.{union_of, centre}
use Rattle.geometry.specs.declared.aabb.Aabb.{Aabb}
use Rattle.tree.specs.Layout.{box_at}
use Rattle.tree_ranges.specs.Extents.{hull_of, centre_of, extent_of}
use Rattle.tree_ranges.specs.Plain.{plain, plain_vec, plain_box, plain_range}
use Rattle.tree_ranges.proofs.PlainExtremes.{least, greatest, part_same, part_joined}

-- ---- from the components
pub from_numbers : (x y z : Float) (w : Vec3) → x ≡ w.x → y ≡ w.y → z ≡ w.z → vector x y z ≡ w
from_numbers x y z w p q r = rw (p, q, r)

from_components : (v w : Vec3) → v.x ≡ w.x → v.y ≡ w.y → v.z ≡ w.z → v ≡ w
from_components v w = from_numbers v.x v.y v.z w

pub from_corners : (low high : Vec3) (c : Aabb) → low ≡ c.min → high ≡ c.max → ◌≡◌ {A = Aabb} (record { min = low; max = high }) c
from_corners low high c p q = rw (p, q)

-- ---- what is plain of a plain vector, and of a plain box
module _ (v : Vec3) (h : plain_vec v ≡ true) where
  plain_x : plain v.x ≡ true
  unfolding plain_vec
  plain_x = and_first (plain v.x) (plain v.y && plain v.z) h

  plain_y : plain v.y ≡ true
  unfolding plain_vec
  plain_y = and_first (plain v.y) (plain v.z) (and_second (plain v.x) (plain v.y && plain v.z) h)

  plain_z : plain v.z ≡ true
  unfolding plain_vec
  plain_z = and_second (plain v.y) (plain v.z) (and_second (plain v.x) (plain v.y && plain v.z) h)

module _ (b : Aabb) (h : plain_box b ≡ true) where
  plain_min : plain_vec b.min ≡ true
  unfolding plain_box
  plain_min = and_first (plain_vec b.min) (plain_vec b.max && plain_vec (centre b)) h

  plain_max : plain_vec b.max ≡ true
  unfolding plain_box
  plain_max =
      and_first (plain_vec b.max) (plain_vec (centre b)) (and_second (plain_vec b.min) (plain_vec b.max && plain_vec (centre b)) h)

  plain_centre : plain_vec (centre b) ≡ true
  unfolding plain_box
  plain_centre =
      and_second (plain_vec b.max) (plain_vec (centre b)) (and_second (plain_vec b.min) (plain_vec b.max && plain_vec (centre b)) h)

-- ---- two ranges with the same triangles
module _ (boxes : List Float) (ts us : List ℕ) (counted : (t : ℕ) → count t ts ≡ count t us) (plains : plain_range boxes ts ≡ true) where
  at_each : (t : ℕ) → 0 < count t ts → plain_box (box_at boxes t) ≡ true
  unfolding plain_range
  at_each t h = every_at (λ (s : ℕ). plain_box (box_at boxes s)) ts plains t (member_of_count t ts h)

  min_at : (t : ℕ) → 0 < count t ts → plain_vec (box_at boxes t).min ≡ true
  min_at t h = plain_min (box_at boxes t) (at_each t h)

  max_at : (t : ℕ) → 0 < count t ts → plain_vec (box_at boxes t).max ≡ true
  max_at t h = plain_max (box_at boxes t) (at_each t h)

  centre_at : (t : ℕ) → 0 < count t ts → plain_vec (centre_of boxes t) ≡ true
  unfolding centre_of
  centre_at t h = plain_centre (box_at boxes t) (at_each t h)

  -- a component of the lower corner, and of the upper one
  low_part : (axis : Vec3 → Float) → ((b c : Aabb) → axis (union_of b c).min ≡ minimum_of (axis b.min) (axis c.min))
      → ((v : Vec3) → plain_vec v ≡ true → plain (axis v) ≡ true) → axis (hull_of boxes ts).min ≡ axis (hull_of boxes us).min
  unfolding hull_of
  low_part axis apart of = part_same (λ (b : Aabb). axis b.min) union_of minimum_of (box_at boxes) apart _ least ts us counted
      (λ t h. of (box_at boxes t).min (min_at t h))

  high_part : (axis : Vec3 → Float) → ((b c : Aabb) → axis (union_of b c).max ≡ maximum_of (axis b.max) (axis c.max))
      → ((v : Vec3) → plain_vec v ≡ true → plain (axis v) ≡ true) → axis (hull_of boxes ts).max ≡ axis (hull_of boxes us).max
  unfolding hull_of
  high_part axis apart of = part_same (λ (b : Aabb). axis b.max) union_of maximum_of (box_at boxes) apart _ greatest ts us counted
      (λ t h. of (box_at boxes t).max (max_at t h))

  pub hull_unseen : hull_of boxes ts ≡ hull_of boxes us
  unfolding union_of min_of max_of
  hull_unseen =
      let b = hull_of boxes ts in
      let c = hull_of boxes us in
      from_corners b.min b.max c
      (from_components b.min c.min (low_part (λ v. v.x) (λ b c. refl) plain_x) (low_part (λ v. v.y) (λ b c. refl) plain_y)
      (low_part (λ v. v.z) (λ b c. refl) plain_z))
      (from_components b.max c.max (high_part (λ v. v.x) (λ b c. refl) plain_x) (high_part (λ v. v.y) (λ b c. refl) plain_y)
      (high_part (λ v. v.z) (λ b c. refl) plain_z))

  -- a component of the least centre, and of the greatest one
  least_part : (axis : Vec3 → Float) → ((v w : Vec3) → axis (min_of v w) ≡ minimum_of (axis v) (axis w))
      → ((v : Vec3) → plain_vec v ≡ true → plain (axis v) ≡ true)
      → axis (folded_all min_of (centre_of boxes) ts) ≡ axis (folded_all min_of (centre_of boxes) us)
  least_part axis apart of = part_same axis min_of minimum_of (centre_of boxes) apart _ least ts us counted
      (λ t h. of (centre_of boxes t) (centre_at t h))

  greatest_part : (axis : Vec3 → Float) → ((v w : Vec3) → axis (max_of v w) ≡ maximum_of (axis v) (axis w))
      → ((v : Vec3) → plain_vec v ≡ true → plain (axis v) ≡ true)
      → axis (folded_all max_of (centre_of boxes) ts) ≡ axis (folded_all max_of (centre_of boxes) us)
  greatest_part axis apart of = part_same axis max_of maximum_of (centre_of boxes) apart _ greatest ts us counted
      (λ t h. of (centre_of boxes t) (centre_at t h))

  pub extent_unseen : extent_of boxes ts ≡ extent_of boxes us
  unfolding extent_of min_of max_of
  extent_unseen =
      let low = from_components (folded_all min_of (centre_of boxes) ts) (folded_all min_of (centre_of boxes) us)
      (least_part (λ v. v.x) (λ v w. refl) plain_x) (least_part (λ v. v.y) (λ v w. refl) plain_y)
      (least_part (λ v. v.z) (λ v w. refl) plain_z) in
      let high = from_components (folded_all max_of (centre_of boxes) ts) (folded_all max_of (centre_of boxes) us)
      (greatest_part (λ v. v.x) (λ v w. refl) plain_x) (greatest_part (λ v. v.y) (λ v w. refl) plain_y)
      (greatest_part (λ v. v.z) (λ v w. refl) plain_z) in
      ap (λ (v : Vec3). sub_of v (folded_all min_of (centre_of boxes) ts)) high
      ∙ ap (sub_of (folded_all max_of (centre_of boxes) us)) low

-- ---- a range, and two whose triangles are its triangles
module _ (boxes : List Float) (ts l r : List ℕ) (some : 0 < length l) (any : 0 < length r)
    (counted : (t : ℕ) → count t ts ≡ count t l + count t r) (plains : plain_range boxes ts ≡ true) where
  low_joined : (axis : Vec3 → Float) → ((b c : Aabb) → axis (union_of b c).min ≡ minimum_of (axis b.min) (axis c.min))
      → ((v : Vec3) → plain_vec v ≡ true → plain (axis v) ≡ true)
      → axis (hull_of boxes ts).min ≡ axis (union_of (hull_of boxes l) (hull_of boxes r)).min
  unfolding hull_of
  low_joined axis apart of = part_joined (λ (b : Aabb). axis b.min) union_of minimum_of (box_at boxes) apart _ least ts l r some any counted
      (λ t h. of (box_at boxes t).min (min_at boxes ts ts (λ s. refl) plains t h))

  high_joined : (axis : Vec3 → Float) → ((b c : Aabb) → axis (union_of b c).max ≡ maximum_of (axis b.max) (axis c.max))
      → ((v : Vec3) → plain_vec v ≡ true → plain (axis v) ≡ true)
      → axis (hull_of boxes ts).max ≡ axis (union_of (hull_of boxes l) (hull_of boxes r)).max
  unfolding hull_of
  high_joined axis apart of = part_joined (λ (b : Aabb). axis b.max) union_of maximum_of (box_at boxes) apart _ greatest ts l r some any
      counted (λ t h. of (box_at boxes t).max (max_at boxes ts ts (λ s. refl) plains t h))

  pub hull_joined : hull_of boxes ts ≡ union_of (hull_of boxes l) (hull_of boxes r)
  unfolding union_of min_of max_of
  hull_joined =
      let b = hull_of boxes ts in
      let c = union_of (hull_of boxes l) (hull_of boxes r) in
      from_corners b.min b.max c
      (from_components b.min c.min (low_joined (λ v. v.x) (λ b c. refl) plain_x) (low_joined (λ v. v.y) (λ b c. refl) plain_y)
      (low_joined (λ v. v.z) (λ b c. refl) plain_z))
      (from_components b.max c.max (high_joined (λ v. v.x) (λ b c. refl) plain_x) (high_joined (λ v. v.y) (λ b c. refl) plain_y)
      (high_joined (λ v. v.z) (λ b c. refl) plain_z))
