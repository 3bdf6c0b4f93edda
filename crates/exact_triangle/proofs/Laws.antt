-- What the code's steps read, test and compute. Assumes nothing.
use Rattle.std.proofs.Common.{◌≡◌, ℕ, ◌+◌, ◌*◌, ◌≤◌, Bool, true, false, ◌&&◌, T, List, ℤ, pos, negsuc, ◌-ℤ◌, ◌*ℤ◌, neg_ℤ, nat_abs, sym}
use Rattle.std.proofs.Common.{refl, ap, ◌∙◌, subst, true≢false, le_trans, le_refl, arith, lit≤, w64, SFits, ltb-true}
use lib.Signed.{lt_z, le_z}
use lib.Ieee.{Float, binary64, mul, add, sub, to_signed, in_signed}
use Rattle.wide_integers.specs.Sizes.{Sized}
use Rattle.wide_integers.proofs.Reading.{bits, fits, plain, widen, sized_bits, product_size, difference_size}
use Rattle.lists.proofs.JoinedTests.{and_first, and_second}
use Rattle.vectors.specs.declared.vec3.Vec3.{Vec3}
use Rattle.wide_integers.proofs.Reading.{sub-fits, sub_read}
use Rattle.exact_depth.specs.declared.projection.Point.{Point}
use Rattle.exact_triangle.specs.Line.{parts}
use Rattle.exact_triangle.specs.Grid.{nearest_to, rounder, within, all_within, furthest, two, longest, grid_admitted}
use Rattle.geometry.specs.declared.ray.Ray.{Ray}
use Rattle.geometry.specs.Box.{corner}
use Rattle.exact_triangle.specs.Reach.{corners_read}
use Rattle.exact_triangle.specs.Shear.{Main, alongX, alongY, alongZ, ahead, facing}
use Rattle.exact_triangle.proofs.RoundedReadings.{Reads, cast_in, cast_is}
use Rattle.exact_triangle.specs.Sizes.{SizedAt, SizedProjected}

-- ---- the cast of what is read
module _ {k B : ℕ} {factor x : Float} (h : Reads k B factor x) (l : B ≤ 2147483648) where
  pub cast_taken : T (in_signed binary64 63 (sub binary64 (add binary64 (mul binary64 x factor) rounder) rounder))
  cast_taken = subst (λ (y : Float). T (in_signed binary64 63 y)) (sym h.float) (cast_in (nearest_to k x) (le_trans h.size l))

  whole : to_signed 63 (sub binary64 (add binary64 (mul binary64 x factor) rounder) rounder) ≡ nearest_to k x
  whole = ap (to_signed 63) h.float ∙ cast_is (nearest_to k x) (le_trans h.size l)

  told : bits (to_signed 63 (sub binary64 (add binary64 (mul binary64 x factor) rounder) rounder)) ≡ nearest_to k x
  told = ap (λ (z : ℤ). bits z) whole ∙ plain (record { size = le_trans h.size (le_trans l (lit≤ tt)) })

  pub cast_told :
      (bits (to_signed 63 (sub binary64 (add binary64 (mul binary64 x factor) rounder) rounder)) ≡ nearest_to k x)
      × Sized B (bits (to_signed 63 (sub binary64 (add binary64 (mul binary64 x factor) rounder) rounder)))
  cast_told = (told, subst (Sized B) (sym told) (record { size = h.size }))

-- ---- a result that is read back
module _ {B : ℕ} {r : ℤ} where
  pub told_read : {z : ℤ} → r ≡ z → Sized B r → B ≤ 4611686018427387904 → bits r ≡ z
  told_read e h l = plain (widen h l) ∙ e

  pub told_sized : Sized B r → B ≤ 4611686018427387904 → Sized B (bits r)
  told_sized h l = sized_bits h l

-- ---- joined tests
pub first_off : (p q r : Bool) → p ≡ false → false ≡ (p && (q && r))
first_off p q r h = sym (ap (λ (b : Bool). b && (q && r)) h)

pub second_off : (p q r : Bool) → p ≡ true → q ≡ false → false ≡ (p && (q && r))
second_off p q r h g = sym (ap (λ (b : Bool). b && (q && r)) h ∙ ap (λ (b : Bool). b && r) g)

pub third_tells : (p q r : Bool) {s : Bool} → p ≡ true → q ≡ true → s ≡ r → s ≡ (p && (q && r))
third_tells p q r h g e = e ∙ sym (ap (λ (b : Bool). b && (q && r)) h ∙ ap (λ (b : Bool). b && r) g)

pub four_tells : (p q r s : Bool) {t : Bool} → p ≡ true → q ≡ true → r ≡ true → t ≡ s → t ≡ (p && (q && (r && s)))
four_tells p q r s h g k e = third_tells q r s g k e ∙ sym (ap (λ (b : Bool). b && (q && (r && s))) h)

-- ---- sizes and signs
pub size_below : (x : ℤ) → lt_z x (pos 0) ≡ true → neg_ℤ x ≡ pos (nat_abs x)
size_below (pos n) h = let l = ltb-true n 0 h in absurd (omega (arith, l))
size_below (negsuc n) h = refl

pub size_above : (x : ℤ) → lt_z x (pos 0) ≡ false → x ≡ pos (nat_abs x)
size_above (pos n) h = refl
size_above (negsuc n) h = absurd (true≢false h)

pub ahead_below : (x : ℤ) → lt_z x (pos 0) ≡ true → neg_ℤ (pos parts) ≡ ahead x
ahead_below (pos n) h = let l = ltb-true n 0 h in absurd (omega (arith, l))
ahead_below (negsuc n) h = refl

pub ahead_above : (x : ℤ) → lt_z x (pos 0) ≡ false → pos parts ≡ ahead x
ahead_above (pos n) h = refl
ahead_above (negsuc n) h = absurd (true≢false h)

pub least_read : {X Y x y : ℤ} {b : Bool} → X ≡ x → Y ≡ y → le_z X Y ≡ b → le_z x y ≡ b
least_read e d h = (λ i. le_z (sym e i) (sym d i)) ∙ h

-- ---- the parts of a test of three
module _ (b : Float) (v : Vec3) (h : all_within b v ≡ true) where
  pub within_x : within b v.x ≡ true
  within_x = and_first (within b v.x) (within b v.y && within b v.z) h

  later_two : (within b v.y && within b v.z) ≡ true
  later_two = and_second (within b v.x) (within b v.y && within b v.z) h

  pub within_y : within b v.y ≡ true
  within_y = and_first (within b v.y) (within b v.z) later_two

  pub within_z : within b v.z ≡ true
  within_z = and_second (within b v.y) (within b v.z) later_two

-- ---- differences and products of numbers as they come
module _ {A B : ℕ} {a b : ℤ} (h : Sized A a) (g : Sized B b) where
  module _ (k : A ≤ 2305843009213693952) (l : B ≤ 2305843009213693952) where
    pub minus_fits : SFits w64 (bits a -ℤ bits b)
    minus_fits = sub-fits (plain (widen h (le_trans k (lit≤ tt)))) (plain (widen g (le_trans l (lit≤ tt)))) (widen h k) (widen g l)

    pub minus_read : bits (bits a -ℤ bits b) ≡ a -ℤ b
    minus_read = sub_read (plain (widen h (le_trans k (lit≤ tt)))) (plain (widen g (le_trans l (lit≤ tt)))) (widen h k) (widen g l)

    pub minus_sized : Sized (A + B) (bits (bits a -ℤ bits b))
    minus_sized = subst (Sized (A + B)) (sym minus_read) (difference_size h g)

  module _ (k : A ≤ 4611686018427387904) (l : B ≤ 4611686018427387904) (m : A * B ≤ 4611686018427387904) where
    as_read : bits a *ℤ bits b ≡ a *ℤ b
    as_read = λ i. plain (widen h k) i *ℤ plain (widen g l) i

    pub times_fits : SFits w64 (bits a *ℤ bits b)
    times_fits = subst (SFits w64) (sym as_read) (fits (widen (product_size h g) m))

    pub times_read : bits (bits a *ℤ bits b) ≡ a *ℤ b
    times_read = ap (λ (z : ℤ). bits z) as_read ∙ plain (widen (product_size h g) m)

-- ---- sizes
pub faced_size : {B : ℕ} (m : Main) {p : Point} → SizedAt B p → SizedProjected B (facing m p)
faced_size alongX h = record { across = h.y; up = h.z; depth = h.x }
faced_size alongY h = record { across = h.z; up = h.x; depth = h.y }
faced_size alongZ h = record { across = h.x; up = h.y; depth = h.z }

pub ahead_size : (m : ℤ) → Sized 1073741824 (ahead m)
ahead_size (pos n) = record { size = lit≤ tt }
ahead_size (negsuc n) = record { size = lit≤ tt }

-- ---- times a number of the text
module _ (n : ℕ) {A : ℕ} {a : ℤ} (h : Sized A a) (k : A ≤ 4611686018427387904) (m : A * n ≤ 4611686018427387904) where
  fixed_size : Sized (A * n) (a *ℤ pos n)
  fixed_size = product_size {y = pos n} h (record { size = le_refl n })

  pub fixed_fits : SFits w64 (bits a *ℤ pos n)
  fixed_fits = subst (λ (z : ℤ). SFits w64 (z *ℤ pos n)) (sym (plain (widen h k))) (fits (widen fixed_size m))

  pub fixed_once : bits (bits a *ℤ pos n) ≡ a *ℤ pos n
  fixed_once = ap (λ (z : ℤ). bits (z *ℤ pos n)) (plain (widen h k)) ∙ plain (widen fixed_size m)

-- ---- a size, as it is told and read back
module _ {B : ℕ} {z r : ℤ} (h : Sized B z) (l : B ≤ 4611686018427387904) (e : r ≡ pos (nat_abs (bits z))) where
  pub size_told : r ≡ pos (nat_abs z)
  size_told = e ∙ ap (λ (w : ℤ). pos (nat_abs w)) (plain (widen h l))

  pub size_sized : Sized B r
  size_sized = subst (Sized B) (sym size_told) (record { size = h.size })

-- ---- what an admitted ray's parts are
module _ (r : Ray) (h : grid_admitted r ≡ true) where
  pub admitted_origin : all_within furthest r.origin ≡ true
  unfolding grid_admitted
  admitted_origin = and_first _ _ h

  rest : (all_within two r.direction && (within longest r.near && within longest r.max_distance)) ≡ true
  unfolding grid_admitted
  rest = and_second (all_within furthest r.origin) _ h

  pub admitted_direction : all_within two r.direction ≡ true
  admitted_direction = and_first (all_within two r.direction) (within longest r.near && within longest r.max_distance) rest

  ends : (within longest r.near && within longest r.max_distance) ≡ true
  ends = and_second (all_within two r.direction) (within longest r.near && within longest r.max_distance) rest

  pub admitted_near : within longest r.near ≡ true
  admitted_near = and_first (within longest r.near) (within longest r.max_distance) ends

  pub admitted_far : within longest r.max_distance ≡ true
  admitted_far = and_second (within longest r.near) (within longest r.max_distance) ends

-- ---- .. and a triangle's
module _ (vs : List Vec3) (h : corners_read vs ≡ true) where
  pub first_read : all_within furthest (corner vs 0) ≡ true
  unfolding corners_read
  first_read = and_first (all_within furthest (corner vs 0)) (all_within furthest (corner vs 1) && all_within furthest (corner vs 2)) h

  others : (all_within furthest (corner vs 1) && all_within furthest (corner vs 2)) ≡ true
  unfolding corners_read
  others = and_second (all_within furthest (corner vs 0)) (all_within furthest (corner vs 1) && all_within furthest (corner vs 2)) h

  pub second_read : all_within furthest (corner vs 1) ≡ true
  second_read = and_first (all_within furthest (corner vs 1)) (all_within furthest (corner vs 2)) others

  pub third_read : all_within furthest (corner vs 2) ≡ true
  third_read = and_second (all_within furthest (corner vs 1)) (all_within furthest (corner vs 2)) others
