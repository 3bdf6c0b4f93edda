-- Whether a hit's normal can be told is decided by the edges' cross alone, without the root; and a miss is a miss, whether flat or not.
-- Assumes nothing.
use Prim.Native.Nat.{ℕ}
use mathlib.Core.Path.{◌≡◌, refl, sym, ap, ◌∙◌}
use mathlib.Core.Bool.{Bool, true, false, cond, true≢false}
use lib.Ieee.{Float, nan, lt, le, is_nan}
use Rattle.vectors.specs.Numbers.{◌+ᶠ◌, ◌*ᶠ◌, ◌/ᶠ◌, zeroᶠ, oneᶠ}
use Rattle.vectors.specs.Vector.{sub_of, cross_of, dot_of, checked_dot, normalizable, try_normalize}
use Rattle.vectors.specs.declared.vec3.Vec3.{Vec3}
use Rattle.std.specs.Prelude.{Option, Some, None}
use Rattle.geometry.specs.declared.ray.Ray.{Ray}
use Rattle.casts.specs.Answer.{Answer, hit, none, refused, with_value, with_normal, overflow, no_normal}
use Rattle.casts.specs.Surface.{facing, off_segment}
use Rattle.casts.specs.Reach.{Reach, At, Miss, Refused, reach_of}
use Rattle.triangle_cast.specs.Triangle.{flat, triangle_normal, has_normal, triangle_above, triangle_at, triangle_of}
use Rattle.triangle_cast.specs.Crossing.{within, within_answer, distance_within, settled_answer}

pub reach_by_normal : (r : Ray) (a b : Vec3) (distance : Float) → reach_of (triangle_normal r a b distance) ≡ cond (has_normal a b)
    (At distance) (Refused no_normal)
unfolding reach_of triangle_normal has_normal try_normalize
reach_by_normal r a b distance = go (normalizable (cross_of a b)) _
  where
    go : (p : Bool) (normal : Vec3)
        → reach_of (with_normal (cond p (Some normal) None) no_normal
        (λ (n : Vec3). hit (facing n (dot_of r.direction n)) distance))
        ≡ cond p (At distance) (Refused no_normal)
    go true normal = refl
    go false normal = refl

pub none_either_way : (flat : Bool) → cond flat none none ≡ none
none_either_way true = refl
none_either_way false = refl

-- ---- what is left once the distance is known
is_distance : Option Float → Bool
is_distance (Some d) = true
is_distance None = false

distance_in : Option Float → Float
distance_in (Some d) = d
distance_in None = nan

module _ (r : Ray) (offset a b : Vec3) (determinant inverse u : Float) where
  abbrev v_part : Float
  v_part = dot_of r.direction (cross_of offset a) *ᶠ inverse

  abbrev along : Float
  along = dot_of b (cross_of offset a) *ᶠ inverse

  -- what is left at a distance, flat or not
  abbrev at : Float → Answer
  at d = cond (is_nan d) (refused overflow) (triangle_normal r a b d)

  pub from_distance : (d : Float) → distance_within r offset a b inverse u ≡ Some d
      → settled_answer r determinant a b d ≡ within_answer r (within offset a b determinant inverse u)
  unfolding distance_within triangle_above is_distance distance_in
  from_distance d h = ap (cond (flat determinant a b) none) (go (lt v_part zeroᶠ) (lt oneᶠ (u +ᶠ v_part)) (off_segment r along) along h)
    where
      go : (p q s : Bool) (e : Float)
          → cond p None (cond q None (cond s None (Some e))) ≡ Some d
          → at d ≡ cond p none (cond q none (cond s none (at e)))
      go true q s e h = absurd (true≢false (sym (ap is_distance h)))
      go false true s e h = absurd (true≢false (sym (ap is_distance h)))
      go false false true e h = absurd (true≢false (sym (ap is_distance h)))
      go false false false e h = ap at (sym (ap distance_in h))

  pub no_distance : distance_within r offset a b inverse u ≡ None → none ≡ within_answer r (within offset a b determinant inverse u)
  unfolding distance_within triangle_above is_distance
  no_distance h = sym (ap (cond (flat determinant a b) none) (sym (go (lt v_part zeroᶠ) (lt oneᶠ (u +ᶠ v_part)) (off_segment r along) along
      h)) ∙ none_either_way (flat determinant a b))
    where
      go : (p q s : Bool) (e : Float)
          → cond p None (cond q None (cond s None (Some e))) ≡ None
          → none ≡ cond p none (cond q none (cond s none (at e)))
      go true q s e h = refl
      go false true s e h = refl
      go false false true e h = refl
      go false false false e h = absurd (true≢false (ap is_distance h))

-- ---- an answer from what it reaches

is_at : Reach → Bool
is_at (At distance) = true
is_at Miss = false
is_at (Refused number) = false

is_miss : Reach → Bool
is_miss (At distance) = false
is_miss Miss = true
is_miss (Refused number) = false

distance_of : Reach → Float
distance_of (At distance) = distance
distance_of Miss = nan
distance_of (Refused number) = nan

number_of : Reach → ℕ
number_of (At distance) = 0
number_of Miss = 0
number_of (Refused number) = number

pub missed : (x : Answer) → reach_of x ≡ Miss → none ≡ x
unfolding reach_of is_miss
missed (hit n d) h = absurd (true≢false (sym (ap is_miss h)))
missed none h = refl
missed (refused number) h = absurd (true≢false (sym (ap is_miss h)))

pub refused_by : (x : Answer) (number : ℕ) → reach_of x ≡ Refused number → refused number ≡ x
unfolding reach_of is_at is_miss number_of
refused_by (hit n d) number h = absurd (true≢false (ap is_at h))
refused_by none number h = absurd (true≢false (ap is_miss h))
refused_by (refused k) number h = ap refused (sym (ap number_of h))

-- a hit's answer is told by its distance and the edges
Told : Ray → Vec3 → Vec3 → Answer → Type 0
Told r a b x = (d : Float) → reach_of x ≡ At d → triangle_normal r a b d ≡ x

told_none : (r : Ray) (a b : Vec3) → Told r a b none
unfolding Told reach_of is_at
told_none r a b d h = absurd (true≢false (sym (ap is_at h)))

told_refused : (r : Ray) (a b : Vec3) (number : ℕ) → Told r a b (refused number)
unfolding Told reach_of is_at
told_refused r a b number d h = absurd (true≢false (sym (ap is_at h)))

told_normal : (r : Ray) (a b : Vec3) (distance : Float) → Told r a b (triangle_normal r a b distance)
unfolding Told distance_of is_at
told_normal r a b distance d h = go (has_normal a b) (sym (reach_by_normal r a b distance) ∙ h)
  where
    go : (p : Bool) → cond p (At distance) (Refused no_normal) ≡ At d → triangle_normal r a b d ≡ triangle_normal r a b distance
    go true e = ap (triangle_normal r a b) (sym (ap distance_of e))
    go false e = absurd (true≢false (sym (ap is_at e)))

told_cond : (r : Ray) (a b : Vec3) (test : Bool) (x y : Answer) → Told r a b x → Told r a b y → Told r a b (cond test x y)
told_cond r a b true x y p q = p
told_cond r a b false x y p q = q

told_value : (r : Ray) (a b : Vec3) (c : Option Float) (next : Float → Answer) → ((x : Float) → Told r a b (next x)) → Told r a b
    (with_value c next)
told_value r a b (Some x) next p = p x
told_value r a b None next p = told_refused r a b _

told_above : (r : Ray) (offset a b : Vec3) (inverse u : Float) → Told r a b (triangle_above r offset a b inverse u)
unfolding triangle_above
told_above r offset a b inverse u =
    let v = dot_of r.direction (cross_of offset a) *ᶠ inverse in
    let distance = dot_of b (cross_of offset a) *ᶠ inverse in
    let number = cond (is_nan distance) (refused overflow) (triangle_normal r a b distance) in
    let in_range_lem = cond (off_segment r distance) none number in
    told_cond r a b (lt v zeroᶠ) none (cond (lt oneᶠ (u +ᶠ v)) none in_range_lem) (told_none r a b)
    (told_cond r a b (lt oneᶠ (u +ᶠ v)) none in_range_lem (told_none r a b)
    (told_cond r a b (off_segment r distance) none number (told_none r a b)
    (told_cond r a b (is_nan distance) (refused overflow) (triangle_normal r a b distance) (told_refused r a b overflow)
    (told_normal r a b distance))))

told_at : (r : Ray) (offset a b p : Vec3) (determinant : Float) → Told r a b (triangle_at r offset a b p determinant)
unfolding triangle_at
told_at r offset a b p determinant =
    let inverse = oneᶠ /ᶠ determinant in
    let u = dot_of offset p *ᶠ inverse in
    let above = triangle_above r offset a b inverse u in
    told_cond r a b (le zeroᶠ u) (cond (le u oneᶠ) above none) none
    (told_cond r a b (le u oneᶠ) above none (told_above r offset a b inverse u) (told_none r a b))
    (told_none r a b)

told_unless_flat : (r : Ray) (offset a b p : Vec3) (determinant : Float) → Told r a b
    (cond (flat determinant a b) none (triangle_at r offset a b p determinant))
told_unless_flat r offset a b p determinant =
    told_cond r a b (flat determinant a b) none (triangle_at r offset a b p determinant) (told_none r a b)
    (told_at r offset a b p determinant)

pub told_by_distance : (r : Ray) (first second third : Vec3) (d : Float) → reach_of (triangle_of r first second third) ≡ At d
    → triangle_normal r (sub_of second first) (sub_of third first) d ≡ triangle_of r first second third
unfolding triangle_of Told
told_by_distance r first second third =
    let a = sub_of second first in
    let b = sub_of third first in
    let p = cross_of r.direction b in
    let offset = sub_of r.origin first in
    told_value r a b (checked_dot a p) (λ (determinant : Float). cond (flat determinant a b) none (triangle_at r offset a b p determinant))
    (λ (determinant : Float). told_unless_flat r offset a b p determinant)

pub settled_by_distance : (r : Ray) (a b : Vec3) (determinant distance d : Float) → reach_of (settled_answer r determinant a b distance)
    ≡ At
    d
    → triangle_normal r a b d ≡ settled_answer r determinant a b distance
unfolding Told
settled_by_distance r a b determinant distance =
    let number = cond (is_nan distance) (refused overflow) (triangle_normal r a b distance) in
    told_cond r a b (flat determinant a b) none number (told_none r a b)
    (told_cond r a b (is_nan distance) (refused overflow) (triangle_normal r a b distance) (told_refused r a b overflow)
    (told_normal r a b distance))
