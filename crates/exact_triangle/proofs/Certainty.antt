-- One triangle's answer is certain. Assumes nothing.
use Rattle.std.specs.Prelude.{Option, Some, None}
use Rattle.exact_depth.specs.declared.projection.Fraction.{Fraction}
use Rattle.std.proofs.Common.{◌≡◌, ℕ, zero, suc, ◌+◌, ◌*◌, ◌<◌, Bool, true, false, cond, List, ℤ, pos, negsuc, ◌*ℤ◌, nat_abs, sym, refl, ap}
use Rattle.std.proofs.Common.{◌∙◌, subst, zero-lt-suc, arith}
use lib.Signed.{le_z}
use lib.Ieee.{Float, binary64, round}
use Rattle.vectors.specs.declared.vec3.Vec3.{Vec3}
use Rattle.geometry.specs.declared.ray.Ray.{Ray}
use Rattle.geometry.specs.Box.{corner}
use Rattle.geometry.specs.Segment.{ray_admitted}
use Rattle.casts.specs.Reach.{Reach, At, Miss, Refused}
use Rattle.casts.specs.Answer.{out_of_range}
use Rattle.wide_integers.proofs.Polynomials.{own, own_pos, rep_mul}
use Rattle.wide_integers.proofs.Order.{rep_le, rep_same}
use Rattle.exact_depth.specs.declared.projection.Point.{Point}
use Rattle.wide_integers.specs.Division.{fraction_of}
use Rattle.exact_triangle.specs.Line.{Line}
use Rattle.exact_triangle.specs.Grid.{units, grid_admitted, grid_point, grid_line}
use Rattle.exact_triangle.specs.Surface.{FirstSurface, Certain}
use Rattle.exact_triangle.specs.Shear.{depth_of}
use Rattle.exact_triangle.proofs.SegmentCertainty.{depth_certain}
use Rattle.exact_triangle.proofs.Moving.{ray_moves}
use Rattle.exact_triangle.specs.Reach.{corners_read, reach_at, corners_reach, grid_reach}
use Rattle.exact_triangle.specs.Certain.{Nearest, CertainReach}

-- ---- the three kinds of an answer
abbrev kind : Reach → ℕ
kind (At x) = 0
kind Miss = 1
kind (Refused n) = 2

abbrev distance : Float → Reach → Float
distance y (At x) = x
distance y Miss = y
distance y (Refused n) = y

module _ (l : Line) (a b c : Point) where
  -- a first point is not before the ray's start
  not_below : (W D : ℕ) (t s : ℤ) → 0 < D → le_z (pos l.near *ℤ pos D) s ≡ true → s *ℤ pos W ≡ t *ℤ pos D → (n : ℕ) → t ≡ negsuc n
      → 0 < W → ⊥
  not_below W D t (negsuc s) d h e n p w =
      let r = rep_le (rep_mul (own_pos l.near) (own_pos D)) (own (negsuc s)) h in
      omega (arith, r)
  not_below W D t (pos s) d h e n p w =
      let q : pos s *ℤ pos W ≡ negsuc n *ℤ pos D = e ∙ ap (λ (z : ℤ). z *ℤ pos D) p in
      let r = rep_same (rep_mul (own_pos s) (own_pos W)) (rep_mul (own (negsuc n)) (own_pos D)) q in
      none s W n D d r
    where
      none : (s W n D : ℕ) → 0 < D → s * W + 0 * 0 + (0 * 0 + suc n * D) ≡ 0 * D + suc n * 0 + (s * 0 + 0 * W) → ⊥
      none s W n D d r = omega (arith, d, r)

  nearest_of_lem : (t w : ℤ) → FirstSurface l a b c (record { t = t; w = w }) → Nearest l a b c (fraction_of t (w *ℤ pos units))
  nearest_of_lem t (negsuc w) h = let e = ap nat_abs h.denominator in absurd (wrong w h.W h.denominator)
    where
      wrong : (w W : ℕ) → negsuc w ≡ pos W → ⊥
      wrong w W e = let r = rep_same (own (negsuc w)) (own_pos W) e in omega (arith, r)
  nearest_of_lem (negsuc n) (pos w) h =
      absurd (not_below h.W h.D (negsuc n) h.t h.on.positive h.on.least h.same n refl h.positive)
  nearest_of_lem (pos t) (pos zero) h =
      absurd (let e = ap nat_abs h.denominator in let p = h.positive in none h.W e p)
    where
      none : (W : ℕ) → 0 ≡ W → 0 < W → ⊥
      none W e p = omega (arith, e, p)
  nearest_of_lem (pos t) (pos (suc w)) h = record {
    T = t;
    W = suc w;
    positive = zero-lt-suc w;
    first = h;
    rounded = one (suc w * units) (omega arith);
  }
    where
      one : (n : ℕ) → 0 < n → fraction_of (pos t) (pos n) ≡ round binary64 false t n
      one zero p = absurd (omega (arith, p))
      one (suc n) p = refl

  depth_reach : (d : Option Fraction) → Certain l a b c d → CertainReach l a b c (reach_at d)
  depth_reach None h = record {
    none = λ e. h.none refl;
    area = λ x e. absurd (let w = ap kind e in omega (arith, w));
    nearest = λ x e. absurd (let w = ap kind e in omega (arith, w));
    told = λ n e. let w = ap kind e in omega (arith, w);
  }
  depth_reach (Some f) h = record {
    none = λ e. absurd (let w = ap kind e in omega (arith, w));
    area = λ x e. h.area f refl;
    nearest = λ x e. subst (Nearest l a b c) (ap (distance x) e) (nearest_of_lem f.t f.w (h.first f refl));
    told = λ n e. let w = ap kind e in omega (arith, w);
  }

-- ---- a ray and a triangle that are read
pub reach_certain : (r : Ray) (vs : List Vec3) → ray_admitted r ≡ true → grid_admitted r ≡ true → corners_read vs ≡ true
    → CertainReach (grid_line r) (grid_point (corner vs 0)) (grid_point (corner vs 1)) (grid_point (corner vs 2)) (grid_reach r vs)
unfolding grid_reach corners_reach
reach_certain r vs h g k =
    let l = grid_line r in
    let a = grid_point (corner vs 0) in
    let b = grid_point (corner vs 1) in
    let c = grid_point (corner vs 2) in
    subst (CertainReach l a b c)
    (sym (ap (λ (q : Bool). cond q (cond (corners_read vs) (reach_at (depth_of l a b c)) (Refused out_of_range)) (Refused out_of_range)) g
    ∙ ap (λ (q : Bool). cond q (reach_at (depth_of l a b c)) (Refused out_of_range)) k))
    (depth_reach l a b c (depth_of l a b c) (depth_certain l a b c (ray_moves r h)))
