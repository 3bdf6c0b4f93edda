-- A triangle that the line crosses is reached at the float nearest to the crossing's depth, where that lies between the segment's ends, and
-- is missed where it lies outside of them: rounding keeps the order, so only at an end nothing is decided. Assumes nothing.
use Rattle.std.specs.Prelude.{Some, None}
use Rattle.std.proofs.Common.{◌≡◌, ℕ, zero, suc, ◌*◌, ◌<◌, Bool, true, false, cond, ℤ, pos, negsuc, ◌*ℤ◌, neg_ℤ, sym, refl, ap, ◌∙◌, subst}
use Rattle.std.proofs.Common.{inl, inr, mul-pos, arith, lit<}
use mathlib.Core.Bool.{false≢true}
use lib.Signed.{lt_z}
use lib.Ieee.{Float, nan, binary64, round, lt}
use Rattle.arithmetic.proofs.Order.{lt_nan_false, nan_lt_false}
use Rattle.casts.specs.Reach.{At as Reached, Miss as Missed}
use Rattle.wide_integers.specs.Division.{fraction_of}
use Rattle.wide_integers.proofs.Polynomials.{ring, own_pos}
use Rattle.wide_integers.proofs.Order.{rep_lt, lt_rep}
use Rattle.exact_depth.specs.declared.projection.Point.{Point}
use Rattle.exact_depth.specs.declared.projection.Projected.{Projected}
use Rattle.exact_depth.specs.FirstPoint.{kept}
use Rattle.exact_depth.specs.Incidence.{Crosses}
use Rattle.exact_triangle.specs.Line.{parts, Line}
use Rattle.exact_triangle.specs.Grid.{units}
use Rattle.exact_triangle.specs.Box.{in_millimetres}
use Rattle.exact_triangle.specs.Surface.{Lies}
use Rattle.exact_triangle.specs.Shear.{main_of, facing, from, heading, projected_of, gain, in_units, depth_of}
use Rattle.exact_triangle.specs.Normal.{cross_of, dot_of}
use Rattle.exact_triangle.specs.Reach.{reach_at}
use Rattle.exact_triangle.specs.declared.crossing.CrossingDistance.{CrossingDistance}
use Rattle.exact_triangle.specs.declared.crossing.CrossingDistance.TheVariants.{At as Crossed, Miss as Off, Undecided}
use Rattle.exact_triangle.specs.CrossingDistance.{AgainstEnds, Between, below, rounded, Decides}
use Rattle.exact_triangle.proofs.SegmentCertainty.{main_moves, unfaced, back}
use Rattle.exact_triangle.proofs.Ratios.{lies_ratio, fraction_same}
use Rattle.exact_triangle.proofs.Signs.{moves_of, above_apart, below_apart, below_turned, below_zero}
use Rattle.exact_triangle.proofs.EndLaws.{not_short, not_beyond, is_short, is_beyond}

-- ---- fractions of natural numbers
fraction_round : (t w : ℕ) → 0 < w → fraction_of (pos t) (pos w) ≡ round binary64 false t w
fraction_round t zero h = absurd (omega (arith, h))
fraction_round t (suc w) h = refl

-- a depth below 0 has no float
fraction_none : (t : ℕ) (w : ℤ) → fraction_of (negsuc t) w ≡ nan
fraction_none t w = refl

-- ---- t / D is 2^30 E / F, so 2^15 E / F is the fraction of t over 2^15 D; of -F by the negatives
pub scaled : (t F E D : ℤ) → t *ℤ F ≡ pos parts *ℤ (D *ℤ E) → t *ℤ F ≡ E *ℤ pos 32768 *ℤ (D *ℤ pos 32768)
scaled t F E D h = h ∙ shared (pos 32768) (pos 32768) E D
  where
    shared : (S T E w : ℤ) → S *ℤ T *ℤ (w *ℤ E) ≡ E *ℤ S *ℤ (w *ℤ T)
    shared S T E w = simp ring

pub scaled_back : (t F E D : ℤ) → t *ℤ F ≡ pos parts *ℤ (D *ℤ E) → t *ℤ neg_ℤ F ≡ E *ℤ neg_ℤ (pos 32768) *ℤ (D *ℤ pos 32768)
scaled_back t F E D h = turned t F ∙ ap neg_ℤ (scaled t F E D h) ∙ again E (pos 32768) (D *ℤ pos 32768)
  where
    turned : (t F : ℤ) → t *ℤ neg_ℤ F ≡ neg_ℤ (t *ℤ F)
    turned t F = simp ring

    again : (E S w : ℤ) → neg_ℤ (E *ℤ S *ℤ w) ≡ E *ℤ neg_ℤ S *ℤ w
    again E S w = simp ring

-- ---- the triangle
module _ (l : Line) (a b c : Point) (k : Crosses (projected_of l a) (projected_of l b) (projected_of l c)) where
  abbrev pub g : ℕ
  g = gain l

  abbrev F : ℤ
  F = dot_of (cross_of a b c) l.direction

  abbrev E : ℤ
  E = dot_of (cross_of a b c) (from l.origin a)

  abbrev pub depth : ℤ
  depth = k.at.t

  abbrev pub whole : ℕ
  whole = k.W * g

  -- ---- where the depth's own tests lead
  abbrev low : Bool
  low = lt_z depth (pos (l.near * g) *ℤ k.at.w)

  abbrev high : Bool
  high = lt_z (pos (l.far * g) *ℤ k.at.w) depth

  depth_is : depth_of l a b c ≡ in_units g (cond low None (cond high None (Some k.at)))
  unfolding depth_of kept
  depth_is = ap (in_units g) (k.first (pos (l.near * g)) (pos (l.far * g)))

  too_low : low ≡ true → Missed ≡ reach_at (depth_of l a b c)
  too_low h = sym (ap reach_at (depth_is ∙ ap (λ (q : Bool). in_units g (cond q None (cond high None (Some k.at)))) h))

  too_high : high ≡ true → Missed ≡ reach_at (depth_of l a b c)
  too_high h = sym (ap reach_at (depth_is ∙ ap (λ (q : Bool). in_units g (cond low None (cond q None (Some k.at)))) h ∙ go low))
    where
      go : (q : Bool) → in_units g (cond q None None) ≡ None
      go true = refl
      go false = refl

  there : low ≡ false → high ≡ false → Reached (fraction_of depth (pos whole *ℤ pos units)) ≡ reach_at (depth_of l a b c)
  there h e =
      ap (λ (w : ℤ). Reached (fraction_of depth (w *ℤ pos g *ℤ pos units))) (sym k.denominator)
      ∙ sym (ap reach_at (depth_is ∙ (λ i. in_units g (cond (h i) None (cond (e i) None (Some k.at))))))

  -- the ends, as natural numbers
  module _ (n : ℕ) (e : depth ≡ pos n) where
    regroup : (m : ℕ) → m * g * k.W ≡ m * whole
    regroup m = again m g k.W
      where
        again : (m g W : ℕ) → m * g * W ≡ m * (W * g)
        again m g W = omega arith

    low_is : low ≡ lt_z (pos n) (pos (l.near * whole))
    low_is = (λ i. lt_z (e i) (pos (l.near * g) *ℤ k.denominator i)) ∙ ap (λ (m : ℕ). lt_z (pos n) (pos m)) (regroup l.near)

    high_is : high ≡ lt_z (pos (l.far * whole)) (pos n)
    high_is = (λ i. lt_z (pos (l.far * g) *ℤ k.denominator i) (e i)) ∙ ap (λ (m : ℕ). lt_z (pos m) (pos n)) (regroup l.far)

  low_below : lt_z depth (pos 0) ≡ true → low ≡ true
  low_below h = go depth refl
    where
      go : (t : ℤ) → depth ≡ t → low ≡ true
      go (pos n) e = absurd (let m = rep_lt (own_pos n) (own_pos 0) (ap (λ (z : ℤ). lt_z z (pos 0)) (sym e) ∙ h) in omega (arith, m))
      go (negsuc n) e = λ i. lt_z (e i) (pos (l.near * g) *ℤ k.denominator i)

  abbrev faces : Point → Projected
  faces p = facing (main_of l.direction) (from l.origin p)

  pub lies : Lies l a b c whole depth
  lies =
      unfaced l a b c whole depth (main_of l.direction)
      (back (heading l) (faces a) (faces b) (faces c) k.W depth k.meets)

  gains : (F ≡ pos 0 → ⊥) → 0 < g
  gains apart = main_moves l.direction (moves_of (cross_of a b c) l.direction apart)

  module _ (some : 0 < g) where
    wholes : 0 < whole
    wholes = mul-pos k.positive some

    ratio : depth *ℤ F ≡ E *ℤ pos 32768 *ℤ (pos whole *ℤ pos 32768)
    ratio = scaled depth F E (pos whole) (lies_ratio l a b c whole depth lies)

    turned_ratio : depth *ℤ neg_ℤ F ≡ E *ℤ neg_ℤ (pos 32768) *ℤ (pos whole *ℤ pos 32768)
    turned_ratio = scaled_back depth F E (pos whole) (lies_ratio l a b c whole depth lies)

    wide_whole : lt_z (pos 0) (pos whole *ℤ pos 32768) ≡ true
    wide_whole = lt_rep (own_pos 0) (own_pos (whole * 32768)) (let m = wholes in omega (arith, m))

    -- ---- over any fraction that is the depth's
    module _ (t w : ℤ) (up : lt_z (pos 0) w ≡ true) (same : depth *ℤ w ≡ t *ℤ (pos whole *ℤ pos 32768))
        (start finish : Float) (s : start ≡ in_millimetres (pos l.near)) (f : finish ≡ in_millimetres (pos l.far)) where
      float_is : fraction_of t w ≡ fraction_of depth (pos whole *ℤ pos 32768)
      float_is = sym (fraction_same depth (pos whole *ℤ pos 32768) t w wide_whole up same)

      rounded_depth : (n : ℕ) → depth ≡ pos n → fraction_of t w ≡ round binary64 false n (whole * units)
      rounded_depth n e =
          float_is ∙ ap (λ (z : ℤ). fraction_of z (pos whole *ℤ pos 32768)) e
          ∙ fraction_round n (whole * units) (mul-pos wholes (lit< tt))

      no_float : (n : ℕ) → depth ≡ negsuc n → fraction_of t w ≡ nan
      no_float n e = float_is ∙ ap (λ (z : ℤ). fraction_of z (pos whole *ℤ pos 32768)) e

      decided_at : (x : Float) → x ≡ fraction_of t w → lt start x ≡ true → lt x finish ≡ true → Reached x ≡ reach_at (depth_of l a b c)
      decided_at x e p q = go depth refl
        where
          go : (d : ℤ) → depth ≡ d → Reached x ≡ reach_at (depth_of l a b c)
          go (negsuc n) d = absurd (false≢true (sym (lt_nan_false start) ∙ ap (lt start) (sym (e ∙ no_float n d)) ∙ p))
          go (pos n) d =
              let r = e ∙ rounded_depth n d in
              ap Reached (e ∙ float_is)
              ∙ there (low_is n d ∙ not_short n whole l.near wholes ((λ i. lt (sym s i) (sym r i)) ∙ p))
              (high_is n d ∙ not_beyond n whole l.far wholes ((λ i. lt (sym r i) (sym f i)) ∙ q))

      decided_low : lt (fraction_of t w) start ≡ true → Missed ≡ reach_at (depth_of l a b c)
      decided_low p = go depth refl
        where
          go : (d : ℤ) → depth ≡ d → Missed ≡ reach_at (depth_of l a b c)
          go (negsuc n) d = absurd (false≢true (sym (nan_lt_false start) ∙ ap (λ (y : Float). lt y start) (sym (no_float n d)) ∙ p))
          go (pos n) d = too_low (low_is n d ∙ is_short n whole l.near wholes ((λ i. lt (sym (rounded_depth n d) i) (sym s i)) ∙ p))

      decided_high : lt finish (fraction_of t w) ≡ true → Missed ≡ reach_at (depth_of l a b c)
      decided_high p = go depth refl
        where
          go : (d : ℤ) → depth ≡ d → Missed ≡ reach_at (depth_of l a b c)
          go (negsuc n) d = absurd (false≢true (sym (lt_nan_false finish) ∙ ap (lt finish) (sym (no_float n d)) ∙ p))
          go (pos n) d = too_high (high_is n d ∙ is_beyond n whole l.far wholes ((λ i. lt (sym f i) (sym (rounded_depth n d) i)) ∙ p))

      rounded_decides : (r : CrossingDistance) → AgainstEnds (fraction_of t w) start finish r → Decides (depth_of l a b c) r
      rounded_decides (Crossed x) h =
          decided_at x h.0 (ap (lt start) h.0 ∙ h.1.0) (ap (λ (y : Float). lt y finish) h.0 ∙ h.1.1)
      rounded_decides Off (inl h) = decided_low h
      rounded_decides Off (inr h) = decided_high h
      rounded_decides Undecided h = tt

      pub between_decides : (r : CrossingDistance) → Between t w start finish r → Decides (depth_of l a b c) r
      between_decides r (below h e) =
          subst (Decides (depth_of l a b c)) (sym e)
          (too_low (low_below (below_zero depth w t (pos whole *ℤ pos 32768) up wide_whole same h)))
      between_decides r (rounded h) = rounded_decides r h

  module _ (start finish : Float) (s : start ≡ in_millimetres (pos l.near)) (f : finish ≡ in_millimetres (pos l.far)) where
    pub above_decides : lt_z (pos 0) F ≡ true → (r : CrossingDistance) → Between (E *ℤ pos 32768) F start finish r
        → Decides (depth_of l a b c) r
    above_decides h =
        let q = gains (above_apart F h) in
        between_decides q (E *ℤ pos 32768) F h (ratio q) start finish s f

    pub below_decides : lt_z F (pos 0) ≡ true → (r : CrossingDistance) → Between (E *ℤ neg_ℤ (pos 32768)) (neg_ℤ F) start finish r
        → Decides (depth_of l a b c) r
    below_decides h =
        let q = gains (below_apart F h) in
        between_decides q (E *ℤ neg_ℤ (pos 32768)) (neg_ℤ F) (below_turned F h) (turned_ratio q) start finish s f
