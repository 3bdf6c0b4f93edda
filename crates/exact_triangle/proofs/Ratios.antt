-- A depth is the fraction of two small numbers: 2^30 n · (a - o) / n · d, with n the cross of the triangle's edges. Assumes nothing.
use Rattle.std.proofs.Common.{◌≡◌, ℕ, zero, suc, ◌+◌, ◌*◌, true, false, ℤ, pos, negsuc, ◌+ℤ◌, ◌-ℤ◌, ◌*ℤ◌, sym, refl, ap, ◌∙◌, zero-lt-suc}
use Rattle.std.proofs.Common.{arith}
use mathlib.Core.Bool.{false≢true}
use lib.Signed.{lt_z}
use lib.Ieee.{binary64}
use lib.Ieee.Scale.{round_same}
use Rattle.wide_integers.specs.Determinant.{determinant}
use Rattle.exact_depth.specs.Meeting.{mix}
use Rattle.wide_integers.proofs.Polynomials.{ring, diff_minus, diff_add, diff_left, diff_right, diff_zero, diff_equal}
use Rattle.wide_integers.proofs.Polynomials.{equal_of_minus, own, own_pos, rep_mul}
use Rattle.wide_integers.proofs.Order.{rep_same}
use Rattle.exact_depth.specs.declared.projection.Point.{Point}
use Rattle.wide_integers.specs.Division.{fraction_of}
use Rattle.exact_triangle.specs.Line.{parts, Line}
use Rattle.exact_triangle.specs.Surface.{Lies}
use Rattle.exact_triangle.specs.Shear.{from}
use Rattle.exact_triangle.proofs.Shears.{edge_from}
use Rattle.exact_triangle.specs.Normal.{cross_of, dot_of}

-- ---- a cross is square to its factors
square_first : (a b c d e f : ℤ) → determinant b c e f *ℤ a +ℤ determinant c a f d *ℤ b +ℤ determinant a b d e *ℤ c ≡ pos 0
square_first a b c d e f =
    diff_zero
    (diff_add (diff_add (diff_right (diff_minus (b *ℤ f) (c *ℤ e)) a) (diff_right (diff_minus (c *ℤ d) (a *ℤ f)) b))
    (diff_right (diff_minus (a *ℤ e) (b *ℤ d)) c))
    (simp ring)

square_second : (a b c d e f : ℤ) → determinant b c e f *ℤ d +ℤ determinant c a f d *ℤ e +ℤ determinant a b d e *ℤ f ≡ pos 0
square_second a b c d e f =
    diff_zero
    (diff_add (diff_add (diff_right (diff_minus (b *ℤ f) (c *ℤ e)) d) (diff_right (diff_minus (c *ℤ d) (a *ℤ f)) e))
    (diff_right (diff_minus (a *ℤ e) (b *ℤ d)) f))
    (simp ring)

-- ---- n · q is n · p where n is square to q - p
same_height : (x y z p q r s t u : ℤ) → x *ℤ (s -ℤ p) +ℤ y *ℤ (t -ℤ q) +ℤ z *ℤ (u -ℤ r) ≡ pos 0
    → x *ℤ s +ℤ y *ℤ t +ℤ z *ℤ u ≡ x *ℤ p +ℤ y *ℤ q +ℤ z *ℤ r
same_height x y z p q r s t u h =
    equal_of_minus (x *ℤ s +ℤ y *ℤ t +ℤ z *ℤ u) (x *ℤ p +ℤ y *ℤ q +ℤ z *ℤ r)
    (diff_equal (diff_minus (x *ℤ s +ℤ y *ℤ t +ℤ z *ℤ u) (x *ℤ p +ℤ y *ℤ q +ℤ z *ℤ r))
    (diff_add (diff_add (diff_left x (diff_minus s p)) (diff_left y (diff_minus t q))) (diff_left z (diff_minus u r))) (simp ring)
    ∙ h)

-- ---- the means of the corners have the first one's height
means : (i j k : ℤ) (x y z p q r s t u v w o E : ℤ) → x *ℤ p +ℤ y *ℤ q +ℤ z *ℤ r ≡ E → x *ℤ s +ℤ y *ℤ t +ℤ z *ℤ u ≡ E
    → x *ℤ v +ℤ y *ℤ w +ℤ z *ℤ o ≡ E
    → x *ℤ (i *ℤ p +ℤ j *ℤ s +ℤ k *ℤ v) +ℤ y *ℤ (i *ℤ q +ℤ j *ℤ t +ℤ k *ℤ w) +ℤ z *ℤ (i *ℤ r +ℤ j *ℤ u +ℤ k *ℤ o)
    ≡ (i +ℤ j +ℤ k) *ℤ E
means i j k x y z p q r s t u v w o E e f g =
    apart i j k x y z p q r s t u v w o ∙ (λ m. i *ℤ e m +ℤ j *ℤ f m +ℤ k *ℤ g m) ∙ whole i j k E
  where
    apart : (i j k x y z p q r s t u v w o : ℤ)
        → x *ℤ (i *ℤ p +ℤ j *ℤ s +ℤ k *ℤ v) +ℤ y *ℤ (i *ℤ q +ℤ j *ℤ t +ℤ k *ℤ w) +ℤ z *ℤ (i *ℤ r +ℤ j *ℤ u +ℤ k *ℤ o)
        ≡ i *ℤ (x *ℤ p +ℤ y *ℤ q +ℤ z *ℤ r) +ℤ j *ℤ (x *ℤ s +ℤ y *ℤ t +ℤ z *ℤ u) +ℤ k *ℤ (x *ℤ v +ℤ y *ℤ w +ℤ z *ℤ o)
    apart i j k x y z p q r s t u v w o = simp ring

    whole : (i j k E : ℤ) → i *ℤ E +ℤ j *ℤ E +ℤ k *ℤ E ≡ (i +ℤ j +ℤ k) *ℤ E
    whole i j k E = simp ring

module _ (o a b c : Point) where
  abbrev n : Point
  n = cross_of a b c

  -- an edge, as seen from the origin
  second_height : dot_of n (from o b) ≡ dot_of n (from o a)
  second_height =
      same_height n.x n.y n.z (a.x -ℤ o.x) (a.y -ℤ o.y) (a.z -ℤ o.z) (b.x -ℤ o.x) (b.y -ℤ o.y) (b.z -ℤ o.z)
      ((λ s. n.x *ℤ edge_from o.x a.x b.x s +ℤ n.y *ℤ edge_from o.y a.y b.y s
      +ℤ n.z *ℤ edge_from o.z a.z b.z s)
      ∙ square_first (b.x -ℤ a.x) (b.y -ℤ a.y) (b.z -ℤ a.z) (c.x -ℤ a.x) (c.y -ℤ a.y) (c.z -ℤ a.z))

  third_height : dot_of n (from o c) ≡ dot_of n (from o a)
  third_height =
      same_height n.x n.y n.z (a.x -ℤ o.x) (a.y -ℤ o.y) (a.z -ℤ o.z) (c.x -ℤ o.x) (c.y -ℤ o.y) (c.z -ℤ o.z)
      ((λ s. n.x *ℤ edge_from o.x a.x c.x s +ℤ n.y *ℤ edge_from o.y a.y c.y s
      +ℤ n.z *ℤ edge_from o.z a.z c.z s)
      ∙ square_second (b.x -ℤ a.x) (b.y -ℤ a.y) (b.z -ℤ a.z) (c.x -ℤ a.x) (c.y -ℤ a.y) (c.z -ℤ a.z))

-- ---- so the line's point at t / D has it too
pub lies_ratio : (l : Line) (a b c : Point) (D : ℕ) (t : ℤ) → Lies l a b c D t
    → t *ℤ dot_of (cross_of a b c) l.direction ≡ pos parts *ℤ (pos D *ℤ dot_of (cross_of a b c) (from l.origin a))
lies_ratio l a b c D t h =
    let m = cross_of a b c in
    let o = l.origin in
    let i = pos h.i in
    let j = pos h.j in
    let k = pos h.k in
    spread_out t m.x m.y m.z l.direction.x l.direction.y l.direction.z
    ∙ (λ s. m.x *ℤ sym h.x s +ℤ m.y *ℤ sym h.y s +ℤ m.z *ℤ sym h.z s)
    ∙ gather (pos parts) m.x m.y m.z (mix h.i h.j h.k (a.x -ℤ o.x) (b.x -ℤ o.x) (c.x -ℤ o.x))
    (mix h.i h.j h.k (a.y -ℤ o.y) (b.y -ℤ o.y) (c.y -ℤ o.y))
    (mix h.i h.j h.k (a.z -ℤ o.z) (b.z -ℤ o.z) (c.z -ℤ o.z))
    ∙ ap (λ (z : ℤ). pos parts *ℤ z) (means i j k m.x m.y m.z (a.x -ℤ o.x) (a.y -ℤ o.y) (a.z -ℤ o.z) (b.x -ℤ o.x)
    (b.y -ℤ o.y) (b.z -ℤ o.z) (c.x -ℤ o.x) (c.y -ℤ o.y) (c.z -ℤ o.z) (dot_of m (from o a)) refl (second_height o a b c)
    (third_height o a b c))
    ∙ ap (λ (d : ℕ). pos parts *ℤ (pos d *ℤ dot_of m (from o a))) h.total
  where
    spread_out : (t x y z p q r : ℤ) → t *ℤ (x *ℤ p +ℤ y *ℤ q +ℤ z *ℤ r) ≡ x *ℤ (t *ℤ p) +ℤ y *ℤ (t *ℤ q) +ℤ z *ℤ (t *ℤ r)
    spread_out t x y z p q r = simp ring

    gather : (S x y z p q r : ℤ) → x *ℤ (S *ℤ p) +ℤ y *ℤ (S *ℤ q) +ℤ z *ℤ (S *ℤ r) ≡ S *ℤ (x *ℤ p +ℤ y *ℤ q +ℤ z *ℤ r)
    gather S x y z p q r = simp ring

-- ---- equal fractions have one float
pub fraction_same : (t w t' w' : ℤ) → lt_z (pos 0) w ≡ true → lt_z (pos 0) w' ≡ true → t *ℤ w' ≡ t' *ℤ w → fraction_of t w
    ≡ fraction_of t' w'
fraction_same t (negsuc w) t' w' h g e = absurd (false≢true h)
fraction_same t (pos w) t' (negsuc w') h g e = absurd (false≢true g)
fraction_same t (pos zero) t' (pos w') h g e = absurd (false≢true h)
fraction_same t (pos (suc w)) t' (pos zero) h g e = absurd (false≢true g)
fraction_same (pos t) (pos (suc w)) (pos t') (pos (suc w')) h g e =
    let r = rep_same (rep_mul (own_pos t) (own_pos (suc w'))) (rep_mul (own_pos t') (own_pos (suc w))) e in
    round_same binary64 false t (suc w) t' (suc w') (zero-lt-suc w) (zero-lt-suc w') (omega (arith, r))
fraction_same (pos t) (pos (suc w)) (negsuc t') (pos (suc w')) h g e =
    let r = rep_same (rep_mul (own_pos t) (own_pos (suc w'))) (rep_mul (own (negsuc t')) (own_pos (suc w))) e in
    absurd (none t w t' w' r)
  where
    none : (t w t' w' : ℕ) → t * suc w' + 0 * 0 + (0 * 0 + suc t' * suc w) ≡ 0 * suc w + suc t' * 0 + (t * 0 + 0 * suc w') → ⊥
    none t w t' w' r = omega (arith, r)
fraction_same (negsuc t) (pos (suc w)) (pos t') (pos (suc w')) h g e =
    let r = rep_same (rep_mul (own (negsuc t)) (own_pos (suc w'))) (rep_mul (own_pos t') (own_pos (suc w))) e in
    absurd (none t w t' w' r)
  where
    none : (t w t' w' : ℕ) → 0 * suc w' + suc t * 0 + (t' * 0 + 0 * suc w) ≡ t' * suc w + 0 * 0 + (0 * 0 + suc t * suc w') → ⊥
    none t w t' w' r = omega (arith, r)
fraction_same (negsuc t) (pos (suc w)) (negsuc t') (pos (suc w')) h g e = refl
