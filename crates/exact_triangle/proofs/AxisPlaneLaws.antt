-- A triangle in a plane at right angles to an axis has that plane's distance, where the line crosses it. Assumes nothing.
use Rattle.std.proofs.Common.{◌≡◌, ℕ, zero, suc, ◌+◌, ◌<◌, ℤ, pos, negsuc, ◌+ℤ◌, ◌-ℤ◌, ◌*ℤ◌, neg_ℤ, nat_abs, sym, refl, ap, ◌∙◌, subst, inl}
use Rattle.std.proofs.Common.{inr, zero-lt-suc, arith, lit≤}
use lib.Ieee.{Float}
use Rattle.wide_integers.specs.Sizes.{Sized}
use Rattle.wide_integers.proofs.Reading.{bits, plain, widen, sized_bits}
use Rattle.wide_integers.proofs.Polynomials.{ring}
use Rattle.exact_depth.specs.declared.projection.Point.{Point}
use Rattle.exact_depth.specs.Meeting.{mix}
use Rattle.exact_depth.specs.Incidence.{Crosses}
use Rattle.exact_triangle.specs.Line.{parts, Line, Moves}
use Rattle.exact_triangle.specs.Box.{in_millimetres}
use Rattle.exact_triangle.specs.Shear.{projected_of, gain, depth_of}
use Rattle.exact_triangle.specs.declared.crossing.CrossingDistance.{CrossingDistance}
use Rattle.exact_triangle.specs.CrossingDistance.{AtPlane, ahead, behind, along, AxisPlane, Decides}
use Rattle.exact_triangle.proofs.SegmentCertainty.{main_moves}
use Rattle.exact_triangle.proofs.Signs.{above_apart, below_apart, below_turned}
use Rattle.exact_triangle.proofs.CrossingLaws.{depth, whole, lies, scaled, scaled_back, between_decides}

-- ---- the numbers as the machine reads them
pub plane_read : {A B C O D a b c o d : ℤ} {s f : Float} {r : CrossingDistance} → A ≡ a → B ≡ b → C ≡ c → O ≡ o → D ≡ d
    → AxisPlane A B C O D s f r → AxisPlane a b c o d s f r
plane_read {A} {B} {C} {O} {D} {a} {b} {c} {o} {d} {s} {f} {r} e g h k m t =
    subst (λ (z : ℤ). AxisPlane z b c o d s f r) e
    (subst (λ (z : ℤ). AxisPlane A z c o d s f r) g
    (subst (λ (z : ℤ). AxisPlane A B z o d s f r) h
    (subst (λ (z : ℤ). AxisPlane A B C z d s f r) k
    (subst (λ (z : ℤ). AxisPlane A B C O z s f r) m t))))

pub coordinate_read : {x : ℤ} → Sized 268435456 x → bits x ≡ x
coordinate_read h = plain (widen h (lit≤ tt))

pub component_read : {x : ℤ} → Sized 2147483648 x → bits x ≡ x
component_read h = plain (widen h (lit≤ tt))

pub sizes_read : {a b c o d : ℤ} → Sized 268435456 a → Sized 268435456 b → Sized 268435456 c → Sized 268435456 o → Sized 2147483648 d
    → (Sized 268435456 (bits a) × (Sized 268435456 (bits b) × Sized 268435456 (bits c)))
    × (Sized 268435456 (bits o) × Sized 2147483648 (bits d))
sizes_read h g k m n =
    ((sized_bits h (lit≤ tt), (sized_bits g (lit≤ tt), sized_bits k (lit≤ tt))), (sized_bits m (lit≤ tt), sized_bits n (lit≤ tt)))

-- ---- the distance
nonzero : (d : ℤ) → (d ≡ pos 0 → ⊥) → 0 < nat_abs d
nonzero (pos zero) h = absurd (h refl)
nonzero (pos (suc n)) h = zero-lt-suc n
nonzero (negsuc n) h = zero-lt-suc n

-- the weighted mean of one number three times is that number
mean_of_equals : (i j k : ℕ) (D : ℕ) (p q u v d : ℤ) → i + j + k ≡ D → q ≡ p → u ≡ p → pos parts *ℤ mix i j k p q u ≡ v *ℤ d
    → v *ℤ d ≡ pos parts *ℤ (pos D *ℤ p)
mean_of_equals i j k D p q u v d t e g h =
    sym h ∙ (λ n. pos parts *ℤ mix i j k p (e n) (g n)) ∙ ap (λ (z : ℤ). pos parts *ℤ z) (three (pos i) (pos j) (pos k) p)
    ∙ ap (λ (n : ℕ). pos parts *ℤ (pos n *ℤ p)) t
  where
    three : (i j k p : ℤ) → i *ℤ p +ℤ j *ℤ p +ℤ k *ℤ p ≡ (i +ℤ j +ℤ k) *ℤ p
    three i j k p = simp ring

module _ (l : Line) (a b c : Point) (crosses : Crosses (projected_of l a) (projected_of l b) (projected_of l c)) (start finish : Float)
    (s : start ≡ in_millimetres (pos l.near)) (f : finish ≡ in_millimetres (pos l.far)) where
  abbrev t : ℤ
  t = depth l a b c crosses

  abbrev D : ℕ
  D = whole l a b c crosses

  -- the plane at p along the direction's component d
  module _ (p d : ℤ) (moves : (d ≡ pos 0 → ⊥) → 0 < gain l) (same : t *ℤ d ≡ pos parts *ℤ (pos D *ℤ p)) where
    plane_decides : (r : CrossingDistance) → AtPlane p d start finish r → Decides (depth_of l a b c) r
    plane_decides r (ahead h k) =
        between_decides l a b c crosses (moves (above_apart d h)) (p *ℤ pos 32768) d h (scaled t d p (pos D) same) start finish s f r k
    plane_decides r (behind h k) =
        between_decides l a b c crosses (moves (below_apart d h)) (p *ℤ neg_ℤ (pos 32768)) (neg_ℤ d) (below_turned d h)
        (scaled_back t d p (pos D) same) start finish s f r k
    plane_decides r (along e) = subst (Decides (depth_of l a b c)) (sym e) tt

  -- three corners at p, q and u of an axis, the origin at o
  on_axis : (p q u o d : ℤ) → ((d ≡ pos 0 → ⊥) → Moves l.direction)
      → pos parts *ℤ mix (lies l a b c crosses).i (lies l a b c crosses).j (lies l a b c crosses).k (p -ℤ o) (q -ℤ o) (u -ℤ o) ≡ t *ℤ d
      → (r : CrossingDistance) → AxisPlane p q u o d start finish r → Decides (depth_of l a b c) r
  on_axis p q u o d moves e r (inl h) = subst (Decides (depth_of l a b c)) (sym h) tt
  on_axis p q u o d moves e r (inr h) =
      let w = lies l a b c crosses in
      plane_decides (p -ℤ o) d (λ n. main_moves l.direction (moves n))
      (mean_of_equals w.i w.j w.k D (p -ℤ o) (q -ℤ o) (u -ℤ o) t d w.total (ap (λ (z : ℤ). z -ℤ o) h.second)
      (ap (λ (z : ℤ). z -ℤ o) h.third) e) r h.across

  pub on_x_lem : (r : CrossingDistance) → AxisPlane a.x b.x c.x l.origin.x l.direction.x start finish r
      → Decides (depth_of l a b c) r
  on_x_lem =
      on_axis a.x b.x c.x l.origin.x l.direction.x
      (λ e. record { some = let m = nonzero l.direction.x e in omega (arith, m) }) (lies l a b c crosses).x

  pub on_y_lem : (r : CrossingDistance) → AxisPlane a.y b.y c.y l.origin.y l.direction.y start finish r
      → Decides (depth_of l a b c) r
  on_y_lem =
      on_axis a.y b.y c.y l.origin.y l.direction.y
      (λ e. record { some = let m = nonzero l.direction.y e in omega (arith, m) }) (lies l a b c crosses).y

  pub on_z_lem : (r : CrossingDistance) → AxisPlane a.z b.z c.z l.origin.z l.direction.z start finish r
      → Decides (depth_of l a b c) r
  on_z_lem =
      on_axis a.z b.z c.z l.origin.z l.direction.z
      (λ e. record { some = let m = nonzero l.direction.z e in omega (arith, m) }) (lies l a b c crosses).z
