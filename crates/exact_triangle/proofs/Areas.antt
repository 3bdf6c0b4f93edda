-- A triangle has area in space exactly if it has as the line sees it. Assumes nothing.
use Rattle.std.proofs.Common.{◌≡◌, ◌<◌, ℤ, pos, ◌+ℤ◌, ◌-ℤ◌, ◌*ℤ◌, neg_ℤ, nat_abs, sym, ap, ◌∙◌, mul_comm, arith}
use lib.IntN.{*ℤ-zero}
use Rattle.exact_depth.specs.declared.projection.Projected.{Projected}
use Rattle.wide_integers.specs.Determinant.{determinant}
use Rattle.exact_depth.specs.FirstPoint.{area, across_point, up_point}
use Rattle.exact_depth.specs.Meeting.{HasArea}
use Rattle.wide_integers.proofs.Integers.{no_factor, mul_size, neg_size, size_zero}
use Rattle.wide_integers.proofs.Polynomials.{own, own_pos, rep_add, equal}
use Rattle.exact_depth.proofs.Weights.{spread}
use Rattle.exact_depth.specs.declared.projection.Point.{Point}
use Rattle.exact_triangle.specs.Shear.{Main, alongX, alongY, alongZ, facing, ahead, sheared, from}
use Rattle.exact_triangle.specs.Surface.{Flat, Apart}
use Rattle.exact_triangle.proofs.Shears.{spread_sheared, spread_aside, spread_flip, determinant_edges, edge_from}

-- ---- no factor is 0, and their product is
pub zero_of_product : (m z : ℤ) → 0 < nat_abs m → m *ℤ z ≡ pos 0 → z ≡ pos 0
zero_of_product m z p h =
    size_zero z (no_factor (nat_abs z) (nat_abs m) p (mul_comm (nat_abs z) (nat_abs m) ∙ sym (mul_size m z) ∙ ap nat_abs h))

-- ---- as faced: the corners p, q and r have no area
pub record FlatFaced (p q r : Projected) : Type 0 where
  pub main : spread p.across p.up q.across q.up r.across r.up ≡ pos 0
  pub first : spread p.up p.depth q.up q.depth r.up r.depth ≡ pos 0
  pub second : spread p.depth p.across q.depth q.across r.depth r.across ≡ pos 0

-- one coordinate plane
module _ (o o' p p' q q' r r' : ℤ) where
  edges : spread (p -ℤ o) (p' -ℤ o') (q -ℤ o) (q' -ℤ o') (r -ℤ o) (r' -ℤ o') ≡ determinant (q -ℤ p) (q' -ℤ p') (r -ℤ p) (r' -ℤ p')
  edges =
      determinant_edges (p -ℤ o) (p' -ℤ o') (q -ℤ o) (q' -ℤ o') (r -ℤ o) (r' -ℤ o')
      ∙ (λ s. determinant (edge_from o p q s) (edge_from o' p' q' s) (edge_from o p r s) (edge_from o' p' r' s))

module _ (o a b c : Point) where
  xs : spread (a.x -ℤ o.x) (a.y -ℤ o.y) (b.x -ℤ o.x) (b.y -ℤ o.y) (c.x -ℤ o.x) (c.y -ℤ o.y)
      ≡ determinant (b.x -ℤ a.x) (b.y -ℤ a.y) (c.x -ℤ a.x) (c.y -ℤ a.y)
  xs = edges o.x o.y a.x a.y b.x b.y c.x c.y

  ys : spread (a.y -ℤ o.y) (a.z -ℤ o.z) (b.y -ℤ o.y) (b.z -ℤ o.z) (c.y -ℤ o.y) (c.z -ℤ o.z)
      ≡ determinant (b.y -ℤ a.y) (b.z -ℤ a.z) (c.y -ℤ a.y) (c.z -ℤ a.z)
  ys = edges o.y o.z a.y a.z b.y b.z c.y c.z

  zs : spread (a.z -ℤ o.z) (a.x -ℤ o.x) (b.z -ℤ o.z) (b.x -ℤ o.x) (c.z -ℤ o.z) (c.x -ℤ o.x)
      ≡ determinant (b.z -ℤ a.z) (b.x -ℤ a.x) (c.z -ℤ a.z) (c.x -ℤ a.x)
  zs = edges o.z o.x a.z a.x b.z b.x c.z c.x

  pub faced : (m : Main) → Flat a b c → FlatFaced (facing m (from o a)) (facing m (from o b)) (facing m (from o c))
  faced alongX f = record { main = ys ∙ f.x; first = zs ∙ f.y; second = xs ∙ f.z }
  faced alongY f = record { main = zs ∙ f.y; first = xs ∙ f.z; second = ys ∙ f.x }
  faced alongZ f = record { main = xs ∙ f.z; first = ys ∙ f.x; second = zs ∙ f.y }

  pub unfaced : (m : Main) → FlatFaced (facing m (from o a)) (facing m (from o b)) (facing m (from o c)) → Flat a b c
  unfaced alongX f = record { x = sym ys ∙ f.main; y = sym zs ∙ f.first; z = sym xs ∙ f.second }
  unfaced alongY f = record { x = sym ys ∙ f.second; y = sym zs ∙ f.main; z = sym xs ∙ f.first }
  unfaced alongZ f = record { x = sym ys ∙ f.first; y = sym zs ∙ f.second; z = sym xs ∙ f.main }

-- ---- and as sheared
module _ (d p q r : Projected) where
  abbrev p' : Projected
  p' = sheared d p

  abbrev q' : Projected
  q' = sheared d q

  abbrev r' : Projected
  r' = sheared d r

  abbrev K : ℤ
  K = ahead d.depth

  abbrev Z : ℤ
  Z = spread p.across p.up q.across q.up r.across r.up

  abbrev X : ℤ
  X = spread p.up p.depth q.up q.depth r.up r.depth

  abbrev Y : ℤ
  Y = spread p.depth p.across q.depth q.across r.depth r.across

  abbrev whole : ℤ
  whole = spread p'.across p'.up q'.across q'.up r'.across r'.up

  front : whole ≡ d.depth *ℤ (d.depth *ℤ Z +ℤ d.across *ℤ X +ℤ d.up *ℤ Y)
  front =
      spread_sheared p.across p.up p.depth q.across q.up q.depth r.across r.up r.depth d.across d.up
      d.depth

  upward : area (up_point p') (up_point q') (up_point r') ≡ K *ℤ d.depth *ℤ X
  unfolding area
  upward = spread_aside p.up p.depth q.up q.depth r.up r.depth d.up d.depth K

  sideways : area (across_point p') (across_point q') (across_point r') ≡ K *ℤ d.depth *ℤ neg_ℤ Y
  unfolding area
  sideways =
      spread_aside p.across p.depth q.across q.depth r.across r.depth d.across d.depth K
      ∙ ap (λ (z : ℤ). K *ℤ d.depth *ℤ z)
      (spread_flip p.across p.depth q.across q.depth r.across r.depth)

  -- what is flat in space is flat as seen
  nothing : (m x y z a b : ℤ) → x ≡ pos 0 → y ≡ pos 0 → z ≡ pos 0 → m *ℤ (m *ℤ z +ℤ a *ℤ x +ℤ b *ℤ y) ≡ pos 0
  nothing m x y z a b e f g =
      (λ s. m *ℤ (m *ℤ g s +ℤ a *ℤ e s +ℤ b *ℤ f s)) ∙ (λ s. m *ℤ (*ℤ-zero m s +ℤ *ℤ-zero a s +ℤ *ℤ-zero b s)) ∙ *ℤ-zero m

  seen_apart : HasArea p' q' r' → FlatFaced p q r → ⊥
  seen_apart h f =
      h (front ∙ nothing d.depth X Y Z d.across d.up f.first f.second f.main)
      (sideways ∙ ap (λ (z : ℤ). K *ℤ d.depth *ℤ neg_ℤ z) f.second ∙ *ℤ-zero (K *ℤ d.depth))
      (upward ∙ ap (λ (z : ℤ). K *ℤ d.depth *ℤ z) f.first ∙ *ℤ-zero (K *ℤ d.depth))

  -- what is flat as seen is flat in space
  module _ (some : 0 < nat_abs d.depth) (more : 0 < nat_abs (K *ℤ d.depth)) where
    seen_flat : whole ≡ pos 0 → area (across_point p') (across_point q') (across_point r') ≡ pos 0
        → area (up_point p') (up_point q') (up_point r') ≡ pos 0 → FlatFaced p q r
    seen_flat e f g =
        let x : X ≡ pos 0 = zero_of_product (K *ℤ d.depth) X more (sym upward ∙ g) in
        let y' : neg_ℤ Y ≡ pos 0 = zero_of_product (K *ℤ d.depth) (neg_ℤ Y) more (sym sideways ∙ f) in
        let y : Y ≡ pos 0 = size_zero Y (sym (neg_size Y) ∙ ap nat_abs y') in
        let n = zero_of_product d.depth (d.depth *ℤ Z +ℤ d.across *ℤ X +ℤ d.up *ℤ Y) some (sym front ∙ e) in
        let z : Z ≡ pos 0 = zero_of_product d.depth Z some (sym (only (d.depth *ℤ Z) X Y d.across d.up x y) ∙ n) in
        record { main = z; first = x; second = y }
      where
        only : (n x y a b : ℤ) → x ≡ pos 0 → y ≡ pos 0 → n +ℤ a *ℤ x +ℤ b *ℤ y ≡ n
        only n x y a b e f =
            (λ s. n +ℤ a *ℤ e s +ℤ b *ℤ f s) ∙ (λ s. n +ℤ *ℤ-zero a s +ℤ *ℤ-zero b s)
            ∙ equal (rep_add (rep_add (own n) (own_pos 0)) (own_pos 0)) (own n) (omega arith)

    apart_seen : (FlatFaced p q r → ⊥) → HasArea p' q' r'
    apart_seen h e f g = h (seen_flat e f g)

-- ---- of points
module _ (m : Main) (d o a b c : Point) where
  abbrev D : Projected
  D = facing m d

  abbrev seen : Point → Projected
  seen p = sheared D (facing m (from o p))

  pub area_seen : 0 < nat_abs D.depth → 0 < nat_abs (ahead D.depth *ℤ D.depth) → Apart a b c → HasArea (seen a) (seen b) (seen c)
  area_seen some more h =
      apart_seen D (facing m (from o a)) (facing m (from o b)) (facing m (from o c)) some more (λ f. h (unfaced o a b c m f))

  pub area_there : HasArea (seen a) (seen b) (seen c) → Apart a b c
  area_there h f = seen_apart D (facing m (from o a)) (facing m (from o b)) (facing m (from o c)) h (faced o a b c m f)
