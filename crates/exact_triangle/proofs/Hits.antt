-- A cast at one triangle on the grid is refused for its range alone: a hit has a normal. Assumes nothing.
use Rattle.std.proofs.Common.{◌≡◌, ℕ, Bool, true, false, cond, List, ℤ, sym, refl, ap, ◌∙◌, arith}
use lib.Ieee.{Float}
use Rattle.vectors.specs.Vector.{dot_of}
use Rattle.vectors.specs.declared.vec3.Vec3.{Vec3}
use Rattle.std.specs.Prelude.{Option, Some}
use Rattle.geometry.specs.declared.ray.Ray.{Ray}
use Rattle.geometry.specs.Box.{corner}
use Rattle.geometry.specs.Segment.{ray_admitted}
use Rattle.casts.specs.Answer.{Answer, hit, none, refused, with_normal, no_normal, out_of_range}
use Rattle.casts.specs.Reach.{reach_of}
use Rattle.casts.specs.Surface.{facing}
use Rattle.casts.specs.Reach.{Reach, At, Miss, Refused}
use Rattle.wide_integers.specs.Sizes.{Sized}
use Rattle.wide_integers.specs.Determinant.{determinant}
use Rattle.wide_integers.proofs.Reading.{product_size, difference_size}
use Rattle.exact_depth.specs.declared.projection.Point.{Point}
use Rattle.exact_triangle.specs.Grid.{furthest, all_within, grid_admitted, grid_point, grid_line}
use Rattle.exact_triangle.proofs.RoundedReadings.{coordinate_size}
use Rattle.exact_triangle.specs.Sizes.{Near, Crossed, Apart as Away}
use Rattle.exact_triangle.specs.Reach.{corners_read, reach_at, corners_reach, grid_reach}
use Rattle.exact_triangle.specs.Shear.{from, depth_of}
use Rattle.exact_triangle.specs.Normal.{cross_of, normal_of}
use Rattle.exact_triangle.specs.Cast.{grid_normal, reach_hit, cross_at, grid_hit, grid_triangle}
use Rattle.exact_triangle.proofs.Laws.{within_x, within_y, within_z, first_read, second_read, third_read}
use Rattle.exact_triangle.proofs.Normals.{unit_normal}
use Rattle.exact_triangle.proofs.Certainty.{reach_certain}

-- ---- sizes
pub corner_near : (v : Vec3) → all_within furthest v ≡ true → Near (grid_point v)
corner_near v h = record {
  x = record { size = coordinate_size v.x (within_x furthest v h) };
  y = record { size = coordinate_size v.y (within_y furthest v h) };
  z = record { size = coordinate_size v.z (within_z furthest v h) };
}

pub cross_size : {a b c : Point} → Near a → Near b → Near c → Crossed (cross_of a b c)
cross_size f g h =
    let e = edge f g in
    let k = edge f h in
    record {
      x = determinant_size e.y e.z k.y k.z;
      y = determinant_size e.z e.x k.z k.x;
      z = determinant_size e.x e.y k.x k.y;
    }
  where
    edge : {a b : Point} → Near a → Near b → Away (from a b)
    edge f g = record { x = difference_size g.x f.x; y = difference_size g.y f.y; z = difference_size g.z f.z }

    determinant_size : {a b c d : ℤ} → Sized 536870912 a → Sized 536870912 b → Sized 536870912 c → Sized 536870912 d
        → Sized 576460752303423488 (determinant a b c d)
    determinant_size p q r s = difference_size (product_size p s) (product_size q r)

-- ---- a corner out of range
off_reach : (r : Ray) (vs : List Vec3) → corners_read vs ≡ false → grid_reach r vs ≡ Refused out_of_range
unfolding grid_reach corners_reach
off_reach r vs h = go (grid_admitted r)
  where
    go : (k : Bool) → cond k (corners_reach (grid_line r) vs) (Refused out_of_range) ≡ Refused out_of_range
    go true =
        let a = grid_point (corner vs 0) in
        let b = grid_point (corner vs 1) in
        let c = grid_point (corner vs 2) in
        ap (λ (k : Bool). cond k (reach_at (depth_of (grid_line r) a b c)) (Refused out_of_range)) h
    go false = refl

pub off_hit : (r : Ray) (vs : List Vec3) → corners_read vs ≡ false → grid_triangle r vs ≡ refused out_of_range
unfolding grid_triangle
off_hit r vs h = ap (reach_hit r (cross_at vs)) (off_reach r vs h)

-- ---- a triangle that is reached at a distance has the hit at that distance
abbrev reached_number : Reach → ℕ
reached_number (At x) = 0
reached_number Miss = 1
reached_number (Refused k) = 2

pub hit_by_distance : (r : Ray) (vs : List Vec3) (x : Float) → grid_reach r vs ≡ At x → grid_hit r vs x ≡ grid_triangle r vs
unfolding grid_hit grid_triangle
hit_by_distance r vs x e = go (corners_read vs) refl ∙ sym (ap (reach_hit r (cross_at vs)) e)
  where
    go : (b : Bool) → corners_read vs ≡ b → cond b (grid_normal r (cross_at vs) x) (refused out_of_range) ≡ grid_normal r (cross_at vs) x
    go true h = refl
    go false h = let w = ap reached_number (sym (off_reach r vs h) ∙ e) in absurd (omega (arith, w))

-- ---- what is read is not refused
abbrev number : Answer → ℕ
number (hit n x) = 0
number none = 0
number (refused k) = 1

-- a hit has a normal
hit_told : (r : Ray) (n : Point) (u : Vec3) (x : Float) → normal_of n ≡ Some u
    → grid_normal r n x ≡ hit (facing u (dot_of r.direction u)) x
unfolding grid_normal
hit_told r n u x e =
    ap (λ (k : Option Vec3). with_normal k no_normal (λ (v : Vec3). hit (facing v (dot_of r.direction v)) x)) e

hit_at_lem : (r : Ray) (vs : List Vec3) → ray_admitted r ≡ true → grid_admitted r ≡ true → corners_read vs ≡ true → (x : Float)
    → grid_reach r vs ≡ At x → (normal : Vec3) × (grid_normal r (cross_at vs) x ≡ hit normal x)
hit_at_lem r vs h g read x t =
    let s =
    cross_size (corner_near (corner vs 0) (first_read vs read)) (corner_near (corner vs 1) (second_read vs read))
    (corner_near (corner vs 2) (third_read vs read)) in
    let u =
    unit_normal (grid_point (corner vs 0)) (grid_point (corner vs 1)) (grid_point (corner vs 2))
    ((reach_certain r vs h g read).area x t) s in
    (_, hit_told r (cross_at vs) _ x u)

-- what is reached is the answer without its normal
pub reached_as : (r : Ray) (vs : List Vec3) → ray_admitted r ≡ true → grid_admitted r ≡ true → grid_reach r vs
    ≡ reach_of (grid_triangle r vs)
unfolding grid_triangle reach_of
reached_as r vs h g = go (corners_read vs) refl (grid_reach r vs) refl
  where
    go : (read : Bool) → corners_read vs ≡ read → (q : Reach) → grid_reach r vs ≡ q → q ≡ reach_of (reach_hit r (cross_at vs) q)
    go read b Miss t = refl
    go read b (Refused m) t = refl
    go false b (At x) t = let w = ap reached_number (sym (off_reach r vs b) ∙ t) in absurd (omega (arith, w))
    go true b (At x) t = sym (ap reach_of (hit_at_lem r vs h g b x t).1)

pub never_refused : (r : Ray) (vs : List Vec3) → ray_admitted r ≡ true → grid_admitted r ≡ true → corners_read vs ≡ true → (k : ℕ)
    → grid_triangle r vs ≡ refused k → ⊥
unfolding grid_triangle
never_refused r vs h g read k e = go (grid_reach r vs) refl
  where
    go : (q : Reach) → grid_reach r vs ≡ q → ⊥
    go Miss t = let w = ap number (sym (ap (reach_hit r (cross_at vs)) t) ∙ e) in omega (arith, w)
    go (Refused m) t = (reach_certain r vs h g read).told m t
    go (At x) t =
        let w = ap number (sym (hit_at_lem r vs h g read x t).1 ∙ sym (ap (reach_hit r (cross_at vs)) t) ∙ e) in
        omega (arith, w)
