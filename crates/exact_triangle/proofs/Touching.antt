-- A triangle that the segment meets on the grid has a box, of its own corners, that touches the segment's box. Assumes nothing.
use Rattle.std.proofs.Common.{◌≡◌, ℕ, ◌+◌, ◌*◌, ◌^◌, ◌<◌, ◌≤◌, Bool, true, false, List, ℤ, pos, ◌*ℤ◌, nat_abs, sym, refl, ap, ◌∙◌, subst}
use Rattle.std.proofs.Common.{mul-le-mul_right, le_of_mul-le-mul_right, arith}
use mathlib.Core.Bool.{false≢true}
use lib.Signed.{le_z}
use lib.Ieee.{Float, nan, inf, fin, up, down, of_bits, le, lt, eq}
use lib.Ieee.Fits.{down_pos}
use lib.Ieee.Nearest.{closest}
use Rattle.lists.proofs.JoinedTests.{and_first, and_second, and_three}
use Rattle.arithmetic.specs.Basic.{is_finite, absolute}
use Rattle.arithmetic.proofs.SumOrder.{le_parts}
use Rattle.arithmetic.proofs.RoundingError.{closest_near}
use Rattle.vectors.specs.Vector.{finite_vec, min_of, max_of}
use Rattle.geometry.specs.Box.{corner, corners_box, touches}
use Rattle.vectors.specs.declared.vec3.Vec3.{Vec3}
use Rattle.geometry.specs.declared.ray.Ray.{Ray}
use Rattle.wide_integers.proofs.Integers.{neg_size}
use Rattle.exact_triangle.specs.Line.{parts, Line}
use Rattle.exact_triangle.specs.Surface.{Surface}
use Rattle.exact_triangle.specs.Grid.{units, signed, nearest_to, within, all_within, two, furthest, longest, grid_point}
use Rattle.exact_triangle.specs.Grid.{grid_admitted, grid_line}
use Rattle.exact_triangle.specs.Box.{certain_box}
use Rattle.exact_triangle.proofs.Sides.{EndsSized, side_touches_lem}

-- ---- what is read keeps to its size
pub signed_size : (s : Bool) (q : ℕ) → nat_abs (signed s q) ≡ q
signed_size false q = refl
signed_size true q = neg_size (pos q)

pub bounded : (a d q k n : ℕ) → 0 < d → 2 * (q * d) ≤ 2 * (a * k) + d → a * 1 ≤ n * d → q ≤ n * k
bounded a d q k n D h g =
    let g' : a * 1 * k ≤ n * d * k = mul-le-mul_right k g in
    let l : (2 * q) * d ≤ (2 * (n * k) + 1) * d = omega (arith, h, g') in
    let m : 2 * q ≤ 2 * (n * k) + 1 = le_of_mul-le-mul_right l D in
    omega (arith, m)

pub read_size : (k e : ℕ) (x : Float) → le (absolute x) (fin false 1 (pos e)) ≡ true → nat_abs (nearest_to k x) ≤ 2 ^ e * k
unfolding nearest_to absolute
read_size k e nan h = unfold le lt eq in absurd (false≢true h)
read_size k e (inf s) h = unfold le lt eq in absurd (false≢true h)
read_size k e (fin s m c) h =
    let p = le_parts (fin false m c) (fin false 1 (pos e)) (unfold is_finite in refl) (unfold is_finite in refl) h in
    let q = closest (m * up c * k) (down c) in
    let near = closest_near (m * up c * k) (down c) (down_pos c) in
    subst (λ (n : ℕ). n ≤ 2 ^ e * k) (sym (signed_size s q)) (bounded (m * up c) (down c) q k (2 ^ e) (down_pos c) near.0 (omega
    (arith, p)))

pub two_is : two ≡ fin false 1 (pos 1)
unfolding of_bits
two_is = refl

pub furthest_is : furthest ≡ fin false 1 (pos 13)
unfolding of_bits
furthest_is = refl

pub longest_is : longest ≡ fin false 1 (pos 15)
unfolding of_bits
longest_is = refl

pub within_size : (k e : ℕ) (b x : Float) → b ≡ fin false 1 (pos e) → within b x ≡ true → nat_abs (nearest_to k x) ≤ 2 ^ e * k
within_size k e b x is h = read_size k e x (ap (le (absolute x)) (sym is) ∙ h)

-- ---- a ray that is admitted
pub record Sizes (l : Line) : Type 0 where
  pub x : EndsSized l.origin.x l.direction.x l.near l.far
  pub y : EndsSized l.origin.y l.direction.y l.near l.far
  pub z : EndsSized l.origin.z l.direction.z l.near l.far

pub line_sizes : (r : Ray) → grid_admitted r ≡ true → Sizes (grid_line r)
unfolding grid_admitted grid_line
line_sizes r h =
    let o = and_first (all_within furthest r.origin) _ h in
    let h₂ = and_second (all_within furthest r.origin) _ h in
    let d = and_first (all_within two r.direction) _ h₂ in
    let h₃ = and_second (all_within two r.direction) _ h₂ in
    let near : nat_abs (nearest_to units r.near) ≤ 1073741824 =
    within_size units 15 longest r.near longest_is (and_first (within longest r.near) _ h₃) in
    let far : nat_abs (nearest_to units r.max_distance) ≤ 1073741824 =
    within_size units 15 longest r.max_distance longest_is (and_second (within longest r.near) _ h₃) in
    let sizes : (p q : Float) → within furthest p ≡ true → within two q ≡ true
    → EndsSized (nearest_to units p) (nearest_to parts q) (nat_abs (nearest_to units r.near)) (nat_abs (nearest_to units
    r.max_distance)) =
    λ p q u v. record {
      origin = within_size units 13 furthest p furthest_is u;
      direction = within_size parts 1 two q two_is v;
      least = near;
      most = far;
    } in
    record {
      x = sizes r.origin.x r.direction.x (first furthest r.origin o) (first two r.direction d);
      y = sizes r.origin.y r.direction.y (second furthest r.origin o) (second two r.direction d);
      z = sizes r.origin.z r.direction.z (third furthest r.origin o) (third two r.direction d);
    }
  where
    first : (b : Float) (v : Vec3) → all_within b v ≡ true → within b v.x ≡ true
    first b v h = and_first (within b v.x) _ h

    second : (b : Float) (v : Vec3) → all_within b v ≡ true → within b v.y ≡ true
    second b v h = and_first (within b v.y) _ (and_second (within b v.x) _ h)

    third : (b : Float) (v : Vec3) → all_within b v ≡ true → within b v.z ≡ true
    third b v h = and_second (within b v.y) _ (and_second (within b v.x) _ h)

-- ---- every axis
pub record FiniteAt (v : Vec3) : Type 0 where
  pub x : is_finite v.x ≡ true
  pub y : is_finite v.y ≡ true
  pub z : is_finite v.z ≡ true

pub finite_at : (v : Vec3) → finite_vec v ≡ true → FiniteAt v
unfolding finite_vec
finite_at v h =
    let rest = and_second (is_finite v.x) _ h in
    record {
      x = and_first (is_finite v.x) _ h;
      y = and_first (is_finite v.y) _ rest;
      z = and_second (is_finite v.y) _ rest;
    }

pub met_touches : (r : Ray) → grid_admitted r ≡ true → (vs : List Vec3) → finite_vec (corner vs 0) ≡ true → finite_vec (corner vs 1) ≡ true
    → finite_vec (corner vs 2) ≡ true → (D : ℕ) (t : ℤ)
    → Surface (grid_line r) (grid_point (corner vs 0)) (grid_point (corner vs 1)) (grid_point (corner vs 2)) D t
    → touches (corners_box vs) (certain_box (grid_line r)) ≡ true
unfolding touches corners_box certain_box min_of max_of
met_touches r admitted vs fa fb fc D t s =
    let l = grid_line r in
    let sizes = line_sizes r admitted in
    let a = finite_at (corner vs 0) fa in
    let b = finite_at (corner vs 1) fb in
    let c = finite_at (corner vs 2) fc in
    let m = s.lies in
    let some : 0 < m.i + m.j + m.k = subst (λ (n : ℕ). 0 < n) (sym m.total) s.positive in
    let least = subst (λ (n : ℕ). le_z (pos l.near *ℤ pos n) t ≡ true) (sym m.total) s.least in
    let most = subst (λ (n : ℕ). le_z t (pos l.far *ℤ pos n) ≡ true) (sym m.total) s.most in
    and_three _ _ _
    (side_touches_lem l.origin.x l.direction.x l.near l.far sizes.x (corner vs 0).x (corner vs 1).x (corner vs 2).x a.x
    b.x c.x m.i m.j m.k t some least most m.x)
    (side_touches_lem l.origin.y l.direction.y l.near l.far sizes.y (corner vs 0).y (corner vs 1).y (corner vs 2).y a.y
    b.y c.y m.i m.j m.k t some least most m.y)
    (side_touches_lem l.origin.z l.direction.z l.near l.far sizes.z (corner vs 0).z (corner vs 1).z (corner vs 2).z a.z
    b.z c.z m.i m.j m.k t some least most m.z)
