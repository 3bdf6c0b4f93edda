-- The table of document 01's 'Marked' answers, K1 to K15 in its order, and after them some of M-106. Definitions only. Assumes nothing.
use Rattle.std.specs.Prelude.{ℕ, Bool, true, ◌&&◌, List, [], ◌∷◌, ◌++◌, eqb, Float, replicate}
use Prim.Native.Nat as Nat
use Rattle.std.specs.Float.{binary64}
use Rattle.std.specs.Float.Ieee.{of_bits, eq}
use Rattle.vectors.specs.declared.vec3.Vec3.{Vec3}
use Rattle.geometry.specs.declared.ray.Ray.{Ray}
use Rattle.casts.specs.declared.plane.Plane.{Plane}
use Rattle.height_field.specs.declared.field.Field.{Field}
use Rattle.distance_grid.specs.declared.grid.Grid.{Grid}
use Rattle.tree.specs.Mesh.{Mesh}
use Rattle.known_answers.specs.Cases.{Case, at_plane, at_triangle, at_mesh, build_of_mesh, at_heights, at_distances, root_at, round_at}
use Rattle.known_answers.specs.Cases.{Outcome, outcome, a_hit, a_none, a_refusal, a_number}

-- the numbers that the cases use, by their bits
abbrev zero : Float
zero = of_bits binary64 0x0000_0000_0000_0000

abbrev two : Float
two = of_bits binary64 0x4000_0000_0000_0000

abbrev minus_one : Float
minus_one = of_bits binary64 0xbff0_0000_0000_0000

abbrev one : Float
one = of_bits binary64 0x3ff0_0000_0000_0000

abbrev quarter : Float
quarter = of_bits binary64 0x3fd0_0000_0000_0000

abbrev half : Float
half = of_bits binary64 0x3fe0_0000_0000_0000

abbrev three_quarters : Float
three_quarters = of_bits binary64 0x3fe8_0000_0000_0000

abbrev vast : Float
vast = of_bits binary64 0x6126_c2d4_256f_fcc3

abbrev quarter_vast : Float
quarter_vast = of_bits binary64 0x6106_c2d4_256f_fcc3

abbrev five : Float
five = of_bits binary64 0x4014_0000_0000_0000

abbrev ten : Float
ten = of_bits binary64 0x4024_0000_0000_0000

abbrev tiny : Float
tiny = of_bits binary64 0x3e7a_d7f2_9abc_af48

abbrev half_vast : Float
half_vast = of_bits binary64 0x6116_c2d4_256f_fcc3

abbrev minus_two_and_half : Float
minus_two_and_half = of_bits binary64 0xc004_0000_0000_0000

abbrev two_and_half : Float
two_and_half = of_bits binary64 0x4004_0000_0000_0000

abbrev three : Float
three = of_bits binary64 0x4008_0000_0000_0000

abbrev vec : Float → Float → Float → Vec3
vec a b c = record { x = a; y = b; z = c }

abbrev ray : Vec3 → Vec3 → Float → Ray
ray from along reach = record { origin = from; direction = along; max_distance = reach; near = zero }

-- "direction (0,0,-1) unless given"
abbrev down : Vec3 → Float → Ray
down origin reach = ray origin (vec zero zero minus_one) reach

-- a ray's hits from a near distance on
abbrev from : Float → Ray → Ray
from distance r = record { origin = r.origin; direction = r.direction; max_distance = r.max_distance; near = distance }

abbrev corners : Vec3 → Vec3 → Vec3 → List Vec3
corners a b c = a ∷ (b ∷ (c ∷ []))

-- "Plane normal (0,0,1), distance 0"
abbrev ground : Plane
ground = record { normal = vec zero zero one; distance = zero }

-- "T is (0,0,0),(1,0,0),(0,1,0)"
abbrev unit : List Vec3
unit = corners (vec zero zero zero) (vec one zero zero) (vec zero one zero)

-- T as often as said, as a mesh
unfoldable pub repeated : ℕ → List ℕ → List ℕ
repeated Nat.zero xs = []
repeated (Nat.suc k) xs = xs ++ repeated k xs

abbrev mesh_of : ℕ → Mesh
mesh_of k = record {
  vertices = zero ∷ (zero ∷ (zero ∷ (one ∷ (zero ∷ (zero ∷ (zero ∷ (one ∷ (zero ∷ []))))))));
  triangles = repeated k (0 ∷ (1 ∷ (2 ∷ [])));
}

-- "heights 2 by 2 of zero, spacing 1"
abbrev flat_field : Field
flat_field = record { rows = 2; columns = 2; spacing_x = one; spacing_y = one }

-- "distances 2 by 2 by 2 of zero, grid origin 0, spacing 1"
abbrev zero_grid : Grid
zero_grid = record { sides = record { x = 2; y = 2; z = 2 }; origin = vec zero zero zero; spacing = vec one one one }

-- three layers of distances, 1 apart
abbrev layers : Grid
layers = record { sides = record { x = 2; y = 2; z = 3 }; origin = vec zero zero zero; spacing = vec one one one }

abbrev layered : List Float
layered = replicate 4 one ++ (replicate 4 minus_one ++ replicate 4 one)

-- a hit at a distance
abbrev hit_at : Float → Outcome → Bool
hit_at d = a_hit (λ distance i. eq distance d)

-- a case with what is said of it
pub record Entry : Type 0 where
  pub asked : Case
  pub said : Outcome → Bool

abbrev entry : Case → (Outcome → Bool) → Entry
entry asked said = record { asked = asked; said = said }

-- ---- document 01's marked answers, by their names

abbrev pub k1 : Entry
k1 = entry (at_plane ground (down (vec zero zero two) two)) (hit_at two)

abbrev pub k2 : Entry
k2 = entry (at_plane ground (down (vec zero zero two) one)) a_none

abbrev pub k3 : Entry
k3 = entry (at_plane ground (ray (vec zero zero two) (vec one zero zero) two)) a_none

abbrev pub k4 : Entry
k4 = entry (at_triangle unit (down (vec quarter quarter one) one)) (hit_at one)

abbrev pub k5 : Entry
k5 = entry (at_triangle unit (down (vec half half one) one)) (a_hit (λ d i. true))

abbrev pub k6 : Entry
k6 = entry (at_triangle unit (down (vec three_quarters half one) one)) a_none

-- a hit since M-104
abbrev pub k7 : Entry
k7 =
    entry (at_triangle (corners (vec zero zero zero) (vec vast zero zero) (vec zero one zero)) (down (vec quarter_vast quarter one) ten))
    (hit_at one)

-- refused since M-102
abbrev pub k8 : Entry
k8 =
    entry (at_triangle (corners (vec zero zero zero) (vec vast vast zero) (vec zero tiny zero)) (down (vec half_vast half_vast one) ten))
    (a_refusal 6)

abbrev pub k9 : Entry
k9 = entry (at_mesh (mesh_of 2) (down (vec quarter quarter one) one)) (a_hit (λ d i. eqb i 0))

abbrev pub k10 : Entry
k10 = entry (build_of_mesh (mesh_of 0)) (a_refusal 5)

abbrev pub k11_four : Entry
k11_four = entry (build_of_mesh (mesh_of 4)) (a_number 1)

abbrev pub k11_five : Entry
k11_five = entry (build_of_mesh (mesh_of 5)) (a_number 3)

abbrev pub k12 : Entry
k12 = entry (at_heights flat_field (replicate 4 zero) (down (vec three_quarters quarter one) two)) (hit_at one)

abbrev pub k13 : Entry
k13 = entry (at_distances zero_grid (replicate 8 zero) (down (vec half half two) five)) (a_refusal 8)

abbrev pub k14 : Entry
k14 = entry (root_at two) (a_number 0x3ff6_a09e_667f_3bcd)

abbrev pub k15 : Entry
k15 = entry (round_at minus_two_and_half) (a_number 0xc008_0000_0000_0000)

-- ---- M-106, worked out by hand: hits count from a near distance on

-- K1's ray, whose distance is near and the maximum at once
abbrev pub near_kept : Entry
near_kept = entry (at_plane ground (from two (down (vec zero zero two) two))) (hit_at two)

-- K4's triangle lies 1 away, nearer than near
abbrev pub near_passed : Entry
near_passed = entry (at_triangle unit (from two (down (vec quarter quarter one) five))) a_none

-- near lies past the maximum
abbrev pub near_past_maximum : Entry
near_past_maximum = entry (at_plane ground (from two (down (vec zero zero two) one))) (a_refusal 1)

-- distances 1, -1, 1 in layers at 0, 1, 2: the ray from 3 passes the surface at 1.5, before near, and again at 2.5
abbrev pub near_second : Entry
near_second = entry (at_distances layers layered (from two (down (vec half half three) five))) (hit_at two_and_half)

unfoldable pub table : List Entry
table =
    k1 ∷ k2 ∷ k3 ∷ k4 ∷ k5 ∷ k6 ∷ k7 ∷ k8 ∷ k9 ∷ k10 ∷ k11_four ∷ k11_five ∷ k12 ∷ k13 ∷ k14 ∷ k15
    ∷ near_kept ∷ near_passed ∷ near_past_maximum ∷ near_second ∷ []

-- whether the definitions give what is said of an entry, and of all of them
unfoldable pub right : Entry → Bool
right e = e.said (outcome e.asked)

unfoldable pub all_right : List Entry → Bool
all_right [] = true
all_right (e ∷ rest) = right e && all_right rest
