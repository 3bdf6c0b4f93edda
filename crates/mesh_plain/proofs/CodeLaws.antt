-- A triangle's box touches where its vertices' codes have no digit in common, and the codes are written one after another. Assumes nothing.
use Prim.Native.Nat.{ℕ, zero, suc, ◌+◌, ◌*◌, ◌<◌, ◌≤◌}
use mathlib.Core.Path.{◌≡◌, refl, sym, ap, ap₂, ◌∙◌}
use mathlib.Core.Bool.{Bool, true, false, ◌&&◌, ◌||◌, not}
use mathlib.Core.List.{List}
use mathlib.Core.Logic.{◌⊎◌, inl, inr}
use native.Mathlib.Omega.{arith}
use borrow.Author.Tests.{ne_eqb}
use lib.Bits.{bit_and, and_block, and_lt}
use lib.Dec.{eqb}
use lib.Ieee.{Float, le}
use lib.ListN.{length, set, length-set}
use lib.Seq.{get_or-set_same, get_or-set_other}
use Rattle.geometry.specs.Box.{corners_box, corner, touches}
use Rattle.vectors.specs.declared.vec3.Vec3.{Vec3}
use Rattle.geometry.specs.declared.aabb.Aabb.{Aabb}
use Rattle.lists.proofs.CountLaws.{same_or_other}
use Rattle.tree.specs.Layout.{vector_at, word_at}
use Rattle.tree.specs.Mesh.{thirds, corner_index, corners_inside, corner_at, corners_of}
use Rattle.tree.proofs.Corners.{first_fits, second_fits, third_fits_lem}
use Rattle.mesh_plain.specs.Boxes.{bit, side_code, code_of, Coded, side_touches}
use Rattle.mesh_plain.proofs.BoxTests.{by_axes}

-- ---- digits
bit_below : (b : Bool) → bit b < 2
bit_below true = omega arith
bit_below false = omega arith

and_bits : (p q : Bool) → bit_and (bit p) (bit q) ≡ bit (p && q)
and_bits true true = refl
and_bits true false = refl
and_bits false q = refl

-- the digits of one axis
abbrev pair : Bool → Bool → ℕ
pair p q = bit p * 2 + bit q

pair_below : (p q : Bool) → pair p q < 4
pair_below p q = omega (arith, bit_below p, bit_below q)

and_pairs : (p q s t : Bool) → bit_and (pair p q) (pair s t) ≡ pair (p && s) (q && t)
and_pairs p q s t =
    and_block 1 (bit p) (bit s) (bit q) (bit t) (bit_below q) (bit_below t)
    ∙ ap₂ (λ (m n : ℕ). m * 2 + n) (and_bits p s) (and_bits q t)

no_pair : (p q : Bool) → eqb (pair p q) 0 ≡ (not p && not q)
no_pair true true = refl
no_pair true false = refl
no_pair false true = refl
no_pair false false = refl

-- the digits of three axes
abbrev packed : ℕ → ℕ → ℕ → ℕ
packed x y z = (z * 4 + y) * 4 + x

and_packed : (x y z u v w : ℕ) → x < 4 → y < 4 → u < 4 → v < 4
    → bit_and (packed x y z) (packed u v w) ≡ packed (bit_and x u) (bit_and y v) (bit_and z w)
and_packed x y z u v w a b c d =
    and_block 2 (z * 4 + y) (w * 4 + v) x u a c ∙ ap (λ (k : ℕ). k * 4 + bit_and x u) (and_block 2 z w y v b d)

none_packed : (x y z : ℕ) → eqb (packed x y z) 0 ≡ (eqb x 0 && (eqb y 0 && eqb z 0))
none_packed zero zero zero = refl
none_packed zero zero (suc z) = ne_eqb (packed 0 0 (suc z)) 0 (λ e. omega (arith, e)) ∙ sym (ne_eqb (suc z) 0 (λ e. omega (arith, e)))
none_packed zero (suc y) z =
    ne_eqb (packed 0 (suc y) z) 0 (λ e. omega (arith, e)) ∙ sym (ap (λ (b : Bool). b && eqb z 0) (ne_eqb (suc y) 0 (λ e. omega (arith, e))))
none_packed (suc x) y z =
    ne_eqb (packed (suc x) y z) 0 (λ e. omega (arith, e))
    ∙ sym (ap (λ (b : Bool). b && (eqb y 0 && eqb z 0)) (ne_eqb (suc x) 0 (λ e. omega (arith, e))))

-- ---- one axis
one_of_three : (a b c : Bool) → not ((not a && not b) && not c) ≡ ((a || b) || c)
one_of_three true b c = refl
one_of_three false true c = refl
one_of_three false false true = refl
one_of_three false false false = refl

module _ (a b c from to : Float) where
  -- the digits that all three have
  abbrev behind : Bool
  behind = (not (le a to) && not (le b to)) && not (le c to)

  abbrev before : Bool
  before = (not (le from a) && not (le from b)) && not (le from c)

  pub side_shared : bit_and (bit_and (side_code a from to) (side_code b from to)) (side_code c from to) ≡ pair behind before
  side_shared =
      ap (λ (k : ℕ). bit_and k (side_code c from to)) (and_pairs (not (le a to)) (not (le from a)) (not (le b to)) (not (le from b)))
      ∙ and_pairs (not (le a to) && not (le b to)) (not (le from a) && not (le from b)) (not (le c to)) (not (le from c))

  pub side_told : eqb (pair behind before) 0 ≡ side_touches a b c from to
  side_told =
      no_pair behind before
      ∙ ap₂ ◌&&◌ (one_of_three (le a to) (le b to) (le c to)) (one_of_three (le from a) (le from b) (le from c))

-- ---- all three
pub small : (x from to : Float) → side_code x from to < 4
small x from to = pair_below (not (le x to)) (not (le from x))

module _ (vs : List Vec3) (box : Aabb) where
  abbrev a : Vec3
  a = corner vs 0

  abbrev b : Vec3
  b = corner vs 1

  abbrev c : Vec3
  c = corner vs 2

  abbrev on_x_lem : Float → ℕ
  on_x_lem x = side_code x box.min.x box.max.x

  abbrev on_y_lem : Float → ℕ
  on_y_lem y = side_code y box.min.y box.max.y

  abbrev on_z_lem : Float → ℕ
  on_z_lem z = side_code z box.min.z box.max.z

  small_x : (x : Float) → on_x_lem x < 4
  small_x x = small x box.min.x box.max.x

  small_y : (y : Float) → on_y_lem y < 4
  small_y y = small y box.min.y box.max.y

  abbrev shared_x : ℕ
  shared_x = bit_and (bit_and (on_x_lem a.x) (on_x_lem b.x)) (on_x_lem c.x)

  abbrev shared_y : ℕ
  shared_y = bit_and (bit_and (on_y_lem a.y) (on_y_lem b.y)) (on_y_lem c.y)

  abbrev shared_z : ℕ
  shared_z = bit_and (bit_and (on_z_lem a.z) (on_z_lem b.z)) (on_z_lem c.z)

  codes_shared : bit_and (bit_and (code_of box a) (code_of box b)) (code_of box c) ≡ packed shared_x shared_y shared_z
  unfolding code_of
  codes_shared =
      ap (λ (k : ℕ). bit_and k (packed (on_x_lem c.x) (on_y_lem c.y) (on_z_lem c.z)))
      (and_packed (on_x_lem a.x) (on_y_lem a.y) (on_z_lem a.z) (on_x_lem b.x) (on_y_lem b.y) (on_z_lem b.z) (small_x a.x) (small_y a.y)
      (small_x b.x) (small_y b.y))
      ∙ and_packed (bit_and (on_x_lem a.x) (on_x_lem b.x)) (bit_and (on_y_lem a.y) (on_y_lem b.y)) (bit_and (on_z_lem a.z) (on_z_lem b.z))
      (on_x_lem c.x) (on_y_lem c.y) (on_z_lem c.z)
      (and_lt 2 (on_x_lem a.x) (on_x_lem b.x) (small_x a.x) (small_x b.x))
      (and_lt 2 (on_y_lem a.y) (on_y_lem b.y) (small_y a.y) (small_y b.y))
      (small_x c.x) (small_y c.y)

  told_on : (x y z from to : Float)
      → eqb (bit_and (bit_and (side_code x from to) (side_code y from to)) (side_code z from to)) 0 ≡ side_touches x y z from to
  told_on x y z from to = ap (λ (k : ℕ). eqb k 0) (side_shared x y z from to) ∙ side_told x y z from to

  pub codes_touch : eqb (bit_and (bit_and (code_of box a) (code_of box b)) (code_of box c)) 0 ≡ touches (corners_box vs) box
  codes_touch =
      ap (λ (k : ℕ). eqb k 0) codes_shared ∙ none_packed shared_x shared_y shared_z
      ∙ ap₂ ◌&&◌ (told_on a.x b.x c.x box.min.x box.max.x)
      (ap₂ ◌&&◌ (told_on a.y b.y c.y box.min.y box.max.y) (told_on a.z b.z c.z box.min.z box.max.z))
      ∙ by_axes vs box

-- ---- the codes of a triangle's vertices
module _ (box : Aabb) (vertices : List Float) (triangles codes : List ℕ) (index : ℕ) (coded : Coded box vertices codes)
    (inside : corners_inside (thirds (length vertices)) triangles index ≡ true) where
  abbrev vertex : ℕ → ℕ
  vertex k = corner_index triangles index k

  -- the first by its place
  pub first_vertex : word_at triangles (3 * index) ≡ vertex 0
  first_vertex = ap (word_at triangles) (omega arith)

  below : (v : ℕ) → 3 * v + 3 ≤ length vertices → v < thirds (length vertices)
  below v h = omega (arith, h)

  abbrev first_below : vertex 0 < thirds (length vertices)
  first_below = below (vertex 0) (first_fits triangles index (length vertices) inside)

  abbrev second_below : vertex 1 < thirds (length vertices)
  second_below = below (vertex 1) (second_fits triangles index (length vertices) inside)

  abbrev third_below : vertex 2 < thirds (length vertices)
  third_below = below (vertex 2) (third_fits_lem triangles index (length vertices) inside)

  pub first_placed : vertex 0 < length codes
  first_placed = omega (arith, first_below, coded.within)

  pub second_placed : vertex 1 < length codes
  second_placed = omega (arith, second_below, coded.within)

  pub third_placed : vertex 2 < length codes
  third_placed = omega (arith, third_below, coded.within)

  pub placed_touch : eqb (bit_and (bit_and (word_at codes (vertex 0)) (word_at codes (vertex 1))) (word_at codes (vertex 2))) 0
      ≡ touches (corners_box (corners_of vertices triangles index)) box
  unfolding corners_of corner_at
  placed_touch =
      simp (coded.each (vertex 0) first_below, coded.each (vertex 1) second_below, coded.each (vertex 2) third_below)
      (codes_touch (corners_of vertices triangles index) box)

-- ---- the codes written one after another
module _ (box : Aabb) (xs : List Float) (codes₀ : List ℕ) where
  pub record Coding (codes : List ℕ) (i : ℕ) : Type 0 where
    pub within : i ≤ thirds (length xs)
    pub long : length codes ≡ length codes₀
    pub each : (j : ℕ) → j < i → word_at codes j ≡ code_of box (vector_at xs (3 * j))

  pub coding_begins : Coding codes₀ 0
  coding_begins = record { within = omega arith; long = refl; each = λ j k. absurd (omega (arith, k)) }

  module _ (codes : List ℕ) (i : ℕ) (g : Coding codes i) where
    pub coding_goes : i < thirds (length xs) → i < length codes → (v : Vec3) → v ≡ vector_at xs (3 * i) → (n : ℕ) → n ≡ code_of box v
        → Coding (set codes i n) (i + 1)
    coding_goes h room v e n f = record {
      within = omega arith;
      long = length-set codes i n ∙ g.long;
      each = λ j k. go j k (same_or_other j i);
    }
      where
        go : (j : ℕ) → j < i + 1 → (j ≡ i) ⊎ (j ≡ i → ⊥) → word_at (set codes i n) j ≡ code_of box (vector_at xs (3 * j))
        go j k (inl q) = rw q (get_or-set_same codes i n 0 room ∙ f ∙ ap (code_of box) e)
        go j k (inr q) = get_or-set_other codes i j n 0 q ∙ g.each j (omega (arith, k, q))

    pub coding_ends : thirds (length xs) ≤ i → thirds (length xs) ≤ length codes₀ → Coded box xs codes
    coding_ends h room = record { within = omega (arith, room, g.long); each = λ j k. g.each j (omega (arith, k, h)) }
