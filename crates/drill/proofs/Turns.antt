-- One coordinate of what three corners' turns about an axis add up to. Assumes nothing.
use mathlib.Core.Path.{◌≡◌, refl}
use mathlib.Core.List.{List, [], ◌∷◌}
use lib.IntN.{ℤ, neg_ℤ, ◌+ℤ◌, ◌-ℤ◌, ◌*ℤ◌}
use Rattle.wide_integers.proofs.Ring.{Written, var, ◌⊕◌, ◌⊖◌, ◌⊗◌, opp, alike}
use Rattle.exact_depth.specs.declared.projection.Point.{Point}
use Rattle.drill.specs.Drill.{dot}
use Rattle.drill.specs.Decision.{cross}

pub data Coordinate : Type 0 where
  X : Coordinate
  Y : Coordinate
  Z : Coordinate

abbrev pub of : Coordinate → Point → ℤ
of X p = p.x
of Y p = p.y
of Z p = p.z

-- a point of three variables, and the products of two
record Triple : Type 0 where
  x : Written
  y : Written
  z : Written

abbrev part : Coordinate → Triple → Written
part X p = p.x
part Y p = p.y
part Z p = p.z

abbrev dots : Triple → Triple → Written
dots p q = p.x ⊗ q.x ⊕ p.y ⊗ q.y ⊕ p.z ⊗ q.z

abbrev crosses : Triple → Triple → Triple
crosses p q = record {
  x = p.y ⊗ q.z ⊖ p.z ⊗ q.y;
  y = p.z ⊗ q.x ⊖ p.x ⊗ q.z;
  z = p.x ⊗ q.y ⊖ p.y ⊗ q.x;
}

-- the five points, in this order
abbrev numbers : Point → Point → Point → Point → Point → List ℤ
numbers g p q r d =
    g.x ∷ g.y ∷ g.z ∷ p.x ∷ p.y ∷ p.z ∷ q.x ∷ q.y ∷ q.z ∷ r.x ∷ r.y ∷ r.z ∷ d.x ∷ d.y ∷ d.z ∷ []

abbrev G : Triple
G = record { x = var 0; y = var 1; z = var 2 }

abbrev P : Triple
P = record { x = var 3; y = var 4; z = var 5 }

abbrev Q : Triple
Q = record { x = var 6; y = var 7; z = var 8 }

abbrev R : Triple
R = record { x = var 9; y = var 10; z = var 11 }

abbrev D : Triple
D = record { x = var 12; y = var 13; z = var 14 }

abbrev all_turned : Coordinate → Written
all_turned k =
    (dots Q G ⊗ dots R D ⊖ dots R G ⊗ dots Q D) ⊗ part k (crosses P D) ⊕ (dots R G ⊗ dots P D ⊖ dots P G ⊗ dots R D) ⊗ part k (crosses Q D)
    ⊕ (dots P G ⊗ dots Q D ⊖ dots Q G ⊗ dots P D) ⊗ part k (crosses R D)

abbrev all_left : Coordinate → Written
all_left k = (part k D ⊗ dots G D ⊖ part k G ⊗ dots D D) ⊗ dots (crosses P Q) R

pub turn_all : (k : Coordinate) (g p q r d : Point)
    → (dot q g *ℤ dot r d -ℤ dot r g *ℤ dot q d) *ℤ of k (cross p d) +ℤ (dot r g *ℤ dot p d -ℤ dot p g *ℤ dot r d) *ℤ of k (cross q d)
    +ℤ (dot p g *ℤ dot q d -ℤ dot q g *ℤ dot p d) *ℤ of k (cross r d)
    ≡ (of k d *ℤ dot g d -ℤ of k g *ℤ dot d d) *ℤ dot (cross p q) r
turn_all X g p q r d = alike (numbers g p q r d) (all_turned X) (all_left X) refl
turn_all Y g p q r d = alike (numbers g p q r d) (all_turned Y) (all_left Y) refl
turn_all Z g p q r d = alike (numbers g p q r d) (all_turned Z) (all_left Z) refl

abbrev two_turned : Coordinate → Written
two_turned k =
    (dots Q G ⊖ dots R G) ⊗ part k (crosses P D) ⊕ (dots R G ⊖ dots P G) ⊗ part k (crosses Q D)
    ⊕ (dots P G ⊖ dots Q G) ⊗ part k (crosses R D)

abbrev two_left : Coordinate → Written
two_left k =
    opp (part k G ⊗ (dots (crosses Q R) D ⊕ dots (crosses R P) D ⊕ dots (crosses P Q) D)
    ⊖ dots G D ⊗ (part k (crosses P Q) ⊕ part k (crosses Q R) ⊕ part k (crosses R P)))

pub turn_two : (k : Coordinate) (g p q r d : Point)
    → (dot q g -ℤ dot r g) *ℤ of k (cross p d) +ℤ (dot r g -ℤ dot p g) *ℤ of k (cross q d) +ℤ (dot p g -ℤ dot q g) *ℤ of k (cross r d)
    ≡ neg_ℤ (of k g *ℤ (dot (cross q r) d +ℤ dot (cross r p) d +ℤ dot (cross p q) d)
    -ℤ dot g d *ℤ (of k (cross p q) +ℤ of k (cross q r) +ℤ of k (cross r p)))
turn_two X g p q r d = alike (numbers g p q r d) (two_turned X) (two_left X) refl
turn_two Y g p q r d = alike (numbers g p q r d) (two_turned Y) (two_left Y) refl
turn_two Z g p q r d = alike (numbers g p q r d) (two_turned Z) (two_left Z) refl
