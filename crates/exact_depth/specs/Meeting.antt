-- What the first point is: the points of the line that lie in the closed triangle, as fractions. Definitions only. Assumes nothing.
use Rattle.std.specs.Prelude.{Option, Some, None}
use Rattle.std.specs.Prelude.{ℕ, ◌+◌, ◌<◌, ◌≡◌, true, ℤ, pos, ◌+ℤ◌, ◌*ℤ◌}
use Rattle.std.specs.Int.Signed.{le_z}
use Rattle.exact_depth.specs.declared.projection.Projected.{Projected}
use Rattle.exact_depth.specs.declared.projection.Fraction.{Fraction}
use Rattle.exact_depth.specs.FirstPoint.{seen_determinant, area, across_point, up_point}

-- i x + j y + k z
abbrev pub mix : ℕ → ℕ → ℕ → ℤ → ℤ → ℤ → ℤ
mix i j k x y z = pos i *ℤ x +ℤ pos j *ℤ y +ℤ pos k *ℤ z

-- the line's point at the depth t / D is the corners' mean with the weights i / D, j / D and k / D, none below 0
pub record Meets (a b c : Projected) (D : ℕ) (t : ℤ) : Type 0 where
  pub i : ℕ
  pub j : ℕ
  pub k : ℕ
  pub total : i + j + k ≡ D
  pub across : mix i j k a.across b.across c.across ≡ pos 0
  pub up : mix i j k a.up b.up c.up ≡ pos 0
  pub depth : mix i j k a.depth b.depth c.depth ≡ t

-- .. and the depth is from near to far, both included
pub record On (near far : ℤ) (a b c : Projected) (D : ℕ) (t : ℤ) : Type 0 where
  pub positive : 0 < D
  pub meets : Meets a b c D t
  pub least : le_z (near *ℤ pos D) t ≡ true
  pub most : le_z t (far *ℤ pos D) ≡ true

-- the corners do not lie on one line: seen from some side they turn
abbrev pub HasArea : Projected → Projected → Projected → Type 0
HasArea a b c =
    seen_determinant b c +ℤ seen_determinant c a +ℤ seen_determinant a b ≡ pos 0 → area (across_point a) (across_point b) (across_point c)
    ≡ pos 0
    → area (up_point a) (up_point b) (up_point c) ≡ pos 0 → ⊥

-- f is the depth of such a point, and no such point lies less deep
pub record Reached (near far : ℤ) (a b c : Projected) (f : Fraction) : Type 0 where
  pub W : ℕ
  pub positive : 0 < W
  pub denominator : f.w ≡ pos W
  pub D : ℕ
  pub t : ℤ
  pub on : On near far a b c D t
  pub same : t *ℤ pos W ≡ f.t *ℤ pos D
  pub least : (D' : ℕ) (t' : ℤ) → On near far a b c D' t' → le_z (f.t *ℤ pos D') (t' *ℤ pos W) ≡ true

pub record First (near far : ℤ) (a b c : Projected) (answer : Option Fraction) : Type 0 where
  pub none : answer ≡ None → HasArea a b c → (D : ℕ) (t : ℤ) → On near far a b c D t → ⊥
  pub area : (f : Fraction) → answer ≡ Some f → HasArea a b c
  pub reached : (f : Fraction) → answer ≡ Some f → Reached near far a b c f
