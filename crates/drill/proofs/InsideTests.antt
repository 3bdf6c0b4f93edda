-- What the tests of the axis and of the caps come to, one law for each place where the code answers. Assumes nothing.
use mathlib.Core.Path.{◌≡◌, refl, ◌∙◌}
use mathlib.Core.Bool.{Bool, true, false, ◌&&◌}
use Prim.Native.Nat.{ℕ, ◌*◌}
use lib.IntN.{ℤ, pos, ◌-ℤ◌, ◌*ℤ◌}
use lib.Signed.{lt_z, le_z}
use Rattle.exact_depth.specs.declared.projection.Point.{Point}
use Rattle.exact_triangle.specs.Line.{parts}
use Rattle.drill.specs.Drill.{dot, square}
use Rattle.drill.specs.Decision.{cap_in}
use Rattle.drill.specs.Code.{between}
use Rattle.drill.proofs.Laws.{and_off, and_on}

module _ (s f : Point) where
  pub between_first : le_z (pos 0) (s.y *ℤ f.z -ℤ s.z *ℤ f.y) ≡ false → false ≡ between s f
  unfolding between
  between_first h =
      and_off (le_z (pos 0) (s.z *ℤ f.x -ℤ s.x *ℤ f.z) && le_z (pos 0) (s.x *ℤ f.y -ℤ s.y *ℤ f.x)) h

  pub between_second : le_z (pos 0) (s.y *ℤ f.z -ℤ s.z *ℤ f.y) ≡ true → le_z (pos 0) (s.z *ℤ f.x -ℤ s.x *ℤ f.z) ≡ false
      → false ≡ between s f
  unfolding between
  between_second h₁ h = and_on h₁ (and_off (le_z (pos 0) (s.x *ℤ f.y -ℤ s.y *ℤ f.x)) h)

  pub between_is : {r : Bool} → le_z (pos 0) (s.y *ℤ f.z -ℤ s.z *ℤ f.y) ≡ true
      → le_z (pos 0) (s.z *ℤ f.x -ℤ s.x *ℤ f.z) ≡ true → r ≡ le_z (pos 0) (s.x *ℤ f.y -ℤ s.y *ℤ f.x) → r ≡ between s f
  unfolding between
  between_is h₁ h₂ e = and_on h₁ (and_on h₂ e)

nested : (p q r s : Bool) → ((p && (q && r)) && s) ≡ (p && (q && (r && s)))
nested true true r s = refl
nested true false r s = refl
nested false q r s = refl

module _ (ρ : ℕ) (d g : Point) (κ : ℤ) (a b c : Point) (fa fb fc : ℤ) where
  abbrev steps : Point
  steps = record { x = dot a g; y = dot b g; z = dot c g }

  abbrev far : Point
  far = record { x = fa; y = fb; z = fc }

  abbrev near : Bool
  near = lt_z (pos 0) (square g) && le_z (κ *ℤ κ *ℤ square d) (pos (ρ * ρ) *ℤ (pos parts *ℤ pos parts) *ℤ square g)

  as_cap : (between steps far && near) ≡ cap_in ρ d g κ a b c fa fb fc
  unfolding between cap_in
  as_cap =
      nested (le_z (pos 0) (dot b g *ℤ fc -ℤ dot c g *ℤ fb)) (le_z (pos 0) (dot c g *ℤ fa -ℤ dot a g *ℤ fc))
      (le_z (pos 0) (dot a g *ℤ fb -ℤ dot b g *ℤ fa)) near

  pub cap_off : between (record { x = dot a g; y = dot b g; z = dot c g }) (record { x = fa; y = fb; z = fc }) ≡ false
      → false ≡ cap_in ρ d g κ a b c fa fb fc
  cap_off h = and_off near h ∙ as_cap

  pub cap_is : {r : Bool} → between (record { x = dot a g; y = dot b g; z = dot c g }) (record { x = fa; y = fb; z = fc }) ≡ true
      → r ≡ (lt_z (pos 0) (square g) && le_z (κ *ℤ κ *ℤ square d) (pos (ρ * ρ) *ℤ (pos parts *ℤ pos parts) *ℤ square g))
      → r ≡ cap_in ρ d g κ a b c fa fb fc
  cap_is h e = and_on h e ∙ as_cap
