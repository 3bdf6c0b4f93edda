-- The walk cell by cell: what is left of it gives the whole. Assumes nothing.
use mathlib.Core.Path.{◌≡◌, sym, ap, ◌∙◌}
use mathlib.Core.List.{List}
use Prim.Native.Nat.{ℕ, zero, suc, ◌+◌, ◌≤◌}
use native.Mathlib.Omega.{arith}
use lib.Ieee.{Float}
use Rattle.geometry.specs.declared.ray.Ray.{Ray}
use Rattle.casts.specs.Answer.{Answer, refused, not_convergent}
use Rattle.level_set.specs.Walk.{CellResult, follow, walk_step, walk_from}
use Rattle.distance_grid.specs.declared.grid.Grid.{Grid}

module _ (r : Ray) (g : Grid) (values : List Float) (exit : Float) where
  one_cell : (n m : ℕ) (current : Float) → m + 1 ≡ n
      → walk_from r g values exit n current ≡ follow (walk_step r g values current exit)
      (λ (next : Float). walk_from r g values exit m next)
  unfolding walk_from
  one_cell zero m current l = absurd (omega arith)
  one_cell (suc n) m current l =
      let e : n ≡ m = omega arith in
      ap (λ (k : ℕ). follow (walk_step r g values current exit) (λ (next : Float). walk_from r g values exit k next)) e

  -- what a cell gives, followed by the walk over the cells that are left, gives the whole
  pub walk_on : (n m : ℕ) (current : Float) (given : CellResult) (whole : Answer) → walk_from r g values exit n current ≡ whole → m + 1 ≡ n
      → given ≡ walk_step r g values current exit → follow given (λ (next : Float). walk_from r g values exit m next) ≡ whole
  walk_on n m current given whole i l e =
      ap (λ (t : CellResult). follow t (λ (next : Float). walk_from r g values exit m next)) e ∙ sym (one_cell n m current l) ∙ i

  pub walk_out : (n : ℕ) (current : Float) (whole : Answer) → walk_from r g values exit n current ≡ whole → n ≤ 0 → refused not_convergent ≡
      whole
  unfolding walk_from
  walk_out zero current whole i l = i
  walk_out (suc n) current whole i l = absurd (omega arith)
