-- The test of a mesh's corners says that they are numbers. Assumes nothing.
use Prim.Native.Nat.{ℕ, zero, suc, ◌-◌, ◌<◌}
use mathlib.Core.Path.{◌≡◌, sym, ap, ◌∙◌}
use mathlib.Core.Bool.{Bool, true, false, not, ◌&&◌}
use native.Mathlib.Omega.{arith}
use lib.Ieee.{is_nan}
use lib.ListN.{length}
use borrow.Author.Tests.{not-true}
use Rattle.lists.specs.Lists.{range, every}
use Rattle.lists.proofs.JoinedTests.{and_first, and_second}
use Rattle.lists.proofs.EveryLaws.{every_at}
use Rattle.vectors.specs.declared.vec3.Vec3.{Vec3}
use Rattle.tree.specs.Mesh.{Mesh, thirds, triangle_count, corner_at, corners_inside}
use Rattle.tree_exact.specs.Numbers.{Numbered, NoNaN, numbers_in, corners_numbered, has_numbers}

numbered : (v : Vec3) → numbers_in v ≡ true → Numbered v
numbered v h =
    let p = not (is_nan v.x) in
    let q = not (is_nan v.y) in
    let r = not (is_nan v.z) in
    let rest = and_second p (q && r) h in
    record {
      x = not-true (is_nan v.x) (and_first p (q && r) h);
      y = not-true (is_nan v.y) (and_first q r rest);
      z = not-true (is_nan v.z) (and_second q r rest);
    }

module _ (m : Mesh) (x : ℕ) where
  abbrev inside : Bool
  inside = corners_inside (thirds (length m.vertices)) m.triangles x

  abbrev at : ℕ → Bool
  at k = numbers_in (corner_at m.vertices m.triangles x k)

  each_numbered : corners_numbered m x ≡ true → (k : ℕ) → k < 3 → at k ≡ true
  unfolding corners_numbered
  each_numbered h zero l = and_first (at 0) (at 1 && at 2) (and_second inside _ h)
  each_numbered h (suc zero) l = and_first (at 1) (at 2) (and_second (at 0) (at 1 && at 2) (and_second inside _ h))
  each_numbered h (suc (suc zero)) l = and_second (at 1) (at 2) (and_second (at 0) (at 1 && at 2) (and_second inside _ h))
  each_numbered h (suc (suc (suc k))) l = absurd (omega (arith, l))

  -- ---- the steps of the code's test
  pub outside_fails : inside ≡ false → false ≡ corners_numbered m x
  unfolding corners_numbered
  outside_fails h = sym (ap (λ (b : Bool). b && (at 0 && (at 1 && at 2))) h)

  module _ (h : inside ≡ true) where
    here : (b : Bool) → b ≡ (at 0 && (at 1 && at 2)) → b ≡ corners_numbered m x
    unfolding corners_numbered
    here b e = e ∙ sym (ap (λ (b : Bool). b && (at 0 && (at 1 && at 2))) h)

    pub first_fails : at 0 ≡ false → false ≡ corners_numbered m x
    first_fails e = here false (sym (ap (λ (b : Bool). b && (at 1 && at 2)) e))

    module _ (f : at 0 ≡ true) where
      pub second_fails : at 1 ≡ false → false ≡ corners_numbered m x
      second_fails e = here false (sym (λ i. f i && (e i && at 2)))

      pub third_tells : at 1 ≡ true → (b : Bool) → b ≡ at 2 → b ≡ corners_numbered m x
      third_tells g b e = here b (e ∙ sym (λ i. f i && (g i && at 2)))

-- what a yes says
pub yes_numbers : (m : Mesh) → has_numbers m ≡ true → NoNaN m
unfolding has_numbers
yes_numbers m h x k below few =
    numbered (corner_at m.vertices m.triangles x k)
    (each_numbered m x (every_at (corners_numbered m) 0 (triangle_count m) x h (omega arith) (omega (arith, below))) k few)

pub both_clauses : (m : Mesh) (b : Bool) → b ≡ has_numbers m → (b ≡ has_numbers m) × (b ≡ true → NoNaN m)
both_clauses m b e = (e, λ h. yes_numbers m (sym e ∙ h))

-- ---- the loop
pub record NumbersSoFar (m : Mesh) (i : ℕ) : Type 0 where
  pub rest : every (corners_numbered m) (range i (triangle_count m - i)) ≡ has_numbers m
