-- The triangles' boxes written one after another. Assumes nothing.
use mathlib.Core.Path.{◌≡◌, refl, sym, ap, ◌∙◌}
use mathlib.Core.List.{List, [], ◌∷◌, ◌++◌, append-nil, append_assoc}
use Prim.Native.Nat.{ℕ, ◌+◌, ◌*◌}
use native.Mathlib.Nat.{zero-add}
use native.Mathlib.Omega.{arith}
use lib.Ieee.{Float}
use lib.ListN.{length}
use lib.Seq.{sets}
use Rattle.geometry.specs.declared.aabb.Aabb.{Aabb}
use Rattle.lists.specs.Lists.{range}
use Rattle.lists.proofs.Runs.{sets_append, range_next}
use Rattle.lists.proofs.CountLaws.{length_range}
use Rattle.tree.specs.Layout.{box_numbers}
use Rattle.tree.specs.Mesh.{each_box}

module _ (box : ℕ → Aabb) where
  each_box_append : (xs ys : List ℕ) → each_box box (xs ++ ys) ≡ each_box box xs ++ each_box box ys
  unfolding each_box
  each_box_append [] ys = refl
  each_box_append (x ∷ xs) ys = ap (λ (z : List Float). box_numbers (box x) ++ z) (each_box_append xs ys) ∙ sym
      (append_assoc (box_numbers (box x)) (each_box box xs) (each_box box ys))

  each_box_one : (t : ℕ) → each_box box (t ∷ []) ≡ box_numbers (box t)
  unfolding each_box
  each_box_one t = append-nil (box_numbers (box t))

  pub length_each_box : (ts : List ℕ) → length (each_box box ts) ≡ 6 * length ts
  unfolding each_box box_numbers
  length_each_box [] = refl
  length_each_box (t ∷ ts) = omega (arith, length_each_box ts)

  pub box_stored : (area : List Float) (i : ℕ) → sets (sets area 0 (each_box box (range 0 i))) (6 * i) (box_numbers (box i)) ≡ sets area 0
      (each_box box (range 0 (i + 1)))
  box_stored area i =
      let so_far = each_box box (range 0 i) in
      let e : 6 * i ≡ 0 + length so_far = omega (arith, length_each_box (range 0 i), length_range 0 i) in
      ap (λ (k : ℕ). sets (sets area 0 so_far) k (box_numbers (box i))) e
      ∙ sym (sets_append area 0 so_far (box_numbers (box i)))
      ∙ ap (λ (z : List Float). sets area 0 (so_far ++ z)) (sym (each_box_one i))
      ∙ ap (sets area 0) (sym (each_box_append (range 0 i) (i ∷ [])))
      ∙ ap (λ (z : List ℕ). sets area 0 (each_box box z)) (ap (λ (k : ℕ). range 0 i ++ (k ∷ [])) (sym (zero-add i)) ∙ range_next 0 i)
