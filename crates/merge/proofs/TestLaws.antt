-- What the merge's tests answer, told by the parts that they ask. Assumes nothing.
use Prim.Native.Nat.{ℕ, ◌+◌, ◌-◌, ◌≤◌, ◌<◌}
use mathlib.Core.Path.{◌≡◌, refl, sym, ap, ◌∙◌}
use mathlib.Core.Bool.{Bool, true, false, ◌&&◌, cond}
use native.Mathlib.Omega.{arith}
use lib.Dec.{leb}
use lib.ListN.{length}
use borrow.Author.Tests.{leb-true, leb-false, le-leb, lt-leb}
use Rattle.tree.specs.Layout.{Tree}
use Rattle.tree.specs.Mesh.{Mesh, thirds, lengths_admitted}
use Rattle.tree_check.specs.Check.{tree_passes}
use Rattle.tree_check.specs.Verdict.{Ruling, yes, no, refused, says, room_for, check_of}
use Rattle.std.specs.Result.{result_unwrap_or}
use Rattle.std.specs.Prelude.{Result, Ok, Err}
use Rattle.casts.specs.Answer.{number_of}
use Rattle.casts.specs.declared.answer.Refusal.{Refusal}

pub rest_admitted : (k v w : ℕ) → v ≤ k → leb w (k - v) ≡ leb (v + w) k
rest_admitted k v w h = go (leb w (k - v)) refl
  where
    go : (b : Bool) → leb w (k - v) ≡ b → leb w (k - v) ≡ leb (v + w) k
    go true e = let l : w ≤ k - v = leb-true w (k - v) e in e ∙ sym (le-leb (v + w) k (omega arith))
    go false e = let l : k - v < w = leb-false w (k - v) e in e ∙ sym (lt-leb (v + w) k (omega arith))

pub fourth_told : (p q r s : Bool) → p ≡ true → q ≡ true → r ≡ true → s ≡ (p && (q && (r && s)))
fourth_told p q r s e f g =
    ap (λ (b : Bool). b && s) (sym g) ∙ ap (λ (b : Bool). b && (r && s)) (sym f) ∙ ap (λ (b : Bool). b && (q && (r && s))) (sym e)

-- the check's answer tells whether the tree passes
module _ (m : Mesh) (t : Tree) (marks : ℕ) (admitted : lengths_admitted (length m.vertices) (length m.triangles) ≡ true)
    (room : room_for (thirds (length m.triangles)) (length t.node_boxes) (length t.triangle_boxes) (length t.node_words)
    (length t.order) marks ≡ true) where
  check_is : check_of m t marks ≡ cond (tree_passes m t) yes no
  unfolding check_of
  check_is = rw (admitted, room)

  told : (b : Bool) (r : Ruling) → r ≡ cond b yes no → (r ≡ yes → true ≡ b) × ((r ≡ no → false ≡ b) × ((k : ℕ) → r ≡ refused k → ⊥))
  told true r e = (
    (λ h. refl),
    (
      (λ h. let z : ◌≡◌ {A = ℕ} 0 1 = cc in absurd (omega arith)),
      λ k h. let z : ◌≡◌ {A = ℕ} 0 1 = cc in absurd
          (omega arith),
    ),
  )
  told false r e = (
    (λ h. let z : ◌≡◌ {A = ℕ} 0 1 = cc in absurd (omega arith)),
    ((λ h. refl), λ k h. let z : ◌≡◌ {A = ℕ} 0 1 = cc in absurd (omega arith)),
  )

  pub told_yes : (r : Ruling) → r ≡ check_of m t marks → r ≡ yes → true ≡ tree_passes m t
  told_yes r e = (told (tree_passes m t) r (e ∙ check_is)).0

  pub told_no : (r : Ruling) → r ≡ check_of m t marks → r ≡ no → false ≡ tree_passes m t
  told_no r e = (told (tree_passes m t) r (e ∙ check_is)).1.0

  pub not_refused : (r : Ruling) → r ≡ check_of m t marks → (k : ℕ) → r ≡ refused k → ⊥
  not_refused r e = (told (tree_passes m t) r (e ∙ check_is)).1.1

  -- the check's own answer: no where it refuses, which it does not
  pub answer_told : (v : Result Bool Refusal) → says v ≡ check_of m t marks → result_unwrap_or v false ≡ tree_passes m t
  answer_told (Ok true) e = told_yes yes e refl
  answer_told (Ok false) e = told_no no e refl
  answer_told (Err refusal) e = absurd (not_refused (refused (number_of refusal)) e (number_of refusal) refl)
