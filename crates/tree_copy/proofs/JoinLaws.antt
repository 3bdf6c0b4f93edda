-- Runs one after another from the front of an area on: two or three of them are the lists joined, over what was there. Assumes nothing.
use Prim.Native.Nat.{ℕ, ◌+◌, ◌*◌, ◌≤◌}
use native.Mathlib.Nat.{zero-add}
use mathlib.Core.Path.{◌≡◌, refl, sym, ap, ◌∙◌}
use mathlib.Core.Bool.{Bool, true, false, cond}
use mathlib.Core.List.{List, [], ◌∷◌, ◌++◌, append_assoc}
use native.Mathlib.Omega.{arith}
use lib.ListN.{length, take, length-append}
use lib.Seq.{sets, take-length}
use Rattle.geometry.specs.declared.aabb.Aabb.{Aabb}
use Rattle.tree.specs.Layout.{box_numbers}
use Rattle.lists.specs.Lists.{over}
use Rattle.lists.proofs.Runs.{sets_front}
use Rattle.tree_copy.specs.Moved.{moved_up}
use Rattle.tree_copy.proofs.CopyLaws.{run_next}

module _ {A : Type 0} where
  pub two_runs : (l xs ys : List A) (m : ℕ) → length xs ≡ m → length xs + length ys ≤ length l → sets (sets l 0 xs) m ys ≡ over (xs ++ ys) l
  two_runs l xs ys m e long =
      ap (λ (k : ℕ). sets (sets l 0 xs) k ys) (sym (zero-add m)) ∙ run_next l xs ys 0 m e
      ∙ sets_front l (xs ++ ys) (omega (arith, length-append xs ys))

  pub three_runs : (l xs ys zs : List A) (i j : ℕ) → length xs ≡ i → length xs + length ys ≡ j
      → length xs + (length ys + length zs) ≤ length l
      → sets (sets (sets l 0 xs) i ys) j zs ≡ over (xs ++ (ys ++ zs)) l
  three_runs l xs ys zs i j e f long =
      ap (λ (k : ℕ). sets (sets (sets l 0 xs) k ys) j zs) (sym (zero-add i))
      ∙ ap (λ (r : List A). sets r j zs) (run_next l xs ys 0 i e)
      ∙ two_runs l (xs ++ ys) zs j (omega (arith, length-append xs ys)) (omega (arith, length-append xs ys))
      ∙ ap (λ (r : List A). over r l) (append_assoc xs ys zs)

-- the root's lists, where there is one
pub root_box_length : (empty : Bool) (b : Aabb) → length (cond empty [] (box_numbers b)) ≡ 6 * cond empty 0 1
unfolding box_numbers
root_box_length true b = refl
root_box_length false b = refl

pub root_words_length : (empty : Bool) (x y z : ℕ) → length (cond empty [] (x ∷ (y ∷ (z ∷ [])))) ≡ 3 * cond empty 0 1
root_words_length true x y z = refl
root_words_length false x y z = refl

-- whole lists
pub whole_joined : {A : Type 0} (v w l : List A) → over (take (length v) v ++ take (length w) w) l ≡ over (v ++ w) l
whole_joined {A} v w l =
    ap (λ (x : List A). over (x ++ take (length w) w) l) (take-length v) ∙ ap (λ (x : List A). over (v ++ x) l) (take-length w)

pub whole_moved : (t u l : List ℕ) (k : ℕ) → over (take (length t) t ++ moved_up k (take (length u) u)) l ≡ over (t ++ moved_up k u) l
whole_moved t u l k =
    ap (λ (x : List ℕ). over (x ++ moved_up k (take (length u) u)) l) (take-length t)
    ∙ ap (λ (x : List ℕ). over (t ++ moved_up k x) l) (take-length u)
