-- Copying one number, word or node after another: one more store adds one more to the run. Assumes nothing.
use Prim.Native.Nat.{ℕ, ◌+◌, ◌*◌, ◌<◌}
use native.Mathlib.Nat.{zero-add, add-zero}
use native.Mathlib.Numerals.{add-one}
use mathlib.Core.Path.{◌≡◌, sym, ap, ◌∙◌}
use mathlib.Core.List.{List, [], ◌∷◌, ◌++◌, append-nil}
use native.Mathlib.Omega.{arith}
use lib.ListN.{length, get_or, set, take}
use borrow.Author.Tests.{ne_eqb}
use lib.Seq.{sets, take-suc, length-take-le}
use Rattle.lists.specs.Lists.{range, flat_map}
use Rattle.tree.specs.Layout.{word_at, kind_at, first_at, second_at}
use Rattle.lists.proofs.CountLaws.{flat_map_append}
use Rattle.lists.proofs.Runs.{sets_append}
use Rattle.tree_copy.specs.Moved.{moved_up, moved_node, moved_nodes}
use Rattle.tree_copy.proofs.MovedLists.{length_moved, moved_append, range_split, length_nodes}

module _ {A : Type 0} where
  pub run_next : (l xs ys : List A) (place i : ℕ) → length xs ≡ i → sets (sets l place xs) (place + i) ys ≡ sets l place (xs ++ ys)
  run_next l xs ys place i e = ap (λ (k : ℕ). sets (sets l place xs) (place + k) ys) (sym e) ∙ sym (sets_append l place xs ys)

  pub copied_next : (l from : List A) (place i : ℕ) (d : A) → i < length from
      → set (sets l place (take i from)) (place + i) (get_or from i d) ≡ sets l place (take (i + 1) from)
  copied_next l from place i d b =
      run_next l (take i from) (get_or from i d ∷ []) place i (length-take-le i from (omega arith))
      ∙ ap (sets l place) (sym (take-suc from i d b)) ∙ ap (λ (k : ℕ). sets l place (take k from)) (sym (add-one i))

pub moved_next : (l from : List ℕ) (place i up : ℕ) → i < length from
    → set (sets l place (moved_up up (take i from))) (place + i) (word_at from i + up) ≡ sets l place (moved_up up (take (i + 1) from))
unfolding moved_up
moved_next l from place i up b =
    run_next l (moved_up up (take i from)) ((word_at from i + up) ∷ []) place i
    (length_moved up (take i from) ∙ length-take-le i from (omega arith))
    ∙ ap (sets l place) (sym (moved_append up (take i from) (word_at from i ∷ [])))
    ∙ ap (λ (r : List ℕ). sets l place (moved_up up r)) (sym (take-suc from i 0 b))
    ∙ ap (λ (k : ℕ). sets l place (moved_up up (take k from))) (sym (add-one i))

pub nodes_next : (l words : List ℕ) (place nodes places i : ℕ)
    → sets (sets l place (moved_nodes nodes places words i)) (place + 3 * i) (moved_node nodes places words i)
    ≡ sets l place (moved_nodes nodes places words (i + 1))
nodes_next l words place nodes places i =
    run_next l (moved_nodes nodes places words i) (moved_node nodes places words i) place (3 * i) (length_nodes nodes places words i)
    ∙ ap (sets l place) (sym whole)
  where
    whole : moved_nodes nodes places words (i + 1) ≡ moved_nodes nodes places words i ++ moved_node nodes places words i
    whole = unfold moved_nodes range flat_map in
        ap (flat_map (moved_node nodes places words)) (range_split 0 i 1)
        ∙ flat_map_append (moved_node nodes places words) (range 0 i) (range (0 + i) 1)
        ∙ ap (λ (k : ℕ). flat_map (moved_node nodes places words) (range 0 i) ++ (moved_node nodes places words k ++ [])) (zero-add i)
        ∙ ap (λ (r : List ℕ). flat_map (moved_node nodes places words) (range 0 i) ++ r) (append-nil (moved_node nodes places words i))

-- a leaf's words and a branch's
pub leaf_words : (words : List ℕ) (nodes places node first second : ℕ) → kind_at words node ≡ 0 → first ≡ first_at words node
    → second ≡ second_at words node
    → kind_at words node ∷ ((first + places) ∷ (second ∷ [])) ≡ moved_node nodes places words node
unfolding moved_node
leaf_words words nodes places node first second e f g = simp (e, f, g, add-zero (second_at words node))

pub branch_words : (words : List ℕ) (nodes places node first second : ℕ) → (kind_at words node ≡ 0 → ⊥) → first ≡ first_at words node
    → second ≡ second_at words node
    → kind_at words node ∷ ((first + nodes) ∷ ((second + nodes) ∷ [])) ≡ moved_node nodes places words node
unfolding moved_node
branch_words words nodes places node first second e f g = simp (ne_eqb (kind_at words node) 0 e, f, g)
