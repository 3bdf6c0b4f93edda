-- One more area beside a tree's: all are long enough where the tree's are, and it is. Assumes nothing.
use mathlib.Core.Path.{◌≡◌, refl, sym, ap, ◌∙◌}
use mathlib.Core.Bool.{Bool, true, false, ◌&&◌}
use mathlib.Core.List.{List, [], ◌∷◌, ◌++◌}
use Prim.Native.Nat.{ℕ, ◌*◌}
use lib.Dec.{leb}
use Rattle.tree.specs.Layout.{Lent, lent, all_long, tree_lengths}

and_assoc : (a b c : Bool) → (a && (b && c)) ≡ ((a && b) && c)
and_assoc true b c = refl
and_assoc false b c = refl

pub one_more : (first : Lent) (rest : List Lent) (s l : ℕ)
    → all_long (first ∷ (rest ++ (lent s l ∷ []))) ≡ (all_long (first ∷ rest) && leb s l)
one_more first [] s l = refl
one_more first (next ∷ rest) s l =
    ap (◌&&◌ (leb first.stated first.long)) (one_more next rest s l)
    ∙ and_assoc (leb first.stated first.long) (all_long (next ∷ rest)) (leb s l)

-- a test of the tree's lengths, failed or passed, before the one of the area more
module _ (n node_boxes triangle_boxes node_words order s l : ℕ) {told : Bool}
    (is : told ≡ all_long (tree_lengths n node_boxes triangle_boxes node_words order)) where
  abbrev both : Bool
  both = all_long (tree_lengths n node_boxes triangle_boxes node_words order ++ (lent s l ∷ []))

  joined : both ≡ (told && leb s l)
  joined =
      one_more (lent (12 * n) node_boxes) (lent (6 * n) triangle_boxes ∷ (lent (6 * n) node_words ∷ (lent n order ∷ []))) s l
      ∙ ap (λ (b : Bool). b && leb s l) (sym is)

  pub room_failed : told ≡ false → false ≡ both
  room_failed taken = sym (joined ∙ ap (λ (b : Bool). b && leb s l) taken)

  pub room_passed : told ≡ true → leb s l ≡ both
  room_passed left = sym (joined ∙ ap (λ (b : Bool). b && leb s l) left)
