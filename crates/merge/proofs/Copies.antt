-- A checked tree that stands in another one, its nodes, places and triangles moved up:
-- each of its nodes passes there what it passed before. Assumes nothing.
use Prim.Native.Nat.{ℕ, ◌+◌, ◌≤◌, ◌<◌}
use native.Mathlib.Nat.{add-zero}
use mathlib.Core.Path.{◌≡◌, refl, sym, ap, ◌∙◌, subst}
use mathlib.Core.Bool.{Bool, true, false, ◌||◌, cond}
use mathlib.Core.List.{List, [], ◌∷◌}
use native.Mathlib.Omega.{arith}
use lib.Dec.{eqb}
use borrow.Author.Tests.{eqb-true}
use Rattle.geometry.specs.Box.{valid_box, encloses}
use Rattle.geometry.specs.declared.aabb.Aabb.{Aabb}
use Rattle.lists.specs.Lists.{range, count, flat_map}
use Rattle.tree.specs.Layout.{Tree, word_at, box_at, kind_at, first_at, second_at}
use Rattle.tree.specs.Mesh.{Mesh}
use Rattle.lists.proofs.CountLaws.{count_cons, one_same, gathers, range_bounds, count_range_inside}
use Rattle.tree_check.specs.Check.{triangle_count, nodes, is_leaf, is_branch, children_of, places_of}
use Rattle.mesh.proofs.CheckedTree.{Checked, branch_children, no_children, leaf_places, no_places}
use Rattle.mesh.proofs.TreeCounts.{placed_at, triangles_of, triangles_within, place_bound}
use Rattle.tree_copy.specs.Moved.{moved_up}
use Rattle.tree_copy.proofs.MovedLists.{Source, moved_source, moved_range, gather_moved}

-- t stands in t' from node c and from place and triangle s on
pub record Copied (t' t : Tree) (n c s : ℕ) : Type 0 where
  pub kind : (i : ℕ) → i < t.node_count → kind_at t'.node_words (i + c) ≡ kind_at t.node_words i
  pub first : (i : ℕ) → i < t.node_count
      → first_at t'.node_words (i + c) ≡ first_at t.node_words i + cond (eqb (kind_at t.node_words i) 0) s c
  pub second : (i : ℕ) → i < t.node_count
      → second_at t'.node_words (i + c) ≡ second_at t.node_words i + cond (eqb (kind_at t.node_words i) 0) 0 c
  pub node_box : (i : ℕ) → i < t.node_count → box_at t'.node_boxes (i + c) ≡ box_at t.node_boxes i
  pub triangle_box_lem : (x : ℕ) → x < n → box_at t'.triangle_boxes (x + s) ≡ box_at t.triangle_boxes x
  pub ordered : (p : ℕ) → p < n → word_at t'.order (p + s) ≡ word_at t.order p + s

-- in a checked tree an order place holds a triangle
pub triangle_there : (m : Mesh) (t : Tree) (h : Checked m t) (i p : ℕ) → i < t.node_count → 0 < count p (places_of m t i)
    → word_at t.order p < triangle_count m t
triangle_there m t h i p below place =
    let word = word_at t.order p in
    let here : 0 < count word (triangles_of m t i) =
    gathers (placed_at t) (places_of m t i) p word place (omega (arith, count_cons word word [], one_same word word refl)) in
    let listed : 0 < count i (nodes m t) = omega (arith, count_range_inside i 0 t.node_count (omega arith) (omega arith)) in
    let all = gathers (triangles_of m t) (nodes m t) i word listed here in
    let b = range_bounds word 0 (triangle_count m t) (omega (arith, all, (triangles_within m t h).at_most word)) in
    omega (arith, b)

pub place_there : (m : Mesh) (t : Tree) (h : Checked m t) (i p : ℕ) → i < t.node_count → 0 < count p (places_of m t i)
    → p < triangle_count m t
place_there m t h i p below place =
    place_bound m t h p (gathers (places_of m t) (nodes m t) i p
    (omega (arith, count_range_inside i 0 t.node_count (omega arith) (omega arith))) place)

module _ (m m' : Mesh) (t t' : Tree) (c s : ℕ) (k : Copied t' t (triangle_count m t) c s) where
  leaf_same : (i : ℕ) → i < t.node_count → is_leaf m' t' (i + c) ≡ is_leaf m t i
  leaf_same i b = ap (λ (z : ℕ). eqb z 0) (k.kind i b)

  branch_same : (i : ℕ) → i < t.node_count → is_branch m' t' (i + c) ≡ is_branch m t i
  branch_same i b = ap (λ (z : ℕ). eqb z 1) (k.kind i b)

  -- ---- the words of a leaf and of a branch
  branch_no_leaf : (i : ℕ) → is_branch m t i ≡ true → is_leaf m t i ≡ false
  branch_no_leaf i e = ap (λ (z : ℕ). eqb z 0) (eqb-true (kind_at t.node_words i) 1 e)

  by_kind : (b d : Bool) (x y : ℕ) → b ≡ d → cond b x y ≡ cond d x y
  by_kind b d x y e = ap (λ (z : Bool). cond z x y) e

  branch_first : (i : ℕ) → i < t.node_count → is_branch m t i ≡ true → first_at t'.node_words (i + c) ≡ first_at t.node_words i + c
  branch_first i b e = k.first i b ∙ ap (λ (z : ℕ). first_at t.node_words i + z) (by_kind (is_leaf m t i) false s c (branch_no_leaf i e))

  branch_second : (i : ℕ) → i < t.node_count → is_branch m t i ≡ true → second_at t'.node_words (i + c) ≡ second_at t.node_words i + c
  branch_second i b e =
      k.second i b ∙ ap (λ (z : ℕ). second_at t.node_words i + z) (by_kind (is_leaf m t i) false 0 c (branch_no_leaf i e))

  leaf_first : (i : ℕ) → i < t.node_count → is_leaf m t i ≡ true → first_at t'.node_words (i + c) ≡ first_at t.node_words i + s
  leaf_first i b e = k.first i b ∙ ap (λ (z : ℕ). first_at t.node_words i + z) (by_kind (is_leaf m t i) true s c e)

  leaf_second : (i : ℕ) → i < t.node_count → is_leaf m t i ≡ true → second_at t'.node_words (i + c) ≡ second_at t.node_words i
  leaf_second i b e =
      k.second i b ∙ ap (λ (z : ℕ). second_at t.node_words i + z) (by_kind (is_leaf m t i) true 0 c e)
      ∙ add-zero (second_at t.node_words i)

  -- ---- its children and its places are moved up
  pub children_moved : (i : ℕ) → i < t.node_count → children_of m' t' (i + c) ≡ moved_up c (children_of m t i)
  unfolding moved_up
  children_moved i b = go (is_branch m t i) refl
    where
      go : (d : Bool) → is_branch m t i ≡ d → children_of m' t' (i + c) ≡ moved_up c (children_of m t i)
      go true e =
          branch_children m' t' (i + c) (branch_same i b ∙ e)
          ∙ ap (λ (z : ℕ). z ∷ (second_at t'.node_words (i + c) ∷ [])) (branch_first i b e)
          ∙ ap (λ (z : ℕ). (first_at t.node_words i + c) ∷ (z ∷ [])) (branch_second i b e)
          ∙ ap (moved_up c) (sym (branch_children m t i e))
      go false e = no_children m' t' (i + c) (branch_same i b ∙ e) ∙ ap (moved_up c) (sym (no_children m t i e))

  pub places_moved : (i : ℕ) → i < t.node_count → places_of m' t' (i + c) ≡ moved_up s (places_of m t i)
  unfolding moved_up
  places_moved i b = go (is_leaf m t i) refl
    where
      go : (d : Bool) → is_leaf m t i ≡ d → places_of m' t' (i + c) ≡ moved_up s (places_of m t i)
      go true e =
          leaf_places m' t' (i + c) (leaf_same i b ∙ e)
          ∙ ap (λ (z : ℕ). range z (second_at t'.node_words (i + c))) (leaf_first i b e)
          ∙ ap (range (first_at t.node_words i + s)) (leaf_second i b e)
          ∙ sym (moved_range s (first_at t.node_words i) (second_at t.node_words i))
          ∙ ap (moved_up s) (sym (leaf_places m t i e))
      go false e = no_places m' t' (i + c) (leaf_same i b ∙ e) ∙ ap (moved_up s) (sym (no_places m t i e))

  -- all of them
  pub all_children_moved : flat_map (children_of m' t') (range (0 + c) t.node_count) ≡ moved_up c (flat_map (children_of m t) (nodes m t))
  all_children_moved = gather_moved (children_of m' t') (children_of m t) c c 0 t.node_count (λ i p q. children_moved i (omega arith))

  pub all_places_moved : flat_map (places_of m' t') (range (0 + c) t.node_count) ≡ moved_up s (flat_map (places_of m t) (nodes m t))
  all_places_moved = gather_moved (places_of m' t') (places_of m t) s c 0 t.node_count (λ i p q. places_moved i (omega arith))

  -- ---- what a node passes
  module _ (h : Checked m t) (nodes-fit : t.node_count + c ≤ t'.node_count)
      (places_fit_lem : triangle_count m t + s ≤ triangle_count m' t') where
    child_source : (i j : ℕ) → i < t.node_count → 0 < count j (children_of m' t' (i + c)) → Source j c (children_of m t i)
    child_source i j b g = moved_source j c (children_of m t i) (subst (λ (l : List ℕ). 0 < count j l) (children_moved i b) g)

    place_source : (i p : ℕ) → i < t.node_count → 0 < count p (places_of m' t' (i + c)) → Source p s (places_of m t i)
    place_source i p b g = moved_source p s (places_of m t i) (subst (λ (l : List ℕ). 0 < count p l) (places_moved i b) g)

    pub known_moved : (i : ℕ) → i < t.node_count → (is_leaf m' t' (i + c) || is_branch m' t' (i + c)) ≡ true
    known_moved i b = ap (λ (z : ℕ). eqb z 0 || eqb z 1) (k.kind i b) ∙ h.known i b

    pub above_moved : (i j : ℕ) → i < t.node_count → 0 < count j (children_of m' t' (i + c)) → (i + c < j) × (j < t'.node_count)
    above_moved i j b g =
        let f = child_source i j b g in
        let a = h.above i f.from b f.listed in
        (omega (arith, f.moved, a), omega (arith, f.moved, a, nodes-fit))

    pub inside_moved : (i : ℕ) → i < t.node_count → is_leaf m' t' (i + c) ≡ true
        → first_at t'.node_words (i + c) + second_at t'.node_words (i + c) ≤ triangle_count m' t'
    inside_moved i b g =
        let e = sym (leaf_same i b) ∙ g in
        omega (arith, leaf_first i b e, leaf_second i b e, h.inside i b e, places_fit_lem)

    pub differ_moved : (i : ℕ) → i < t.node_count → is_branch m' t' (i + c) ≡ true
        → first_at t'.node_words (i + c) ≡ second_at t'.node_words (i + c) → ⊥
    differ_moved i b g same =
        let e = sym (branch_same i b) ∙ g in
        h.differ i b e (omega (arith, branch_first i b e, branch_second i b e, same))

    pub filled_moved : (i : ℕ) → i < t.node_count → is_leaf m' t' (i + c) ≡ true → 0 < second_at t'.node_words (i + c)
    filled_moved i b g = let e = sym (leaf_same i b) ∙ g in omega (arith, leaf_second i b e, h.filled i b e)

    pub node_valid_moved : (i : ℕ) → i < t.node_count → valid_box (box_at t'.node_boxes (i + c)) ≡ true
    node_valid_moved i b = ap valid_box (k.node_box i b) ∙ h.node_valid i b

    pub triangle_valid_moved : (x : ℕ) → x < triangle_count m t → valid_box (box_at t'.triangle_boxes (x + s)) ≡ true
    triangle_valid_moved x b = ap valid_box (k.triangle_box_lem x b) ∙ h.triangle_valid x b

    pub child_enclosed_moved : (i j : ℕ) → i < t.node_count → 0 < count j (children_of m' t' (i + c))
        → encloses (box_at t'.node_boxes (i + c)) (box_at t'.node_boxes j) ≡ true
    child_enclosed_moved i j b g =
        let f = child_source i j b g in
        let a = h.above i f.from b f.listed in
        ap (λ (z : Aabb). encloses z (box_at t'.node_boxes j)) (k.node_box i b)
        ∙ ap (λ (z : ℕ). encloses (box_at t.node_boxes i) (box_at t'.node_boxes z)) f.moved
        ∙ ap (encloses (box_at t.node_boxes i)) (k.node_box f.from a.1)
        ∙ h.child_enclosed i f.from b f.listed

    pub triangle_enclosed_moved : (i p : ℕ) → i < t.node_count → 0 < count p (places_of m' t' (i + c))
        → encloses (box_at t'.node_boxes (i + c)) (box_at t'.triangle_boxes (word_at t'.order p)) ≡ true
    triangle_enclosed_moved i p b g =
        let f = place_source i p b g in
        let q = f.from in
        let word : word_at t'.order p ≡ word_at t.order q + s =
        ap (word_at t'.order) f.moved ∙ k.ordered q (place_there m t h i q b f.listed) in
        ap (λ (z : Aabb). encloses z (box_at t'.triangle_boxes (word_at t'.order p))) (k.node_box i b)
        ∙ ap (λ (z : ℕ). encloses (box_at t.node_boxes i) (box_at t'.triangle_boxes z)) word
        ∙ ap (encloses (box_at t.node_boxes i)) (k.triangle_box_lem (word_at t.order q) (triangle_there m t h i q b f.listed))
        ∙ h.triangle_enclosed i q b f.listed
