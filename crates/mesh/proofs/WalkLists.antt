-- The walk of a checked tree lists the candidates: it ends within the node count, every node whose box touches is taken, and the sorted
-- list is the touching triangles of the mesh. Assumes nothing.
use Prim.Native.Nat.{ℕ, zero, suc, ◌+◌, ◌<◌}
use mathlib.Core.Path.{◌≡◌, refl, sym, ap, ◌∙◌}
use mathlib.Core.Logic.{◌⊎◌, inl, inr, ◌≢◌}
use mathlib.Core.Bool.{Bool, true, false, cond, true≢false}
use mathlib.Core.List.{List, [], ◌∷◌, ◌++◌}
use native.Mathlib.Omega.{arith}
use lib.Dec.{eqb}
use lib.ListN.{length, length-append}
use borrow.Author.Tests.{eqb-true, eqb-false}
use Rattle.geometry.specs.Box.{touches}
use Rattle.geometry.specs.declared.aabb.Aabb.{Aabb}
use Rattle.geometry.proofs.BoxLaws.{touches_grows, touches_of_same}
use Rattle.lists.specs.Lists.{range, count, keep, flat_map, sort_by, sorted}
use Rattle.tree.specs.Layout.{Tree, word_at, box_at}
use Rattle.tree.specs.Mesh.{Mesh, triangle_box, candidates}
use Rattle.lists.proofs.CountLaws.{one_same, count_cons, count_nil, count_append, count_keep, keep_alike, length_range, range_bounds}
use Rattle.lists.proofs.CountLaws.{count_range_inside}
use Rattle.lists.proofs.WithinLaws.{Within, within_length, within_flat_map}
use Rattle.lists.proofs.SortLaws.{count_sorted, sorted_rises, rising_equal, ascending_rises, range_ascends, keep_ascends}
use Rattle.tree_walk.specs.Walk.{walking, times, take_node, start, ended, walk_of}
use Rattle.tree_check.specs.Check.{triangle_count, nodes, places_of, tree_passes}
use Rattle.mesh.proofs.CheckedTree.{Checked, checked_or_empty}
use Rattle.mesh.proofs.TreeCounts.{triangles_of, triangles_within, parent_of, home_of, home_holds}
use Rattle.mesh.proofs.WalkState.{node_touches, triangle_touches, State}
use Rattle.mesh.proofs.WalkStep.{all_within_lem, step}

times_done : (t : Tree) (n : ℕ) (box : Aabb) (k : ℕ) (list : List ℕ) → times k (take_node t n box) (walking [] list) ≡ walking [] list
unfolding times take_node
times_done t n box zero list = refl
times_done t n box (suc k) list = times_done t n box k list

module _ (m : Mesh) (t : Tree) (box : Aabb) (c : Checked m t) (some : 0 < t.node_count) where
  -- ---- the walk ends
  pub record End (k : ℕ) (stack list : List ℕ) : Type 0 where
    pub taken : List ℕ
    pub list' : List ℕ
    pub goes : times k (take_node t (triangle_count m t) box) (walking stack list) ≡ walking [] list'
    pub state : State m t box taken [] list'

  -- as many nodes may still be taken as are not taken
  walk_ends : (k : ℕ) (taken stack list : List ℕ) → length taken + k ≡ t.node_count → State m t box taken stack list → End k stack list
  unfolding times take_node
  walk_ends zero taken [] list h s = record { taken = taken; list' = list; goes = refl; state = s }
  walk_ends zero taken (node ∷ stack) list h s =
      absurd (omega (
        arith,
        within_length (taken ++ (node ∷ stack)) (nodes m t) (all_within_lem m t box c some taken (node ∷ stack) list s),
        length-append taken (node ∷ stack),
        length_range 0 t.node_count,
      ))
  walk_ends (suc k) taken [] list h s = record {
    taken = taken;
    list' = list;
    goes = times_done t (triangle_count m t) box k list;
    state = s;
  }
  walk_ends (suc k) taken (node ∷ stack) list h s =
      let next = step m t box c some taken stack list node s in
      let end = walk_ends k (node ∷ taken) next.stack' next.list' (omega arith) next.state in
      record {
        taken = end.taken;
        list' = end.list';
        goes = ap (times k (take_node t (triangle_count m t) box)) next.goes ∙ end.goes;
        state = end.state;
      }

  starting : State m t box [] (0 ∷ []) []
  unfolding flat_map
  starting = record {
    spread = record { at_most = λ (i : ℕ). omega arith };
    once = record { at_most = λ (i : ℕ). omega (arith, count_nil i) };
    listed = record { at_most = λ (x : ℕ). omega (arith, count_nil x) };
    rooted = omega (arith, count_cons 0 0 [], one_same 0 0 refl);
    opened = λ (q i : ℕ) (h : 0 < count q []). absurd (omega (arith, count_nil q));
    found = λ (q x : ℕ) (h : 0 < count q []). absurd (omega (arith, count_nil q));
    only = λ (x : ℕ) (h : 0 < count x []). absurd (omega (arith, count_nil x));
  }

  -- ---- at its end
  module _ (taken list : List ℕ) (s : State m t box taken [] list) where
    still : (i : ℕ) → 0 < count i (taken ++ []) → 0 < count i taken
    still i h = omega (arith, count_append i taken [], count_nil i)

    -- every node whose box touches is taken, since its parent's box touches
    touching_taken : (bound i : ℕ) → i < bound → i < t.node_count → node_touches t box i ≡ true → 0 < count i taken
    touching_taken zero i h below touching = absurd (omega arith)
    touching_taken (suc bound) zero h below touching = still 0 s.rooted
    touching_taken (suc bound) (suc i) h below touching =
        let p = parent_of m t c (suc i) (omega arith) below in
        let encloses = c.child_enclosed p.node (suc i) (omega (arith, p.lower)) p.child in
        let grown = touches_grows (box_at t.node_boxes p.node) (box_at t.node_boxes (suc i)) box encloses touching in
        still (suc i) (s.opened p.node (suc i) (touching_taken bound p.node (omega (arith, p.lower)) (omega (arith, p.lower))
        grown) grown p.child)

    touching_listed : (x : ℕ) → x < triangle_count m t → triangle_touches t box x ≡ true → 0 < count x list
    touching_listed x below touching =
        let h = home_of m t c x below in
        let there : triangle_touches t box (word_at t.order h.place) ≡ true = ap (triangle_touches t box) (sym h.holds) ∙ touching in
        let encloses = c.triangle_enclosed h.node h.place h.below h.placed in
        let grown = touches_grows (box_at t.node_boxes h.node) (box_at t.triangle_boxes (word_at t.order h.place)) box encloses
        there in
        s.found h.node x (touching_taken t.node_count h.node h.below h.below grown) grown (home_holds m t c x h) touching

    list_within : Within list (range 0 (triangle_count m t))
    list_within =
        let gathered = within_flat_map (triangles_of m t) taken (nodes m t) s.once in
        let whole = triangles_within m t c in
        record { at_most = λ (x : ℕ). omega (arith, s.listed.at_most x, gathered.at_most x, whole.at_most x) }

    -- so each is listed once
    list_counts : (x : ℕ) → count x list ≡ count x (keep (triangle_touches t box) (range 0 (triangle_count m t)))
    list_counts x = go (triangle_touches t box x) refl (count x (range 0 (triangle_count m t))) refl
      where
        kept : (b : Bool) → triangle_touches t box x ≡ b → count x (keep (triangle_touches t box) (range 0 (triangle_count m t))) ≡ cond b
            (count x (range 0 (triangle_count m t))) 0
        kept b e = count_keep (triangle_touches t box) x (range 0 (triangle_count m t)) ∙ ap
            (λ (b : Bool). cond b (count x (range 0 (triangle_count m t))) 0) e

        unlisted : (k : ℕ) → count x list ≡ k → triangle_touches t box x ≡ false → count x list ≡ 0
        unlisted zero f e = f
        unlisted (suc k) f e = absurd (true≢false (sym (s.only x (omega arith)) ∙ e))

        go : (b : Bool) → triangle_touches t box x ≡ b → (k : ℕ) → count x (range 0 (triangle_count m t)) ≡ k
            → count x list ≡ count x (keep (triangle_touches t box) (range 0 (triangle_count m t)))
        go false e k f = omega (arith, kept false e, unlisted (count x list) refl e)
        go true e zero f = omega (arith, kept true e, list_within.at_most x)
        go true e (suc k) f =
            let below = range_bounds x 0 (triangle_count m t) (omega arith) in
            omega (
              arith,
              kept true e,
              list_within.at_most x,
              touching_listed x (omega arith) e,
              count_range_inside x 0 (triangle_count m t)
                  (omega arith) (omega arith),
            )

    sorted_is_kept : sorted list ≡ keep (triangle_touches t box) (range 0 (triangle_count m t))
    sorted_is_kept =
        rising_equal (sorted list) (keep (triangle_touches t box) (range 0 (triangle_count m t))) (sorted_rises list)
        (ascending_rises (keep (triangle_touches t box) (range 0 (triangle_count m t)))
        (keep_ascends (triangle_touches t box) (range 0 (triangle_count m t)) (range_ascends 0 (triangle_count m t))))
        (λ (x : ℕ). count_sorted x list ∙ list_counts x)

  kept_are_candidates : keep (triangle_touches t box) (range 0 (triangle_count m t)) ≡ candidates m box
  unfolding candidates
  kept_are_candidates =
      keep_alike (triangle_touches t box) (λ (x : ℕ). touches (triangle_box m.vertices m.triangles x) box) (range 0 (triangle_count m t))
      (λ (x : ℕ) (h : 0 < count x (range 0 (triangle_count m t))).
      touches_of_same (box_at t.triangle_boxes x) (triangle_box m.vertices m.triangles x) box
      (c.same x (omega (arith, range_bounds x 0 (triangle_count m t) h))))

  walk_of_nodes : eqb t.node_count 0 ≡ false → walk_of t (triangle_count m t) box ≡ walking [] (candidates m box)
  unfolding walk_of start ended
  walk_of_nodes e =
      let end = walk_ends t.node_count [] (0 ∷ []) [] (omega arith) starting in
      simp (e, end.goes) (ap (walking []) (sorted_is_kept end.taken end.list' end.state ∙ kept_are_candidates))

-- ---- a tree of no node
no_candidates : (m : Mesh) (t : Tree) (box : Aabb) → triangle_count m t ≡ 0 → candidates m box ≡ []
unfolding candidates range keep
no_candidates m t box e = simp e

walk_of_nothing : (m : Mesh) (t : Tree) (box : Aabb) → t.node_count ≡ 0 → triangle_count m t ≡ 0 → walk_of t (triangle_count m t) box
    ≡ walking
    [] (candidates m box)
unfolding walk_of start ended times sort_by
walk_of_nothing m t box e f = simp (e, no_candidates m t box f)

-- a passed check with no node is one of no triangle
nothing_placed : (m : Mesh) (t : Tree) → Checked m t → t.node_count ≡ 0 → triangle_count m t ≡ 0
unfolding flat_map range
nothing_placed m t c e = go (triangle_count m t) refl
  where
    go : (k : ℕ) → triangle_count m t ≡ k → triangle_count m t ≡ 0
    go zero f = f
    go (suc k) f =
        absurd (omega (arith, c.placed 0 (omega arith), ap (λ (n : ℕ). count 0 (flat_map (places_of m t) (range 0 n))) e, count_nil 0))

pub walk_lists_candidates : (m : Mesh) (t : Tree) (box : Aabb) → tree_passes m t ≡ true → walk_of t (triangle_count m t) box ≡ walking []
    (candidates m box)
walk_lists_candidates m t box h = either (checked_or_empty m t h)
  where
    go : Checked m t → (b : Bool) → eqb t.node_count 0 ≡ b → walk_of t (triangle_count m t) box ≡ walking [] (candidates m box)
    go c true e = let none : t.node_count ≡ 0 = eqb-true t.node_count 0 e in walk_of_nothing m t box none (nothing_placed m t c none)
    go c false e = let some : t.node_count ≢ 0 = eqb-false t.node_count 0 e in walk_of_nodes m t box c (omega arith) e

    either : Checked m t ⊎ ((t.node_count ≡ 0) × (triangle_count m t ≡ 0)) → walk_of t (triangle_count m t) box
        ≡ walking [] (candidates m box)
    either (inl c) = go c (eqb t.node_count 0) refl
    either (inr empty) = walk_of_nothing m t box empty.0 empty.1
