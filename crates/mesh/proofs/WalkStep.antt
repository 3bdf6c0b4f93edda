-- A node of a checked tree is taken without a refusal, whether its box touches or not, leaf or branch. Assumes nothing.
use Prim.Native.Nat.{ℕ, ◌+◌, ◌≤◌, ◌<◌}
use mathlib.Core.Path.{◌≡◌, refl, sym, ap, ◌∙◌}
use mathlib.Core.Bool.{Bool, true, false, ◌||◌, cond, true≢false, false≢true}
use mathlib.Core.List.{List, [], ◌∷◌, ◌++◌, append-nil, append_assoc}
use native.Mathlib.Omega.{arith}
use lib.Dec.{ltb}
use lib.ListN.{length, length-append}
use borrow.Author.Tests.{lt-ltb, le-leb, eqb-true, ne_eqb}
use Rattle.geometry.specs.declared.aabb.Aabb.{Aabb}
use Rattle.lists.proofs.JoinedTests.{and_both}
use Rattle.lists.specs.Lists.{range, count, keep, flat_map}
use Rattle.tree.specs.Layout.{Tree, word_at, kind_at, first_at, second_at}
use Rattle.tree.specs.Mesh.{Mesh}
use Rattle.lists.proofs.CountLaws.{one, one_same, count_cons, count_nil, count_append, count_keep, count_flat_map_cons, length_range}
use Rattle.lists.proofs.CountLaws.{range_bounds}
use Rattle.lists.proofs.WithinLaws.{Within, within_through, within_length, within_flat_map}
use Rattle.tree_walk.specs.Walk.{Walking, walking, take_place, take_places, at_leaf, child_fits, at_branch, at_node}
use Rattle.tree_check.specs.Check.{triangle_count, nodes, is_leaf, is_branch, children_of, places_of}
use Rattle.mesh.proofs.CheckedTree.{Checked, branch_children, no_children, leaf_places, no_places}
use Rattle.mesh.proofs.TreeCounts.{placed_at, triangles_of, named_within, triangles_within}
use Rattle.mesh.proofs.WalkState.{node_touches, triangle_touches, State, state_next}

-- ---- the places of a leaf
takes_place : (t : Tree) (n : ℕ) (box : Aabb) (stack list : List ℕ) (place : ℕ) → word_at t.order place < n → length list < n → (b : Bool)
    → triangle_touches t box (word_at t.order place) ≡ b
    → take_place t n box (walking stack list) place ≡ walking stack (cond b (list ++ (word_at t.order place ∷ [])) list)
unfolding take_place
takes_place t n box stack list place p q true e = simp (lt-ltb (word_at t.order place) n p, lt-ltb (length list) n q, e)
takes_place t n box stack list place p q false e = simp (lt-ltb (word_at t.order place) n p, e)

pub places_listed : (t : Tree) (n : ℕ) (box : Aabb) (stack list places : List ℕ)
    → Within (list ++ flat_map (placed_at t) places) (range 0 n)
    → take_places t n box (walking stack list) places ≡ walking stack
    (list ++ keep (triangle_touches t box) (flat_map (placed_at t) places))
unfolding take_places flat_map keep
places_listed t n box stack list [] w = ap (walking stack) (sym (append-nil list))
places_listed t n box stack list (place ∷ places) w = go (triangle_touches t box x) refl (λ l v. places_listed t n box stack l places v)
  where
    x : ℕ
    x = word_at t.order place

    rest : List ℕ
    rest = flat_map (placed_at t) places

    counts : (y : ℕ) → count y (list ++ (x ∷ rest)) ≡ count y list + (one y x + count y rest)
    counts y = omega (arith, count_append y list (x ∷ rest), count_cons y x rest)

    below : x < n
    below = omega (arith, range_bounds x 0 n (omega (arith, w.at_most x, counts x, one_same x x refl)))

    room : length list < n
    room = omega (arith, within_length (list ++ (x ∷ rest)) (range 0 n) w, length-append list (x ∷ rest), length_range 0 n)

    go : (b : Bool) → triangle_touches t box x ≡ b
        → ((l : List ℕ) → Within (l ++ rest) (range 0 n) → take_places t n box (walking stack l) places ≡ walking stack
        (l ++ keep (triangle_touches t box) rest))
        → take_places t n box (take_place t n box (walking stack list) place) places ≡ walking stack
        (list ++ keep (triangle_touches t box) (x ∷ rest))
    go true e further =
        ap (λ (s : Walking). take_places t n box s places) (takes_place t n box stack list place below room true e)
        ∙ further (list ++ (x ∷ [])) (record {
          at_most = λ (y : ℕ). omega (
            arith,
            w.at_most y,
            counts y,
            count_append y (list ++ (x ∷ []))
                rest,
            count_append y list (x ∷ []),
            count_cons y x [],
            count_nil y,
          );
        })
        ∙ ap (walking stack) (append_assoc list (x ∷ []) (keep (triangle_touches t box) rest))
        ∙ ap (λ (b : Bool). walking stack (list ++ cond b (x ∷ keep (triangle_touches t box) rest) (keep (triangle_touches t box) rest)))
        (sym e)
    go false e further =
        ap (λ (s : Walking). take_places t n box s places) (takes_place t n box stack list place below room false e)
        ∙ further list (record { at_most = λ (y : ℕ). omega (arith, w.at_most y, counts y, count_append y list rest) })
        ∙ ap (λ (b : Bool). walking stack (list ++ cond b (x ∷ keep (triangle_touches t box) rest) (keep (triangle_touches t box) rest)))
        (sym e)

no_words : (t : Tree) (x : ℕ) → count x (flat_map (placed_at t) []) ≡ 0
unfolding flat_map
no_words t x = count_nil x

-- ---- one node of a checked tree
module _ (m : Mesh) (t : Tree) (box : Aabb) (c : Checked m t) (some : 0 < t.node_count) where
  pub all_within_lem : (taken stack list : List ℕ) → State m t box taken stack list → Within (taken ++ stack) (nodes m t)
  all_within_lem taken stack list s =
      let kids = within_flat_map (children_of m t) taken (nodes m t) s.once in
      within_through (taken ++ stack) (0 ∷ flat_map (children_of m t) taken) (nodes m t) s.spread
      (within_through (0 ∷ flat_map (children_of m t) taken) (0 ∷ flat_map (children_of m t) (nodes m t)) (nodes m t)
      (record {
        at_most = λ (i : ℕ). omega (
          arith,
          kids.at_most i,
          count_cons i 0 (flat_map (children_of m t) taken),
          count_cons i 0 (flat_map
              (children_of m t) (nodes m t)),
        );
      })
      (named_within m t c some))

  pub record Step (taken stack list : List ℕ) (node : ℕ) : Type 0 where
    pub stack' : List ℕ
    pub list' : List ℕ
    pub goes : at_node t (triangle_count m t) box node stack list ≡ walking stack' list'
    pub state : State m t box (node ∷ taken) stack' list'

  module _ (taken stack list : List ℕ) (node : ℕ) (s : State m t box taken (node ∷ stack) list) where
    all : Within (taken ++ (node ∷ stack)) (nodes m t)
    all = all_within_lem taken (node ∷ stack) list s

    below : node < t.node_count
    below =
        omega (
          arith,
          range_bounds node 0 t.node_count
              (omega (
                arith,
                all.at_most node,
                count_append node taken (node ∷ stack),
                count_cons node node stack,
                one_same node node refl,
              )),
        )

    -- a node whose box does not touch
    passed : node_touches t box node ≡ false → Step taken stack list node
    unfolding at_node
    passed e = record {
      stack' = stack;
      list' = list ++ [];
      goes = simp e (ap (walking stack) (sym (append-nil list)));
      state =
          state_next m t box taken stack list node [] [] all s record {
            no_others = record { at_most = λ (i : ℕ). omega (arith, count_nil i) };
            no_strangers = record { at_most = λ (x : ℕ). omega (arith, count_nil x) };
            all_children = λ h. absurd (true≢false (sym h ∙ e));
            all_triangles = λ h. absurd (true≢false (sym h ∙ e));
            touching = λ (x : ℕ) (h : 0 < count x []). absurd (omega (arith, count_nil x));
          };
    }

    leaf_not_branch : is_leaf m t node ≡ true → is_branch m t node ≡ false
    leaf_not_branch l = ne_eqb (kind_at t.node_words node) 1 (λ e. omega (arith, eqb-true (kind_at t.node_words node) 0 l))

    leaf_within : Within (list ++ triangles_of m t node) (range 0 (triangle_count m t))
    leaf_within =
        let mine : Within (node ∷ taken) (nodes m t) =
        record {
          at_most = λ (i : ℕ). omega (
            arith,
            all.at_most i,
            count_append i taken (node ∷ stack),
            count_cons i node stack,
            count_cons
                i node taken,
          );
        } in
        let gathered = within_flat_map (triangles_of m t) (node ∷ taken) (nodes m t) mine in
        let whole = triangles_within m t c in
        record {
          at_most = λ (x : ℕ). omega (
            arith,
            gathered.at_most x,
            whole.at_most x,
            s.listed.at_most x,
            count_append x list
                (triangles_of m t node),
            count_flat_map_cons (triangles_of m t) node x taken,
          );
        }

    kept_count : (x : ℕ) (b : Bool) → triangle_touches t box x ≡ b → count x (keep (triangle_touches t box) (triangles_of m t node))
        ≡ cond b
        (count x (triangles_of m t node)) 0
    kept_count x b e = count_keep (triangle_touches t box) x (triangles_of m t node) ∙ ap
        (λ (b : Bool). cond b (count x (triangles_of m t node)) 0) e

    -- a leaf whose box touches
    listed_leaf : node_touches t box node ≡ true → is_leaf m t node ≡ true → Step taken stack list node
    unfolding at_node at_leaf
    listed_leaf e l = record {
      stack' = stack;
      list' = list ++ keep (triangle_touches t box) (triangles_of m t node);
      goes =
          simp (
            e,
            l,
            le-leb (first_at t.node_words node + second_at t.node_words node) (triangle_count m t) (c.inside node below l),
            ←
                (leaf_places m t node l),
          )
          (places_listed t (triangle_count m t) box stack list (places_of m t node) leaf_within);
      state =
          state_next m t box taken stack list node [] (keep (triangle_touches t box) (triangles_of m t node)) all s record {
            no_others = record { at_most = λ (i : ℕ). omega (arith, count_nil i) };
            no_strangers = record { at_most = λ (x : ℕ). fewer x (triangle_touches t box x) refl };
            all_children = λ h i k. absurd (omega (arith, k, ap (count i) (no_children m t node (leaf_not_branch l)), count_nil i));
            all_triangles = λ h x k f. omega (arith, k, kept_count x true f);
            touching = λ (x : ℕ) (h : 0 < count x (keep (triangle_touches t box) (triangles_of m t node))). touching x h
                (triangle_touches t box x) refl;
          };
    }
      where
        fewer : (x : ℕ) (b : Bool) → triangle_touches t box x ≡ b → count x (keep (triangle_touches t box) (triangles_of m t node))
            ≤ count x
            (triangles_of m t node)
        fewer x true f = omega (arith, kept_count x true f)
        fewer x false f = omega (arith, kept_count x false f)

        touching : (x : ℕ) → 0 < count x (keep (triangle_touches t box) (triangles_of m t node)) → (b : Bool) → triangle_touches t box x ≡ b
            →
            triangle_touches t box x ≡ true
        touching x h true f = f
        touching x h false f = absurd (omega (arith, kept_count x false f))

    child_fits_lem : (child : ℕ) → 0 < count child (children_of m t node) → child_fits t (triangle_count m t) box node child ≡ true
    unfolding child_fits
    child_fits_lem child h =
        let fits = c.above node child below h in
        and_both (ltb node child) (ltb child t.node_count) (lt-ltb node child fits.0) (lt-ltb child t.node_count fits.1)

    -- a branch whose box touches
    opened_branch : node_touches t box node ≡ true → is_leaf m t node ≡ false → is_branch m t node ≡ true → Step taken stack list node
    unfolding at_node at_branch
    opened_branch e l b = record {
      stack' = left ∷ (right ∷ stack);
      list' = list ++ [];
      goes = simp (e, l, b, child_fits_lem left left_child, child_fits_lem right right_child)
          (ap (walking (left ∷ (right ∷ stack))) (sym (append-nil list)));
      state =
          state_next m t box taken stack list node (left ∷ (right ∷ [])) [] all s record {
            no_others = record { at_most = λ (i : ℕ). omega (arith, children i) };
            no_strangers = record { at_most = λ (x : ℕ). omega (arith, count_nil x) };
            all_children = λ h i k. omega (arith, k, children i);
            all_triangles = λ h x k f. absurd (omega (
              arith,
              k,
              ap (λ (l : List ℕ). count x (flat_map (placed_at t) l)) (no_places m t node l),
              no_words t x,
            ));
            touching = λ (x : ℕ) (h : 0 < count x []). absurd (omega (arith, count_nil x));
          };
    }
      where
        left : ℕ
        left = first_at t.node_words node

        right : ℕ
        right = second_at t.node_words node

        children : (i : ℕ) → count i (children_of m t node) ≡ count i (left ∷ (right ∷ []))
        children i = ap (count i) (branch_children m t node b)

        left_child : 0 < count left (children_of m t node)
        left_child = omega (arith, children left, count_cons left left (right ∷ []), one_same left left refl)

        right_child : 0 < count right (children_of m t node)
        right_child = omega (
          arith,
          children right,
          count_cons right left (right ∷ []),
          count_cons right right [],
          one_same right right
              refl,
        )

    -- whatever the node is
    pub step : Step taken stack list node
    step = go (node_touches t box node) refl (is_leaf m t node) refl (is_branch m t node) refl
      where
        go : (a : Bool) → node_touches t box node ≡ a → (l : Bool) → is_leaf m t node ≡ l → (b : Bool) → is_branch m t node ≡ b → Step taken
            stack list node
        go false e l f b g = passed e
        go true e true f b g = listed_leaf e f
        go true e false f true g = opened_branch e f g
        go true e false f false g = absurd (false≢true (sym (ap (λ (k : Bool). k || is_branch m t node) f ∙ g) ∙ c.known node below))
