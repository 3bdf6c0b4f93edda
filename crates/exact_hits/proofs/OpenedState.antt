-- The walk of a checked tree by a test that passes over nothing but misses: it ends within the node count, lists each triangle at most
-- once, and each that is not a miss. Assumes nothing.
use Prim.Native.Nat.{ℕ, zero, suc, ◌+◌, ◌≤◌, ◌<◌}
use mathlib.Core.Path.{◌≡◌, refl, sym, ap, ◌∙◌, subst}
use mathlib.Core.Logic.{◌⊎◌, inl, inr}
use mathlib.Core.Bool.{Bool, true, false, ◌||◌, cond, false≢true}
use mathlib.Core.List.{List, [], ◌∷◌, ◌++◌, append-nil}
use native.Mathlib.Omega.{arith}
use lib.Dec.{ltb}
use lib.ListN.{length, length-append}
use borrow.Author.Tests.{lt-ltb, le-leb, eqb-true, ne_eqb}
use Rattle.lists.specs.Lists.{range, count, keep, flat_map}
use Rattle.lists.proofs.JoinedTests.{and_both}
use Rattle.lists.proofs.CountLaws.{one, one_same, one_other, same_or_other, count_cons, count_nil, count_append, count_flat_map_cons}
use Rattle.lists.proofs.CountLaws.{count_keep, length_range, range_bounds}
use Rattle.lists.proofs.WithinLaws.{Within, within_through, within_length, within_flat_map}
use Rattle.geometry.specs.declared.aabb.Aabb.{Aabb}
use Rattle.tree.specs.Layout.{Tree, kind_at, first_at, second_at}
use Rattle.tree.specs.Mesh.{Mesh}
use Rattle.tree_check.specs.Check.{triangle_count, nodes, is_leaf, is_branch, children_of, places_of}
use Rattle.tree_walk.specs.Walk.{Walking, walking, times, at_leaf, child_fits, at_branch, at_node, take_node}
use Rattle.mesh.proofs.CheckedTree.{Checked, branch_children, no_children, leaf_places, no_places}
use Rattle.mesh.proofs.TreeCounts.{placed_at, triangles_of, named_within, triangles_within}
use Rattle.mesh.proofs.WalkState.{node_touches, triangle_touches}
use Rattle.mesh.proofs.WalkStep.{places_listed}
use Rattle.tree_exact.specs.WalkDemand.{Under}
use Rattle.tree_exact.proofs.Unders.{under_first, under_below}
use Rattle.tree_exact.proofs.Seekings.{Below, under_cases, Waits}
use Rattle.exact_hits.specs.LineWalk.{take_opened}
use Rattle.exact_hits.proofs.OpenedSteps.{times_empty, opened_node, passed_node}

no_words : (t : Tree) (x : ℕ) → count x (flat_map (placed_at t) []) ≡ 0
unfolding flat_map
no_words t x = count_nil x

module _ (m : Mesh) (t : Tree) (Missed : ℕ → Type 0) where
  -- a miss, or listed
  abbrev pub Settled : List ℕ → ℕ → Type 0
  Settled list x = Missed x ⊎ (0 < count x list)

  pub record State (taken stack list : List ℕ) : Type 0 where
    -- taken or on the stack is only what was named by a node that was taken, so many times at most
    pub spread : Within (taken ++ stack) (0 ∷ flat_map (children_of m t) taken)
    pub once : Within taken (nodes m t)
    pub listed : Within list (flat_map (triangles_of m t) taken)
    pub left : (x : ℕ) → x < triangle_count m t → Settled list x ⊎ Waits m t stack x

  -- one more node: what of its children goes on the stack and what of its triangles into the list
  record Opens (node : ℕ) (children triangles : List ℕ) : Type 0 where
    no_others : Within children (children_of m t node)
    no_strangers : Within triangles (triangles_of m t node)
    below : (x : ℕ) → Under m t node x → Settled triangles x ⊎ Waits m t children x

  state_next : (taken stack list : List ℕ) (node : ℕ) (children triangles : List ℕ) → Within (taken ++ (node ∷ stack)) (nodes m t)
      → State taken (node ∷ stack) list → Opens node children triangles → State (node ∷ taken) (children ++ stack) (list ++ triangles)
  state_next taken stack list node children triangles within a o = record {
    spread = record {
      at_most = λ (i : ℕ). omega (
        arith,
        count_append i (node ∷ taken) (children ++ stack),
        count_append i children stack,
        count_cons i node taken,
        old i,
        a.spread.at_most i,
        o.no_others.at_most i,
        count_cons i 0 (flat_map (children_of m t) taken),
        count_cons i 0 (flat_map (children_of m t) (node ∷ taken)),
        count_flat_map_cons (children_of m t) node i taken,
      );
    };
    once = record { at_most = λ (i : ℕ). omega (arith, within.at_most i, old i, count_cons i node taken) };
    listed = record {
      at_most = λ (x : ℕ). omega (
        arith,
        a.listed.at_most x,
        o.no_strangers.at_most x,
        count_append x list triangles,
        count_flat_map_cons (triangles_of m t) node x taken,
      );
    };
    left = λ (x : ℕ) (h : x < triangle_count m t). from x (a.left x h);
  }
    where
      old : (i : ℕ) → count i (taken ++ (node ∷ stack)) ≡ count i taken + (one i node + count i stack)
      old i = omega (arith, count_append i taken (node ∷ stack), count_cons i node stack)

      before : (x : ℕ) → Settled list x → Settled (list ++ triangles) x
      before x (inl h) = inl h
      before x (inr h) = inr (omega (arith, h, count_append x list triangles))

      after : (x : ℕ) → Settled triangles x → Settled (list ++ triangles) x
      after x (inl h) = inl h
      after x (inr h) = inr (omega (arith, h, count_append x list triangles))

      child : (x : ℕ) → Settled triangles x ⊎ Waits m t children x → Settled (list ++ triangles) x ⊎ Waits m t (children ++ stack) x
      child x (inl h) = inl (after x h)
      child x (inr w) =
          inr record { node = w.node; on = omega (arith, w.on, count_append w.node children stack); under = w.under }

      still : (x : ℕ) (w : Waits m t (node ∷ stack) x) → (w.node ≡ node) ⊎ (w.node ≡ node → ⊥)
          → Settled (list ++ triangles) x ⊎ Waits m t (children ++ stack) x
      still x w (inl e) = child x (o.below x (subst (λ (i : ℕ). Under m t i x) e w.under))
      still x w (inr n) =
          inr record {
            node = w.node;
            on =
                omega (
                  arith,
                  w.on,
                  count_cons w.node node stack,
                  one_other w.node node n,
                  count_append w.node children stack,
                );
            under = w.under;
          }

      from : (x : ℕ) → Settled list x ⊎ Waits m t (node ∷ stack) x → Settled (list ++ triangles) x ⊎ Waits m t (children ++ stack) x
      from x (inl h) = inl (before x h)
      from x (inr w) = still x w (same_or_other w.node node)

-- ---- one node of a checked tree
module _ (m : Mesh) (t : Tree) (Missed : ℕ → Type 0) (box : Aabb) (opens : ℕ → Bool) (c : Checked m t) (some : 0 < t.node_count)
    (passed : (node : ℕ) → node < t.node_count → opens node ≡ false → (x : ℕ) → Under m t node x → Missed x)
    (apart : (node : ℕ) → node < t.node_count → node_touches t box node ≡ false → (x : ℕ) → Under m t node x → Missed x)
    (apart-triangle : (x : ℕ) → x < triangle_count m t → triangle_touches t box x ≡ false → Missed x) where
  abbrev n : ℕ
  n = triangle_count m t

  abbrev next : Walking → Walking
  next = take_opened t n box opens

  all_within_lem : (taken stack list : List ℕ) → State m t Missed taken stack list → Within (taken ++ stack) (nodes m t)
  all_within_lem taken stack list s =
      let kids = within_flat_map (children_of m t) taken (nodes m t) s.once in
      within_through (taken ++ stack) (0 ∷ flat_map (children_of m t) taken) (nodes m t) s.spread
      (within_through (0 ∷ flat_map (children_of m t) taken) (0 ∷ flat_map (children_of m t) (nodes m t)) (nodes m t)
      (record {
        at_most = λ (i : ℕ). omega (
          arith,
          kids.at_most i,
          count_cons i 0 (flat_map (children_of m t) taken),
          count_cons i 0 (flat_map (children_of m t) (nodes m t)),
        );
      })
      (named_within m t c some))

  record Step (taken stack list : List ℕ) (node : ℕ) : Type 0 where
    stack' : List ℕ
    list' : List ℕ
    goes : next (walking (node ∷ stack) list) ≡ walking stack' list'
    state : State m t Missed (node ∷ taken) stack' list'

  module _ (taken stack list : List ℕ) (node : ℕ) (s : State m t Missed taken (node ∷ stack) list) where
    within : Within (taken ++ (node ∷ stack)) (nodes m t)
    within = all_within_lem taken (node ∷ stack) list s

    below : node < t.node_count
    below =
        omega (
          arith,
          range_bounds node 0 t.node_count
              (omega (
                arith,
                within.at_most node,
                count_append node taken (node ∷ stack),
                count_cons node node stack,
                one_same node node refl,
              )),
        )

    -- a node below which all are misses
    missed_node : ((x : ℕ) → Under m t node x → Missed x) → next (walking (node ∷ stack) list) ≡ walking stack list
        → Step taken stack list node
    missed_node misses e = record {
      stack' = stack;
      list' = list ++ [];
      goes = e ∙ ap (walking stack) (sym (append-nil list));
      state =
          state_next m t Missed taken stack list node [] [] within s record {
            no_others = record { at_most = λ (i : ℕ). omega (arith, count_nil i) };
            no_strangers = record { at_most = λ (x : ℕ). omega (arith, count_nil x) };
            below = λ x u. inl (inl (misses x u));
          };
    }

    module _ (o : opens node ≡ true) where
      opened : next (walking (node ∷ stack) list) ≡ at_node t n box node stack list
      unfolding take_node
      opened = opened_node t n box opens node stack list o

      apart_node : node_touches t box node ≡ false → Step taken stack list node
      unfolding at_node
      apart_node e = missed_node (apart node below e) (opened ∙ simp e)

      -- ---- a leaf
      leaf_not_branch : is_leaf m t node ≡ true → is_branch m t node ≡ false
      leaf_not_branch l = ne_eqb (kind_at t.node_words node) 1 (λ e. omega (arith, eqb-true (kind_at t.node_words node) 0 l))

      leaf_within : Within (list ++ triangles_of m t node) (range 0 n)
      leaf_within =
          let mine : Within (node ∷ taken) (nodes m t) =
          record {
            at_most = λ (i : ℕ). omega (
              arith,
              within.at_most i,
              count_append i taken (node ∷ stack),
              count_cons i node stack,
              count_cons i node taken,
            );
          } in
          let gathered = within_flat_map (triangles_of m t) (node ∷ taken) (nodes m t) mine in
          let whole = triangles_within m t c in
          record {
            at_most = λ (x : ℕ). omega (
              arith,
              gathered.at_most x,
              whole.at_most x,
              s.listed.at_most x,
              count_append x list (triangles_of m t node),
              count_flat_map_cons (triangles_of m t) node x taken,
            );
          }

      abbrev touching : List ℕ
      touching = keep (triangle_touches t box) (triangles_of m t node)

      kept_count : (x : ℕ) (b : Bool) → triangle_touches t box x ≡ b → count x touching ≡ cond b (count x (triangles_of m t node)) 0
      kept_count x b e =
          count_keep (triangle_touches t box) x (triangles_of m t node)
          ∙ ap (λ (b : Bool). cond b (count x (triangles_of m t node)) 0) e

      opened_leaf : node_touches t box node ≡ true → is_leaf m t node ≡ true → Step taken stack list node
      unfolding at_node at_leaf
      opened_leaf e l = record {
        stack' = stack;
        list' = list ++ touching;
        goes =
            opened
            ∙ simp (
              e,
              l,
              le-leb (first_at t.node_words node + second_at t.node_words node) n (c.inside node below l),
              ← (leaf_places m t node l),
            )
            (places_listed t n box stack list (places_of m t node) leaf_within);
        state =
            state_next m t Missed taken stack list node [] touching within s record {
              no_others = record { at_most = λ (i : ℕ). omega (arith, count_nil i) };
              no_strangers = record { at_most = λ (x : ℕ). fewer x (triangle_touches t box x) refl };
              below = λ x u. inl (here x u (under_cases m t node x u) (triangle_touches t box x) refl);
            };
      }
        where
          fewer : (x : ℕ) (b : Bool) → triangle_touches t box x ≡ b → count x touching ≤ count x (triangles_of m t node)
          fewer x true f = omega (arith, kept_count x true f)
          fewer x false f = omega (arith, kept_count x false f)

          here : (x : ℕ) → Under m t node x → (0 < count x (triangles_of m t node)) ⊎ Below m t node x → (b : Bool)
              → triangle_touches t box x ≡ b → Settled m t Missed touching x
          here x u (inl h) true f = inr (omega (arith, h, kept_count x true f))
          here x u (inl h) false f = inl (apart-triangle x (under_below m t c node x below u) f)
          here x u (inr k) b f =
              absurd (omega (arith, k.named, ap (count k.child) (no_children m t node (leaf_not_branch l)), count_nil k.child))

      -- ---- a branch
      left : ℕ
      left = first_at t.node_words node

      right : ℕ
      right = second_at t.node_words node

      child_fits_lem : (child : ℕ) → 0 < count child (children_of m t node) → child_fits t n box node child ≡ true
      unfolding child_fits
      child_fits_lem child h =
          let fits = c.above node child below h in
          and_both (ltb node child) (ltb child t.node_count) (lt-ltb node child fits.0) (lt-ltb child t.node_count fits.1)

      opened_branch : node_touches t box node ≡ true → is_leaf m t node ≡ false → is_branch m t node ≡ true → Step taken stack list node
      unfolding at_node at_branch left right
      opened_branch e l b = record {
        stack' = left ∷ (right ∷ stack);
        list' = list ++ [];
        goes =
            opened
            ∙ simp (e, l, b, child_fits_lem left left_child, child_fits_lem right right_child)
            (ap (walking (left ∷ (right ∷ stack))) (sym (append-nil list)));
        state =
            state_next m t Missed taken stack list node (left ∷ (right ∷ [])) [] within s record {
              no_others = record { at_most = λ (i : ℕ). omega (arith, children i) };
              no_strangers = record { at_most = λ (x : ℕ). omega (arith, count_nil x) };
              below = λ x u. inr (there x (under_cases m t node x u));
            };
      }
        where
          children : (i : ℕ) → count i (children_of m t node) ≡ count i (left ∷ (right ∷ []))
          children i = ap (count i) (branch_children m t node b)

          left_child : 0 < count left (children_of m t node)
          left_child = omega (arith, children left, count_cons left left (right ∷ []), one_same left left refl)

          right_child : 0 < count right (children_of m t node)
          right_child =
              omega (
                arith,
                children right,
                count_cons right left (right ∷ []),
                count_cons right right [],
                one_same right right refl,
              )

          there : (x : ℕ) → (0 < count x (triangles_of m t node)) ⊎ Below m t node x → Waits m t (left ∷ (right ∷ [])) x
          there x (inl h) =
              absurd (omega (
                arith,
                h,
                ap (λ (l : List ℕ). count x (flat_map (placed_at t) l)) (no_places m t node l),
                no_words t x,
              ))
          there x (inr k) = record { node = k.child; on = omega (arith, k.named, children k.child); under = k.under }

    step : Step taken stack list node
    step = go (opens node) refl (node_touches t box node) refl (is_leaf m t node) refl (is_branch m t node) refl
      where
        go : (o : Bool) → opens node ≡ o → (a : Bool) → node_touches t box node ≡ a → (l : Bool) → is_leaf m t node ≡ l → (b : Bool)
            → is_branch m t node ≡ b → Step taken stack list node
        go false d a e l f b g =
            missed_node (passed node below d) (passed_node t n box opens node stack list d)
        go true d false e l f b g = apart_node d e
        go true d true e true f b g = opened_leaf d e f
        go true d true e false f true g = opened_branch d e f g
        go true d true e false f false g =
            absurd (false≢true (sym (ap (λ (k : Bool). k || is_branch m t node) f ∙ g) ∙ c.known node below))

  -- ---- the walk ends
  pub record End (k : ℕ) (stack list : List ℕ) : Type 0 where
    pub taken : List ℕ
    pub list' : List ℕ
    pub goes : times k next (walking stack list) ≡ walking [] list'
    pub state : State m t Missed taken [] list'

  -- as many nodes may still be taken as are not taken
  walk_ends : (k : ℕ) (taken stack list : List ℕ) → length taken + k ≡ t.node_count → State m t Missed taken stack list
      → End k stack list
  unfolding times
  walk_ends zero taken [] list h s = record { taken = taken; list' = list; goes = refl; state = s }
  walk_ends zero taken (node ∷ stack) list h s =
      absurd (omega (
        arith,
        within_length (taken ++ (node ∷ stack)) (nodes m t) (all_within_lem taken (node ∷ stack) list s),
        length-append taken (node ∷ stack),
        length_range 0 t.node_count,
      ))
  walk_ends (suc k) taken [] list h s = record {
    taken = taken;
    list' = list;
    goes = times_empty t n box opens (suc k) list;
    state = s;
  }
  walk_ends (suc k) taken (node ∷ stack) list h s =
      let one = step taken stack list node s in
      let end = walk_ends k (node ∷ taken) one.stack' one.list' (omega arith) one.state in
      record {
        taken = end.taken;
        list' = end.list';
        goes = ap (times k next) one.goes ∙ end.goes;
        state = end.state;
      }

  starting : State m t Missed [] (0 ∷ []) []
  unfolding flat_map
  starting = record {
    spread = record { at_most = λ (i : ℕ). omega arith };
    once = record { at_most = λ (i : ℕ). omega (arith, count_nil i) };
    listed = record { at_most = λ (x : ℕ). omega (arith, count_nil x) };
    left =
        λ (x : ℕ) (h : x < n). inr record {
          node = 0;
          on = omega (arith, count_cons 0 0 [], one_same 0 0 refl);
          under = under_first m t c x h;
        };
  }

  pub ends : End t.node_count (0 ∷ []) []
  ends = walk_ends t.node_count [] (0 ∷ []) [] (omega arith) starting

  -- ---- at its end
  module _ (taken list : List ℕ) (s : State m t Missed taken [] list) where
    pub each_once : Within list (range 0 n)
    each_once =
        let gathered = within_flat_map (triangles_of m t) taken (nodes m t) s.once in
        let whole = triangles_within m t c in
        record { at_most = λ (x : ℕ). omega (arith, s.listed.at_most x, gathered.at_most x, whole.at_most x) }

    pub all_settled : (x : ℕ) → x < n → Settled m t Missed list x
    all_settled x h = go (s.left x h)
      where
        go : Settled m t Missed list x ⊎ Waits m t [] x → Settled m t Missed list x
        go (inl k) = k
        go (inr w) = absurd (omega (arith, w.on, count_nil w.node))
