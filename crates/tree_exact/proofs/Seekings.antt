-- The state of the walk: what it took and what is on the stack is each node once at most, and a triangle that could still change what was
-- found stands under a node on the stack; one more node keeps it so. Assumes that those hit are hit at numbers, and that nodes are passed
-- over safely.
use Prim.Native.Nat.{ℕ, ◌+◌, ◌<◌}
use mathlib.Core.Path.{◌≡◌, refl, sym, ap, ◌∙◌, subst}
use mathlib.Core.Logic.{◌⊎◌, inl, inr}
use mathlib.Core.Bool.{Bool, true, false, ◌||◌, cond, false≢true}
use mathlib.Core.List.{List, [], ◌∷◌, ◌++◌, Memᴰ}
use native.Mathlib.Omega.{arith}
use lib.Dec.{ltb}
use borrow.Author.Tests.{lt-ltb, le-leb, eqb-true, ne_eqb}
use Rattle.lists.proofs.Members.{Each, each_rest}
use Rattle.lists.specs.Lists.{range, count, flat_map}
use Rattle.lists.proofs.CountLaws.{one, one_same, one_other, same_or_other, count_cons, count_nil, count_append, count_flat_map_cons}
use Rattle.lists.proofs.CountLaws.{member_of_count, count_of_member, range_bounds, count_range_inside, gathers}
use Rattle.lists.proofs.WithinLaws.{Within, within_through, within_flat_map}
use Rattle.casts.specs.Answer.{Answer}
use Rattle.casts.proofs.AnswerLists.{HitsAreNumbers}
use Rattle.casts.specs.Reach.{reach_of}
use Rattle.nearest_hit.specs.Summary.{Summary, nothing, summary_from, note_of}
use Rattle.tree.specs.Layout.{Tree, word_at, kind_at, first_at, second_at}
use Rattle.tree.specs.Mesh.{Mesh}
use Rattle.tree_check.specs.Check.{triangle_count, nodes, is_leaf, is_branch, children_of, places_of}
use Rattle.mesh.proofs.CheckedTree.{Checked, branch_children, no_children, leaf_places, no_places}
use Rattle.mesh.proofs.TreeCounts.{placed_at, triangles_of, named_within, triangles_within}
use Rattle.tree_exact.specs.FirstWalk.{seeking, take_place, take_places, at_leaf, at_branch, at_node}
use Rattle.tree_exact.specs.WalkDemand.{Under, here, there, Absorbed, PassesSafely}
use Rattle.tree_exact.proofs.Absorbing.{absorbed_later, absorbed_member, all_noted_before}

module _ (m : Mesh) (t : Tree) where
  -- ---- what stands under a node
  pub record Below (node x : ℕ) : Type 0 where
    pub child : ℕ
    pub named : 0 < count child (children_of m t node)
    pub under : Under m t child x

  pub under_cases : (node x : ℕ) → Under m t node x → (0 < count x (triangles_of m t node)) ⊎ Below node x
  under_cases node x (here i place h) =
      inl (gathers (placed_at t) (places_of m t node) place x h
      (omega (arith, count_cons x (word_at t.order place) [], one_same x (word_at t.order place) refl)))
  under_cases node x (there i child y h u) = inr record { child = child; named = h; under = u }

  pub record Waits (stack : List ℕ) (x : ℕ) : Type 0 where
    pub node : ℕ
    pub on : 0 < count node stack
    pub under : Under m t node x

  module _ (answer : ℕ → Answer) where
    abbrev all : List ℕ
    all = range 0 (triangle_count m t)

    pub record State (taken stack : List ℕ) (s : Summary) : Type 0 where
      -- taken or on the stack is only what was named by a node that was taken, so many times at most
      pub spread : Within (taken ++ stack) (0 ∷ flat_map (children_of m t) taken)
      pub once : Within taken (nodes m t)
      -- what all triangles come to, on top of what was found
      pub whole : summary_from answer s all ≡ summary_from answer nothing all
      pub left : (x : ℕ) → x < triangle_count m t → Absorbed answer s x ⊎ Waits stack x

    -- one more node: what of its children goes on the stack, and what is found
    record Opens (s : Summary) (node : ℕ) (children : List ℕ) (s' : Summary) : Type 0 where
      no_others : Within children (children_of m t node)
      same : summary_from answer s' all ≡ summary_from answer s all
      stays : (x : ℕ) → Absorbed answer s x → Absorbed answer s' x
      below : (x : ℕ) → Under m t node x → Absorbed answer s' x ⊎ Waits children x

    state_next : (taken stack : List ℕ) (s : Summary) (node : ℕ) (children : List ℕ) (s' : Summary)
        → Within (taken ++ (node ∷ stack)) (nodes m t) → State taken (node ∷ stack) s → Opens s node children s'
        → State (node ∷ taken) (children ++ stack) s'
    state_next taken stack s node children s' within a o = record {
      spread = record {
        at_most = λ (i : ℕ). omega (
          arith,
          count_append i (node ∷ taken) (children ++ stack),
          count_append i children stack,
          count_cons i node taken,
          old i,
          a.spread.at_most i,
          o.no_others.at_most i,
          count_cons i 0 (flat_map (children_of m t) taken),
          count_cons i 0 (flat_map (children_of m t) (node ∷ taken)),
          count_flat_map_cons (children_of m t) node i taken,
        );
      };
      once = record { at_most = λ (i : ℕ). omega (arith, within.at_most i, old i, count_cons i node taken) };
      whole = o.same ∙ a.whole;
      left = λ (x : ℕ) (h : x < triangle_count m t). from x (a.left x h);
    }
      where
        old : (i : ℕ) → count i (taken ++ (node ∷ stack)) ≡ count i taken + (one i node + count i stack)
        old i = omega (arith, count_append i taken (node ∷ stack), count_cons i node stack)

        child : (x : ℕ) → Absorbed answer s' x ⊎ Waits children x → Absorbed answer s' x ⊎ Waits (children ++ stack) x
        child x (inl h) = inl h
        child x (inr w) =
            inr record { node = w.node; on = omega (arith, w.on, count_append w.node children stack); under = w.under }

        still : (x : ℕ) (w : Waits (node ∷ stack) x) → (w.node ≡ node) ⊎ (w.node ≡ node → ⊥)
            → Absorbed answer s' x ⊎ Waits (children ++ stack) x
        still x w (inl e) = child x (o.below x (subst (λ (i : ℕ). Under m t i x) e w.under))
        still x w (inr n) =
            inr record {
              node = w.node;
              on =
                  omega (
                    arith,
                    w.on,
                    count_cons w.node node stack,
                    one_other w.node node n,
                    count_append w.node children stack,
                  );
              under = w.under;
            }

        from : (x : ℕ) → Absorbed answer s x ⊎ Waits (node ∷ stack) x → Absorbed answer s' x ⊎ Waits (children ++ stack) x
        from x (inl h) = inl (o.stays x h)
        from x (inr w) = still x w (same_or_other w.node node)

-- ---- the places of a leaf
module _ (t : Tree) (n : ℕ) (answer : ℕ → Answer) (opens : ℕ → Summary → Bool) (left_first : ℕ → Bool) where
  places_noted : (stack : List ℕ) (s : Summary) (places : List ℕ) → Each (λ (p : ℕ). word_at t.order p < n) places
      → take_places t n answer opens left_first (seeking stack s) places
      ≡ seeking stack (summary_from answer s (flat_map (placed_at t) places))
  unfolding take_places take_place flat_map summary_from
  places_noted stack s [] each = refl
  places_noted stack s (p ∷ places) each =
      simp (lt-ltb (word_at t.order p) n (each p (Memᴰ.head refl)))
      (places_noted stack (note_of s (word_at t.order p) (reach_of (answer (word_at t.order p)))) places
      (each_rest (λ (p : ℕ). word_at t.order p < n) p places each))

no_words : (t : Tree) (x : ℕ) → count x (flat_map (placed_at t) []) ≡ 0
unfolding flat_map
no_words t x = count_nil x

-- ---- one node of a checked tree
module _ (m : Mesh) (t : Tree) (answer : ℕ → Answer) (opens : ℕ → Summary → Bool) (left_first : ℕ → Bool) (c : Checked m t)
    (some : 0 < t.node_count) (numbers : HitsAreNumbers answer) (safely : PassesSafely m t answer opens) where
  pub all_within_lem : (taken stack : List ℕ) (s : Summary) → State m t answer taken stack s → Within (taken ++ stack) (nodes m t)
  all_within_lem taken stack s a =
      let kids = within_flat_map (children_of m t) taken (nodes m t) a.once in
      within_through (taken ++ stack) (0 ∷ flat_map (children_of m t) taken) (nodes m t) a.spread
      (within_through (0 ∷ flat_map (children_of m t) taken) (0 ∷ flat_map (children_of m t) (nodes m t)) (nodes m t)
      (record {
        at_most = λ (i : ℕ). omega (
          arith,
          kids.at_most i,
          count_cons i 0 (flat_map (children_of m t) taken),
          count_cons i 0 (flat_map (children_of m t) (nodes m t)),
        );
      })
      (named_within m t c some))

  pub record Step (taken stack : List ℕ) (s : Summary) (node : ℕ) : Type 0 where
    pub fits : node < t.node_count
    pub stack' : List ℕ
    pub s' : Summary
    pub goes : at_node t (triangle_count m t) answer opens left_first node stack s ≡ seeking stack' s'
    pub state : State m t answer (node ∷ taken) stack' s'

  module _ (taken stack : List ℕ) (s : Summary) (node : ℕ) (a : State m t answer taken (node ∷ stack) s) where
    within : Within (taken ++ (node ∷ stack)) (nodes m t)
    within = all_within_lem taken (node ∷ stack) s a

    below : node < t.node_count
    below =
        omega (
          arith,
          range_bounds node 0 t.node_count
              (omega (
                arith,
                within.at_most node,
                count_append node taken (node ∷ stack),
                count_cons node node stack,
                one_same node node refl,
              )),
        )

    next : (children : List ℕ) (s' : Summary) → Opens m t answer s node children s' → State m t answer (node ∷ taken) (children ++ stack) s'
    next children s' o = state_next m t answer taken stack s node children s' within a o

    -- a node that is passed over
    passed : opens node s ≡ false → Step taken stack s node
    unfolding at_node
    passed e = record {
      fits = below;
      stack' = stack;
      s' = s;
      goes = simp e;
      state =
          next [] s record {
            no_others = record { at_most = λ (i : ℕ). omega (arith, count_nil i) };
            same = refl;
            stays = λ x h. h;
            below = λ x u. inl (safely node s below e x u);
          };
    }

    -- a leaf that is opened
    held : (x : ℕ) → 0 < count x (triangles_of m t node) → x < triangle_count m t
    held x h =
        let gathered = gathers (triangles_of m t) (nodes m t) node x (omega (
          arith,
          count_range_inside node 0 t.node_count (omega arith)
              (omega (arith, below)),
        )) h in
        omega (arith, range_bounds x 0 (triangle_count m t) (omega (arith, gathered, (triangles_within m t c).at_most x)))

    placed : (p : ℕ) → Memᴰ p (places_of m t node) → word_at t.order p < triangle_count m t
    placed p q =
        let x = word_at t.order p in
        held x (gathers (placed_at t) (places_of m t node) p x (count_of_member p (places_of m t node) q)
        (omega (arith, count_cons x x [], one_same x x refl)))

    leaf_not_branch : is_leaf m t node ≡ true → is_branch m t node ≡ false
    leaf_not_branch l = ne_eqb (kind_at t.node_words node) 1 (λ e. omega (arith, eqb-true (kind_at t.node_words node) 0 l))

    opened_leaf : opens node s ≡ true → is_leaf m t node ≡ true → Step taken stack s node
    unfolding at_node at_leaf
    opened_leaf e l = record {
      fits = below;
      stack' = stack;
      s' = found;
      goes =
          simp (
            e,
            l,
            le-leb (first_at t.node_words node + second_at t.node_words node) (triangle_count m t) (c.inside node below l),
            ← (leaf_places m t node l),
          )
          (places_noted t (triangle_count m t) answer opens left_first stack s (places_of m t node) placed);
      state =
          next [] found record {
            no_others = record { at_most = λ (i : ℕ). omega (arith, count_nil i) };
            same =
                all_noted_before answer numbers s (triangles_of m t node) (range 0 (triangle_count m t))
                (λ x q. member x (held x (count_of_member x (triangles_of m t node) q)));
            stays = λ x h. absorbed_later answer numbers s (triangles_of m t node) x h;
            below = λ x u. inl (under x (under_cases m t node x u));
          };
    }
      where
        found : Summary
        found = summary_from answer s (triangles_of m t node)

        member : (x : ℕ) → x < triangle_count m t → Memᴰ x (range 0 (triangle_count m t))
        member x h = member_of_count x (range 0 (triangle_count m t))
            (omega (arith, count_range_inside x 0 (triangle_count m t) (omega arith) (omega arith)))

        under : (x : ℕ) → (0 < count x (triangles_of m t node)) ⊎ Below m t node x → Absorbed answer found x
        under x (inl h) = absorbed_member answer numbers s (triangles_of m t node) x (member_of_count x (triangles_of m t node) h)
        under x (inr b) =
            absurd (omega (arith, b.named, ap (count b.child) (no_children m t node (leaf_not_branch l)), count_nil b.child))

    child_above : (child : ℕ) → 0 < count child (children_of m t node) → ltb node child ≡ true
    child_above child h = lt-ltb node child (c.above node child below h).0

    -- a branch that is opened, its children in either order
    left : ℕ
    left = first_at t.node_words node

    right : ℕ
    right = second_at t.node_words node

    both : Bool → List ℕ
    both b = cond b (left ∷ (right ∷ [])) (right ∷ (left ∷ []))

    module _ (e : opens node s ≡ true) (l : is_leaf m t node ≡ false) (b : is_branch m t node ≡ true) where
      children : (i : ℕ) → count i (children_of m t node) ≡ one i left + one i right
      unfolding left right
      children i =
          ap (count i) (branch_children m t node b) ∙ omega (arith, count_cons i left (right ∷ []), count_cons i right [], count_nil i)

      either : (i : ℕ) (f : Bool) → count i (both f) ≡ one i left + one i right
      unfolding both
      either i true = omega (arith, count_cons i left (right ∷ []), count_cons i right [], count_nil i)
      either i false = omega (arith, count_cons i right (left ∷ []), count_cons i left [], count_nil i)

      opened_branch : (f : Bool) → left_first node ≡ f → Step taken stack s node
      unfolding at_node at_branch both left right
      opened_branch f g = record {
        fits = below;
        stack' = both f ++ stack;
        s' = s;
        goes =
            simp (
              e,
              l,
              b,
              child_above left (omega (arith, children left, one_same left left refl)),
              child_above right (omega (arith, children right, one_same right right refl)),
              g,
            )
            (ordered f);
        state =
            next (both f) s record {
              no_others = record { at_most = λ (i : ℕ). omega (arith, children i, either i f) };
              same = refl;
              stays = λ x h. h;
              below = λ x u. under x (under_cases m t node x u);
            };
      }
        where
          ordered : (f : Bool)
              → seeking (cond f (left ∷ (right ∷ stack)) (right ∷ (left ∷ stack))) s ≡ seeking (both f ++ stack) s
          ordered true = refl
          ordered false = refl

          no_places_here : (x : ℕ) → count x (triangles_of m t node) ≡ 0
          no_places_here x = ap (λ (l : List ℕ). count x (flat_map (placed_at t) l)) (no_places m t node l) ∙ no_words t x

          under : (x : ℕ) → (0 < count x (triangles_of m t node)) ⊎ Below m t node x → Absorbed answer s x ⊎ Waits m t (both f) x
          under x (inl h) = absurd (omega (arith, h, no_places_here x))
          under x (inr w) =
              inr record {
                node = w.child;
                on = omega (arith, w.named, children w.child, either w.child f);
                under = w.under;
              }

    -- whatever the node is
    pub step : Step taken stack s node
    step = go (opens node s) refl (is_leaf m t node) refl (is_branch m t node) refl
      where
        go : (o : Bool) → opens node s ≡ o → (l : Bool) → is_leaf m t node ≡ l → (b : Bool) → is_branch m t node ≡ b
            → Step taken stack s node
        go false e l f b g = passed e
        go true e true f b g = opened_leaf e f
        go true e false f true g = opened_branch e f g (left_first node) refl
        go true e false f false g = absurd (false≢true (sym (ap (λ (k : Bool). k || is_branch m t node) f ∙ g) ∙ c.known node below))
