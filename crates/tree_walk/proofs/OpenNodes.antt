-- An open node, one that touches, and the walk over all of them: what is left of it gives the whole. Assumes nothing.
use Prim.Native.Nat.{ℕ, suc, ◌+◌, ◌-◌, ◌*◌, ◌<◌, ◌≤◌}
use mathlib.Core.Path.{◌≡◌, refl, sym, ap, subst, ◌∙◌}
use mathlib.Core.Bool.{Bool, true, false}
use mathlib.Core.List.{List, [], ◌∷◌}
use native.Mathlib.Omega.{arith}
use borrow.Author.Tests.{ltb-true, lt-ltb, eq-eqb, ne_eqb}
use lib.Dec.{ltb}
use lib.ListN.{length, take}
use Rattle.geometry.specs.Box.{touches}
use Rattle.geometry.specs.declared.aabb.Aabb.{Aabb}
use Rattle.lists.specs.Lists.{every, all_below}
use Rattle.lists.proofs.JoinedTests.{and_first, and_second}
use Rattle.tree.specs.Layout.{Tree, box_at, kind_at, first_at, second_at}
use Rattle.tree_walk.specs.Walk.{Walking, walking, broken, times, at_leaf, at_branch, at_node, take_node, start, ended, walk_of}
use Rattle.tree_walk.specs.Areas.{on_stack, Grown, Placed, WalkRoom}
use Rattle.tree_walk.specs.Opening.{onward, due, open_next, Opens, Branched, OpenRoom, NodeOpened}
use Rattle.std.specs.Prelude.{Option, Some, None}
use Rattle.tree_walk.specs.declared.ahead.Opened.{Opened}
use Rattle.tree_walk.specs.declared.ahead.Opened.TheVariants.{Next, Ended, Stopped}
use Rattle.tree_walk.proofs.Places.{after_leaf, grown_none, grown_twice}
use Rattle.tree_walk.proofs.Limits.{times_empty}
use Rattle.tree_walk.proofs.Opening.{broken_onward, missed_leaves}
use Rattle.tree_walk.proofs.Children.{next_onward, next_stands, next_grown}

module _ (n : ℕ) (box : Aabb) (t : Tree) (list : List ℕ) (found : ℕ) (stack : List ℕ) (node top spent : ℕ)
    (room : OpenRoom n t box list found stack node top spent) where
  abbrev touching : ℕ → Bool
  touching x = touches (box_at t.node_boxes x) box

  abbrev standing : List ℕ
  standing = on_stack stack top

  node_touches_lem : touching node ≡ true
  unfolding every
  node_touches_lem = and_first (touching node) (every touching standing) room.opens.touching

  rest_touching : every touching standing ≡ true
  unfolding every
  rest_touching = and_second (touching node) (every touching standing) room.opens.touching

  node_below : node < t.node_count
  unfolding every
  node_below = ltb-true node t.node_count (and_first (ltb node t.node_count) (all_below t.node_count standing) room.opens.below)

  rest_below : all_below t.node_count standing ≡ true
  unfolding every
  rest_below = and_second (ltb node t.node_count) (all_below t.node_count standing) room.opens.below

  pub open_worded : 3 * node + 3 ≤ length t.node_words
  open_worded = omega (arith, node_below, room.worded)

  abbrev after : Walking → Walking
  after v = ended t n box (times (due t.node_count spent top) (take_node t n box) v)

  abbrev whole : Walking
  whole = onward t n box (suc (due t.node_count spent top)) (node ∷ standing) (take found list)

  node_first : after (at_node t n box node standing (take found list)) ≡ whole
  unfolding onward times take_node
  node_first = refl

  module _ (kind : ℕ) (k : kind ≡ kind_at t.node_words node) where
    abbrev first : ℕ
    first = first_at t.node_words node

    abbrev second : ℕ
    second = second_at t.node_words node

    is_leaf_lem : kind ≡ 0 → after (at_leaf t n box first second standing (take found list)) ≡ whole
    unfolding at_node
    is_leaf_lem e = simp (node_touches_lem, eq-eqb (kind_at t.node_words node) 0 (sym k ∙ e)) at node_first

    is_branch_lem : kind ≡ 1 → after (at_branch t n box node first second standing (take found list)) ≡ whole
    unfolding at_node
    is_branch_lem e =
        let f : kind_at t.node_words node ≡ 1 = sym k ∙ e in
        simp (
          node_touches_lem,
          ne_eqb (kind_at t.node_words node) 0 (λ (z : kind_at t.node_words node ≡ 0). omega arith),
          eq-eqb (kind_at t.node_words node) 1 f,
        ) at node_first

    is_unknown : (kind ≡ 0 → ⊥) → (kind ≡ 1 → ⊥) → after broken ≡ whole
    unfolding at_node
    is_unknown e f =
        simp (
          node_touches_lem,
          ne_eqb (kind_at t.node_words node) 0 (λ (z : kind_at t.node_words node ≡ 0). e (k ∙ z)),
          ne_eqb (kind_at t.node_words node) 1 (λ (z : kind_at t.node_words node ≡ 1). f (k ∙ z)),
        ) at node_first

    stops : (v : Walking) (list' : List ℕ) → broken ≡ v → after v ≡ whole
        → NodeOpened n t box list found stack node top spent Stopped list' stack
    stops v list' b e = record { holds = broken_onward t n box (due t.node_count spent top) v b ∙ e; stands = tt; grown = tt }

    pub open_unknown : (kind ≡ 0 → ⊥) → (kind ≡ 1 → ⊥) → NodeOpened n t box list found stack node top spent Stopped list stack
    open_unknown e f = stops broken list refl (is_unknown e f)

    module _ (e : kind ≡ 0) (r : Option ℕ) (exit : List ℕ)
        (d : Placed (after_leaf n box t.order t.triangle_boxes list found first second) n t.order t.triangle_boxes list found r
        exit) where
      leaf_is : (x : Option ℕ) → r ≡ x → Placed (after_leaf n box t.order t.triangle_boxes list found first second) n t.order
          t.triangle_boxes list found x exit
      leaf_is x q = subst (λ (y : Option ℕ). Placed (after_leaf n box t.order t.triangle_boxes list found first second) n t.order
          t.triangle_boxes list found y exit) q d

      pub open_leaf_broken : r ≡ None → NodeOpened n t box list found stack node top spent Stopped exit stack
      open_leaf_broken q = stops (at_leaf t n box first second standing (take found list)) exit
          ((leaf_is None q).holds t standing refl refl) (is_leaf_lem e)

      pub open_leaf_listed : (listed : ℕ) → r ≡ Some listed → (s : Opened) → s ≡ open_next stack top listed spent
          → NodeOpened n t box list found stack node top spent s exit stack
      unfolding onward
      open_leaf_listed listed q s p =
          let tall : top ≤ spent = omega (arith, room.opens.tall) in
          let all : due t.node_count spent top ≤ due t.node_count spent top = omega arith in
          subst (λ (x : Opened). NodeOpened n t box list found stack node top spent x exit stack) (sym p)
          (record {
            holds = next_onward t n box stack exit top listed spent ∙ ap after ((leaf_is (Some listed) q).holds t standing refl refl)
                ∙ is_leaf_lem e;
            stands = next_stands t.node_count t.node_boxes box (due t.node_count spent top) stack top listed spent
                room.opens.within tall rest_below rest_touching all;
            grown = next_grown n found list exit stack top listed spent (leaf_is (Some listed) q).grown;
          })

    pub open_branch_taken : kind ≡ 1 → (r : Opened) (exit : List ℕ)
        → Branched t.node_count t.node_boxes box node first second stack top found spent r exit
        → NodeOpened n t box list found stack node top spent r list exit
    open_branch_taken e r exit d =
        record {
          holds = d.holds t n list refl refl ∙ is_branch_lem e;
          stands = d.stands;
          grown = d.grown n list (grown_none n found list room.places.inside room.places.below);
        }

-- ---- the walk
module _ (t : Tree) (n : ℕ) (box : Aabb) where
  -- a box off the first node
  pub root_apart : (list : List ℕ) → (t.node_count ≡ 0 → ⊥) → touches (box_at t.node_boxes 0) box ≡ false
      → (ended t n box (walking [] (take 0 list)) ≡ walk_of t n box) × Grown n list list 0 0
  unfolding walk_of start onward every
  root_apart list e m =
      let k : t.node_count ≡ suc (t.node_count - 1) = omega (arith, e) in
      let all : ended t n box (times t.node_count (take_node t n box) (walking (0 ∷ []) [])) ≡ ended t n box (walking [] []) =
      ap (λ (j : ℕ). ended t n box (times j (take_node t n box) (walking (0 ∷ []) []))) k
      ∙ missed_leaves t n box (t.node_count - 1) 0 [] [] m ∙ ap (ended t n box) (times_empty t n box (t.node_count - 1) []) in
      (simp (ne_eqb t.node_count 0 e) (sym all), grown_none n 0 list (omega arith) refl)

  module _ (list₀ stack₀ : List ℕ) where
    -- what is left of the walk gives the whole
    pub record Goes (list stack : List ℕ) (node top found spent : ℕ) : Type 0 where
      pub gives : onward t n box (suc (due t.node_count spent top)) (node ∷ on_stack stack top) (take found list) ≡ walk_of t n box
      pub opens : Opens t.node_count t.node_boxes box stack node top spent
      pub grown : Grown n list₀ list 0 found
      pub long : length list ≡ length list₀
      pub high : length stack ≡ length stack₀

    pub goes_begin : (t.node_count ≡ 0 → ⊥) → touches (box_at t.node_boxes 0) box ≡ true → Goes list₀ stack₀ 0 0 0 1
    unfolding walk_of start onward on_stack every
    goes_begin e m =
        let z : suc (due t.node_count 1 0) ≡ t.node_count = omega (arith, e) in
        let k : 0 < t.node_count = omega (arith, e) in
        record {
          gives = simp (z, ne_eqb t.node_count 0 e);
          opens = record { within = omega arith; tall = omega arith; below = simp (lt-ltb 0 t.node_count k); touching = simp m };
          grown = grown_none n 0 list₀ (omega arith) refl;
          long = refl;
          high = refl;
        }

    module _ (list stack : List ℕ) (node top found spent : ℕ) (g : Goes list stack node top found spent) where
      pub goes_room : WalkRoom n t list₀ stack₀ → OpenRoom n t box list found stack node top spent
      goes_room r =
          record {
            places =
                record {
                  ordered = r.ordered;
                  boxed = r.triangles;
                  lent = omega (arith, r.lent, g.long);
                  inside = g.grown.inside;
                  below = g.grown.below;
                };
            boxed = r.boxed;
            worded = r.worded;
            high = omega (arith, r.high, g.high);
            opens = g.opens;
          }

      module _ (r : Opened) (list' stack' : List ℕ) (d : NodeOpened n t box list found stack node top spent r list' stack') where
        opened_is : (x : Opened) → r ≡ x → NodeOpened n t box list found stack node top spent x list' stack'
        opened_is x e = subst (λ (y : Opened). NodeOpened n t box list found stack node top spent y list' stack') e d

        pub goes_next : (node' top' more spent' : ℕ) → r ≡ Next node' top' more spent' → length list' ≡ length list → length stack' ≡
            length stack → Goes list' stack' node' top' more spent'
        goes_next node' top' more spent' e l m =
            let d' : NodeOpened n t box list found stack node top spent (Next node' top' more spent') list' stack' =
            opened_is (Next node' top' more spent') e in
            record {
              gives = d'.holds ∙ g.gives;
              opens = d'.stands.0;
              grown = grown_twice n 0 found more list₀ list list' g.grown d'.grown;
              long = l ∙ g.long;
              high = m ∙ g.high;
            }

        pub goes_less : (node' top' more spent' : ℕ) → r ≡ Next node' top' more spent' → due t.node_count spent' top' < due
            t.node_count spent top
        goes_less node' top' more spent' e = (opened_is (Next node' top' more spent') e).stands.1

        pub goes_stopped : r ≡ Stopped → ended t n box broken ≡ walk_of t n box
        unfolding ended
        goes_stopped e = (opened_is Stopped e).holds ∙ g.gives

        pub goes_ended : (more : ℕ) → r ≡ Ended more → (ended t n box (walking [] (take more list')) ≡ walk_of t n box) × Grown n list₀
            list' 0 more
        goes_ended more e =
            let d' : NodeOpened n t box list found stack node top spent (Ended more) list' stack' = opened_is (Ended more) e in
            (d'.holds ∙ g.gives, grown_twice n 0 found more list₀ list list' g.grown d'.grown)
