-- The walk over all nodes: what is left of it gives the whole. Assumes nothing.
use Prim.Native.Nat.{ℕ, suc, ◌+◌, ◌-◌, ◌<◌, ◌≤◌}
use mathlib.Core.Path.{◌≡◌, refl, sym, ap, subst, ◌∙◌}
use mathlib.Core.List.{List, [], ◌∷◌}
use native.Mathlib.Omega.{arith}
use borrow.Author.Tests.{lt-ltb, ne_eqb}
use lib.ListN.{length, take}
use Rattle.geometry.specs.declared.aabb.Aabb.{Aabb}
use Rattle.lists.specs.Lists.{every}
use Rattle.tree.specs.Layout.{Tree}
use Rattle.tree_walk.specs.Walk.{Walking, walking, broken, times, take_node, start, ended, walk_of}
use Rattle.tree_walk.specs.Areas.{on_stack, Grown, Stands, NodeRoom, NodeTaken, WalkRoom}
use Rattle.tree_walk.specs.declared.step.Stepped.{Stepped}
use Rattle.tree_walk.specs.declared.step.Stepped.TheVariants.{Next, Ended, Stopped}
use Rattle.tree_walk.proofs.Limits.{times_broken, times_empty}
use Rattle.tree_walk.proofs.Places.{grown_none, grown_twice}

module _ (t : Tree) (n : ℕ) (box : Aabb) where
  -- with no node the list is empty
  pub walks_none : (list : List ℕ) → t.node_count ≡ 0 → (ended t n box (walking [] (take 0 list)) ≡ walk_of t n box) × Grown n list list 0 0
  unfolding walk_of start times every
  walks_none list e = (simp e, grown_none n 0 list (omega arith) refl)

  module _ (list₀ stack₀ : List ℕ) where
    -- what is left of the walk gives the whole
    pub record Walks (list stack : List ℕ) (node top found taken : ℕ) : Type 0 where
      pub gives : ended t n box (times (t.node_count - taken) (take_node t n box) (walking (node ∷ on_stack stack top) (take found list))) ≡
          walk_of t n box
      pub grown : Grown n list₀ list 0 found
      pub stands : Stands t.node_count taken stack node top
      pub long : length list ≡ length list₀
      pub high : length stack ≡ length stack₀

    pub walks_begin : (t.node_count ≡ 0 → ⊥) → Walks list₀ stack₀ 0 0 0 0
    unfolding walk_of start on_stack every
    walks_begin e =
        let z : t.node_count - 0 ≡ t.node_count = omega arith in
        let k : 0 < t.node_count = omega (arith, e) in
        record {
          gives = simp (z, ne_eqb t.node_count 0 e);
          grown = grown_none n 0 list₀ (omega arith) refl;
          stands = record { within = omega arith; below = simp (lt-ltb 0 t.node_count k) };
          long = refl;
          high = refl;
        }

    module _ (list stack : List ℕ) (node top found taken : ℕ) (w : Walks list stack node top found taken) where
      -- a node is still to be taken when as many were taken as there are
      pub walks_past : t.node_count ≤ taken → ended t n box broken ≡ walk_of t n box
      unfolding times ended
      walks_past h =
          let e : t.node_count - taken ≡ 0 = omega arith in
          rw e at w.gives

      module _ (h : taken < t.node_count) where
        pub walks_room : WalkRoom n t list₀ stack₀ → NodeRoom n t list found stack node top
        walks_room r =
            record {
              places =
                  record {
                    ordered = r.ordered;
                    boxed = r.triangles;
                    lent = omega (arith, r.lent, w.long);
                    inside = w.grown.inside;
                    below = w.grown.below;
                  };
              boxed = r.boxed;
              worded = r.worded;
              taller = omega (arith, r.high, w.high, w.stands.within);
              below = w.stands.below;
            }

        abbrev rest : Walking → Walking
        rest v = ended t n box (times (t.node_count - (taken + 1)) (take_node t n box) v)

        -- the node at hand first
        node_first : rest (take_node t n box (walking (node ∷ on_stack stack top) (take found list))) ≡ walk_of t n box
        unfolding times
        node_first =
            let e : t.node_count - taken ≡ suc (t.node_count - (taken + 1)) = omega arith in
            rw e at w.gives

        module _ (r : Stepped) (list' stack' : List ℕ) (d : NodeTaken n box t list found stack node top r list' stack') where
          taken_is : (x : Stepped) → r ≡ x → NodeTaken n box t list found stack node top x list' stack'
          taken_is x e = subst (λ (y : Stepped). NodeTaken n box t list found stack node top y list' stack') e d

          pub walks_next : (node' top' more : ℕ) → r ≡ Next node' top' more → length list' ≡ length list → length stack' ≡ length stack →
              Walks list' stack' node' top' more (taken + 1)
          walks_next node' top' more e l m =
              let d' : NodeTaken n box t list found stack node top (Next node' top' more) list' stack' = taken_is (Next node' top' more)
              e in
              record {
                gives = ap rest d'.holds ∙ node_first;
                grown = grown_twice n 0 found more list₀ list list' w.grown d'.kept.grown;
                stands = record { within = omega (arith, d'.kept.stands.within, w.stands.within); below = d'.kept.stands.below };
                long = l ∙ w.long;
                high = m ∙ w.high;
              }

          pub walks_stopped : r ≡ Stopped → ended t n box broken ≡ walk_of t n box
          walks_stopped e = ap (ended t n box) (sym (times_broken t n box (t.node_count - (taken + 1)))) ∙ ap rest
              (taken_is Stopped e).holds ∙ node_first

          pub walks_ended : (more : ℕ) → r ≡ Ended more → (ended t n box (walking [] (take more list')) ≡ walk_of t n box) × Grown n list₀
              list' 0 more
          walks_ended more e =
              let d' : NodeTaken n box t list found stack node top (Ended more) list' stack' = taken_is (Ended more) e in (
                ap (ended t n box) (sym (times_empty t n box (t.node_count - (taken + 1)) (take more list'))) ∙ ap rest d'.holds ∙
                    node_first,
                grown_twice n 0 found more list₀ list list' w.grown d'.kept,
              )
