-- One node: it lies within the areas, and each outcome leaves what the definition of the walk says. Assumes nothing.
use Prim.Native.Nat.{ℕ, ◌+◌, ◌*◌, ◌<◌, ◌≤◌}
use mathlib.Core.Path.{◌≡◌, refl, sym, subst, ◌∙◌}
use mathlib.Core.Bool.{Bool, true, false}
use mathlib.Core.List.{List, ◌∷◌}
use native.Mathlib.Omega.{arith}
use borrow.Author.Tests.{ltb-true, eq-eqb, ne_eqb}
use lib.Dec.{ltb}
use lib.ListN.{length, take}
use Rattle.geometry.specs.Box.{touches}
use Rattle.geometry.specs.declared.aabb.Aabb.{Aabb}
use Rattle.lists.specs.Lists.{every, all_below}
use Rattle.tree.specs.Layout.{Tree, box_at, kind_at, first_at, second_at}
use Rattle.lists.proofs.JoinedTests.{and_first, and_second}
use Rattle.tree_walk.specs.Walk.{Walking, walking, at_branch, at_node, take_node}
use Rattle.tree_walk.specs.Areas.{on_stack, popped, Grown, Placed, Pushed, NodeRoom, NodeTaken}
use Rattle.std.specs.Prelude.{Option, Some, None}
use Rattle.tree_walk.specs.declared.step.Stepped.{Stepped}
use Rattle.tree_walk.specs.declared.step.Stepped.TheVariants.{Stopped}
use Rattle.tree_walk.proofs.Places.{after_leaf, grown_none}
use Rattle.tree_walk.proofs.Branches.{popped_held, popped_kept}

-- what a test of two boxes says of the box that was read
pub touch_is : (r : Bool) (a b box : Aabb) → r ≡ touches a box → a ≡ b → (v : Bool) → r ≡ v → touches b box ≡ v
touch_is r a b box e f v g = cc

module _ (n : ℕ) (box : Aabb) (t : Tree) (list : List ℕ) (found : ℕ) (stack : List ℕ) (node top : ℕ)
    (room : NodeRoom n t list found stack node top) where
  node_below : node < t.node_count
  unfolding every
  node_below = ltb-true node t.node_count (and_first (ltb node t.node_count) (all_below t.node_count (on_stack stack top)) room.below)

  pub rest_below : all_below t.node_count (on_stack stack top) ≡ true
  unfolding every
  rest_below = and_second (ltb node t.node_count) (all_below t.node_count (on_stack stack top)) room.below

  pub node_boxed : 6 * node + 6 ≤ length t.node_boxes
  node_boxed = omega (arith, node_below, room.boxed)

  pub node_worded : 3 * node + 3 ≤ length t.node_words
  node_worded = omega (arith, node_below, room.worded)

  abbrev after : Walking
  after = take_node t n box (walking (node ∷ on_stack stack top) (take found list))

  is_after : at_node t n box node (on_stack stack top) (take found list) ≡ after
  unfolding take_node
  is_after = refl

  no_more : Grown n list list found found
  no_more = grown_none n found list room.places.inside room.places.below

  -- the list has grown, and the next node comes from the stack
  listed_popped : (more : ℕ) (list' : List ℕ) → walking (on_stack stack top) (take more list') ≡ after → Grown n list list' found more
      → (r : Stepped) → r ≡ popped stack top more → NodeTaken n box t list found stack node top r list' stack
  listed_popped more list' e g r p =
      let l : top ≤ top + 1 = omega arith in
      subst (λ (x : Stepped). NodeTaken n box t list found stack node top x list' stack) (sym p)
      (record {
        holds = popped_held stack list' top more ∙ e;
        kept = popped_kept n t.node_count found list list' stack top more (top + 1)
            g rest_below l;
      })

  pub node_missed : touches (box_at t.node_boxes node) box ≡ false → (r : Stepped) → r ≡ popped stack top found → NodeTaken n box t list
      found stack node top r list stack
  unfolding at_node
  node_missed m = listed_popped found list (simp m at is_after) no_more

  module _ (m : touches (box_at t.node_boxes node) box ≡ true) (kind : ℕ) (k : kind ≡ kind_at t.node_words node) where
    abbrev first : ℕ
    first = first_at t.node_words node

    abbrev second : ℕ
    second = second_at t.node_words node

    is_leaf_lem : kind ≡ 0 → after_leaf n box t.order t.triangle_boxes list found first second t (on_stack stack top) ≡ after
    unfolding at_node
    is_leaf_lem e = simp (m, eq-eqb (kind_at t.node_words node) 0 (sym k ∙ e)) at is_after

    is_branch_lem : kind ≡ 1 → at_branch t n box node first second (on_stack stack top) (take found list) ≡ after
    unfolding at_node
    is_branch_lem e =
        let f : kind_at t.node_words node ≡ 1 = sym k ∙ e in
        simp (
          m,
          ne_eqb (kind_at t.node_words node) 0 (λ (z : kind_at t.node_words node ≡ 0). omega arith),
          eq-eqb
              (kind_at t.node_words node) 1 f,
        ) at is_after

    pub kind_unknown : (kind ≡ 0 → ⊥) → (kind ≡ 1 → ⊥) → NodeTaken n box t list found stack node top Stopped list stack
    unfolding at_node
    kind_unknown e f =
        record {
          holds =
              simp (
                m,
                ne_eqb (kind_at t.node_words node) 0 (λ (z : kind_at t.node_words node ≡ 0). e (k ∙ z)),
                ne_eqb
                    (kind_at t.node_words node) 1 (λ (z : kind_at t.node_words node ≡ 1). f (k ∙ z)),
              )
              at is_after;
          kept = tt;
        }

    module _ (e : kind ≡ 0) (r : Option ℕ) (exit : List ℕ)
        (d : Placed (after_leaf n box t.order t.triangle_boxes list found first second) n t.order t.triangle_boxes list found r
        exit) where
      leaf_is : (x : Option ℕ) → r ≡ x → Placed (after_leaf n box t.order t.triangle_boxes list found first second) n t.order
          t.triangle_boxes list found x exit
      leaf_is x q = subst (λ (y : Option ℕ). Placed (after_leaf n box t.order t.triangle_boxes list found first second) n t.order
          t.triangle_boxes list found y exit) q d

      pub leaf_broken : r ≡ None → NodeTaken n box t list found stack node top Stopped exit stack
      leaf_broken q = record { holds = (leaf_is None q).holds t (on_stack stack top) refl refl ∙ is_leaf_lem e; kept = tt }

      pub leaf_listed : (listed : ℕ) → r ≡ Some listed → (s : Stepped) → s ≡ popped stack top listed → NodeTaken n box t list found stack
          node top s exit stack
      leaf_listed listed q = listed_popped listed exit ((leaf_is (Some listed) q).holds t (on_stack stack top) refl refl ∙ is_leaf_lem e)
          (leaf_is (Some listed) q).grown

    pub branch_taken : kind ≡ 1 → (r : Stepped) (exit : List ℕ) → Pushed t.node_count node first second stack top found r exit → NodeTaken
        n box t list found stack node top r list exit
    branch_taken e r exit d = record { holds = d.holds t n box list refl ∙ is_branch_lem e; kept = d.kept n list list found no_more }
