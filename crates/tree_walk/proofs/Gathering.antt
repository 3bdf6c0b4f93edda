-- The walk under a limit over its areas: what is left of it gives the whole, and the nodes taken and those that are still looked at are
-- the walk's. Assumes nothing.
use Prim.Native.Nat.{ℕ, suc, ◌+◌, ◌-◌, ◌<◌, ◌≤◌}
use mathlib.Core.Path.{◌≡◌, refl, sym, ap, subst, ◌∙◌}
use mathlib.Core.Bool.{Bool, true, false, cond}
use mathlib.Core.List.{List, [], ◌∷◌}
use native.Mathlib.Omega.{arith}
use borrow.Author.Tests.{ltb-true, ltb-false, le-leb, lt-leb, ne_eqb}
use lib.Dec.{ltb}
use lib.ListN.{length, take}
use Rattle.geometry.specs.declared.aabb.Aabb.{Aabb}
use Rattle.tree.specs.Layout.{Tree}
use Rattle.tree_walk.specs.Walk.{Walking, walking, broken, take_node, start, ended, walk_of}
use Rattle.tree_walk.specs.Areas.{on_stack, walking_after, Grown, NodeRoom, NodeTaken, WalkRoom}
use Rattle.tree_walk.specs.declared.step.Stepped.{Stepped}
use Rattle.tree_walk.specs.declared.step.Stepped.TheVariants.{Next, Ended, Stopped}
use Rattle.tree_walk.proofs.Walks.{Walks, walks_none, walks_begin, walks_room, walks_next, walks_stopped, walks_ended, walks_past}
use Rattle.tree_walk.specs.Looking.{looked, used_up, looked_in, nodes_looked, ended_look, walk_within, allowed_of}
use Rattle.tree_walk.proofs.Limits.{looked_broken, looked_empty, looked_open, within_is}

-- neither more than there are nor more than the limit, and one of the two
pub record Allowed (nodes limit allowed : ℕ) : Type 0 where
  pub few : allowed ≤ nodes
  pub within : allowed ≤ limit
  pub past : allowed < limit → allowed ≡ nodes

pub allowed_is : (nodes limit allowed : ℕ) → allowed ≡ allowed_of nodes limit → Allowed nodes limit allowed
allowed_is nodes limit allowed e = go (ltb limit nodes) (ltb-true limit nodes) (ltb-false limit nodes) e
  where
    go : (b : Bool) → (b ≡ true → limit < nodes) → (b ≡ false → nodes ≤ limit) → allowed ≡ cond b limit nodes → Allowed nodes limit
        allowed
    go true less more f = let h = less refl in record { few = omega arith; within = omega arith; past = λ k. absurd (omega arith) }
    go false less more f = let h = more refl in record { few = omega arith; within = omega arith; past = λ k. f }

nothing_looked : (t : Tree) (n : ℕ) (box : Aabb) → t.node_count ≡ 0 → 0 ≡ nodes_looked t n box
unfolding nodes_looked start
nothing_looked t n box e = simp e (sym (looked_empty t n box 1 []))

module _ (t : Tree) (n : ℕ) (box : Aabb) (limit : ℕ) where
  -- ---- the answers
  walk_answer : (spent : ℕ) (w : Walking) → spent ≡ nodes_looked t n box → spent ≤ limit → ended t n box w ≡ walk_of t n box
      → ended_look t n box (looked spent w) ≡ walk_within t n box limit
  unfolding ended_look
  walk_answer spent w e h f = rw (f, e) (sym (within_is t n box limit ∙ simp (le-leb (nodes_looked t n box) limit (omega arith)) refl))

  used_answer : (spent : ℕ) → spent ≡ limit → limit < nodes_looked t n box → ended_look t n box (used_up spent) ≡ walk_within t n box limit
  unfolding ended_look
  used_answer spent e h = rw e (sym (within_is t n box limit ∙ simp (lt-leb (nodes_looked t n box) limit h) refl))

  -- with no node the list is empty and nothing is spent
  pub gathers_none : (list : List ℕ) → t.node_count ≡ 0
      → (ended_look t n box (looked 0 (walking [] (take 0 list))) ≡ walk_within t n box limit) × Grown n list list 0 0
  gathers_none list e = (
    walk_answer 0 (walking [] (take 0 list)) (nothing_looked t n box e) (omega arith)
        (walks_none t n box list e).0,
    (walks_none t n box list e).1,
  )

  module _ (allowed : ℕ) (list₀ stack₀ : List ℕ) where
    -- what is left gives the whole
    pub record Gathers (list stack : List ℕ) (node top found taken : ℕ) : Type 0 where
      pub walks : Walks t n box list₀ stack₀ list stack node top found taken
      pub counts : taken + looked_in t n box (suc t.node_count - taken) (walking (node ∷ on_stack stack top) (take found list)) ≡
          nodes_looked t n box
      pub within : taken ≤ allowed

    pub gathers_begin : (t.node_count ≡ 0 → ⊥) → Gathers list₀ stack₀ 0 0 0 0
    unfolding nodes_looked start on_stack
    gathers_begin e =
        let z : suc t.node_count - 0 ≡ suc t.node_count = omega arith in
        let d : 0 + looked_in t n box (suc t.node_count) (walking (0 ∷ []) []) ≡ looked_in t n box (suc t.node_count)
        (walking (0 ∷ []) []) = omega arith in
        record {
          walks = walks_begin t n box list₀ stack₀ e;
          counts = simp (z, ne_eqb t.node_count 0 e) d;
          within = omega arith;
        }

    module _ (list stack : List ℕ) (node top found taken : ℕ) (g : Gathers list stack node top found taken)
        (a : Allowed t.node_count limit allowed) where
      abbrev stood : Walking
      stood = walking (node ∷ on_stack stack top) (take found list)

      -- the node at hand is looked at first
      node_counts : (taken + 1) + looked_in t n box (t.node_count - taken) (take_node t n box stood) ≡ nodes_looked t n box
      node_counts =
          let d : suc t.node_count - taken ≡ suc (t.node_count - taken) = omega (arith, g.within, a.few) in
          let o = looked_open t n box (t.node_count - taken) node (on_stack stack top) (take found list) in
          let c : taken + looked_in t n box (suc (t.node_count - taken)) stood ≡ nodes_looked t n box = rw d at g.counts in
          omega (arith, c, o)

      -- a node is still to be taken when as many were taken as may be opened: the limit is used up, or the node passes the node count
      pub gathers_used : allowed ≤ taken → limit ≤ taken → ended_look t n box (used_up taken) ≡ walk_within t n box limit
      gathers_used h k = used_answer taken (omega (arith, a.within, g.within)) (omega (arith, node_counts, a.within, g.within))

      pub gathers_past : allowed ≤ taken → taken < limit → ended_look t n box (looked (taken + 1) broken) ≡ walk_within t n box limit
      unfolding looked_in
      gathers_past h k =
          let all : taken ≡ t.node_count = omega (arith, g.within, a.past (omega (arith, g.within))) in
          let z : t.node_count - taken ≡ 0 = omega arith in
          let c : (taken + 1) + 0 ≡ nodes_looked t n box = rw z at node_counts in
          walk_answer (taken + 1) broken (omega arith) (omega arith) (walks_past t n box list₀ stack₀ list stack node top found taken
          g.walks (omega arith))

      module _ (h : taken < allowed) where
        fewer : taken < t.node_count
        fewer = omega (arith, a.few)

        pub gathers_room : WalkRoom n t list₀ stack₀ → NodeRoom n t list found stack node top
        gathers_room = walks_room t n box list₀ stack₀ list stack node top found taken g.walks fewer

        module _ (r : Stepped) (list' stack' : List ℕ) (d : NodeTaken n box t list found stack node top r list' stack') where
          step_counts : (x : Stepped) → r ≡ x
              → (taken + 1) + looked_in t n box (t.node_count - taken) (walking_after x list' stack') ≡ nodes_looked t n box
          step_counts x e =
              let d' : NodeTaken n box t list found stack node top x list' stack' = subst (λ (y : Stepped). NodeTaken n box t list
              found stack node top y list' stack') e d in
              ap (λ (w : Walking). (taken + 1) + looked_in t n box (t.node_count - taken) w) d'.holds ∙ node_counts

          pub gathers_next : (node' top' more : ℕ) → r ≡ Next node' top' more → length list' ≡ length list → length stack' ≡ length stack
              → Gathers list' stack' node' top' more (taken + 1)
          gathers_next node' top' more e l m =
              let z : suc t.node_count - (taken + 1) ≡ t.node_count - taken = omega arith in
              record {
                walks = walks_next t n box list₀ stack₀ list stack node top found taken g.walks fewer r list' stack' d node' top'
                    more e l m;
                counts = rw z (step_counts (Next node' top' more) e);
                within = omega arith;
              }

          pub gathers_stopped : r ≡ Stopped → ended_look t n box (looked (taken + 1) broken) ≡ walk_within t n box limit
          gathers_stopped e =
              let z = looked_broken t n box (t.node_count - taken) in
              let c = step_counts Stopped e in
              walk_answer (taken + 1) broken (omega (arith, z, c)) (omega (arith, a.within)) (walks_stopped t n box list₀ stack₀ list
              stack node top found taken g.walks fewer r list' stack' d e)

          pub gathers_ended : (more : ℕ) → r ≡ Ended more
              → (ended_look t n box (looked (taken + 1) (walking [] (take more list'))) ≡ walk_within t n box limit) × Grown n list₀
              list' 0 more
          gathers_ended more e =
              let z = looked_empty t n box (t.node_count - taken) (take more list') in
              let c = step_counts (Ended more) e in
              let w = walks_ended t n box list₀ stack₀ list stack node top found taken g.walks fewer r list' stack' d more e in
              (walk_answer (taken + 1) (walking [] (take more list')) (omega (arith, z, c)) (omega (arith, a.within)) w.0, w.1)
