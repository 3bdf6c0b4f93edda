-- The walk of the nodes that a line opens, over its areas: what is left of it gives the whole. Assumes nothing.
use Rattle.std.specs.Prelude.{Some, None}
use Prim.Native.Nat.{ℕ, zero, suc, ◌+◌, ◌-◌, ◌<◌, ◌≤◌}
use mathlib.Core.Path.{◌≡◌, refl, sym, ap, subst, ◌∙◌}
use mathlib.Core.Bool.{Bool, true, false, cond}
use mathlib.Core.List.{List, [], ◌∷◌}
use native.Mathlib.Omega.{arith}
use borrow.Author.Tests.{lt-ltb, ne_eqb}
use lib.ListN.{length, take}
use Rattle.geometry.specs.declared.aabb.Aabb.{Aabb}
use Rattle.lists.specs.Lists.{every}
use Rattle.tree.specs.Layout.{Tree}
use Rattle.tree_walk.specs.Walk.{Walking, walking, broken, times, take_node, start, ended}
use Rattle.tree_walk.specs.Areas.{on_stack, popped, Grown, Stands, NodeRoom, NodeTaken, WalkRoom}
use Rattle.tree_walk.specs.declared.step.Stepped.{Stepped}
use Rattle.tree_walk.specs.declared.step.Stepped.TheVariants.{Next, Ended, Stopped}
use Rattle.tree_walk.proofs.Places.{grown_none, grown_twice}
use Rattle.tree_walk.proofs.Branches.{popped_held, popped_kept}
use Rattle.tree_walk.proofs.Nodes.{rest_below}
use Rattle.exact_triangle.specs.Line.{Line}
use Rattle.exact_triangle.specs.declared.view.View.{View}
use Rattle.exact_triangle.specs.View.{Sees}
use Rattle.exact_hits.specs.LineWalk.{take_opened, opened_walk, node_opens}
use Rattle.exact_hits.specs.Areas.{OpenedTaken, Gathered}

-- ---- any test
module _ (t : Tree) (n : ℕ) (box : Aabb) (opens : ℕ → Bool) where
  abbrev next : Walking → Walking
  next = take_opened t n box opens

  times_broken : (k : ℕ) → times k next broken ≡ broken
  unfolding times take_opened
  times_broken zero = refl
  times_broken (suc k) = times_broken k

  pub times_empty : (k : ℕ) (list : List ℕ) → times k next (walking [] list) ≡ walking [] list
  unfolding times take_opened
  times_empty zero list = refl
  times_empty (suc k) list = times_empty k list

  pub opened_node : (node : ℕ) (stack list : List ℕ) → opens node ≡ true
      → next (walking (node ∷ stack) list) ≡ take_node t n box (walking (node ∷ stack) list)
  unfolding take_opened
  opened_node node stack list e =
      ap (λ (b : Bool). cond b (take_node t n box (walking (node ∷ stack) list)) (walking stack list)) e

  pub passed_node : (node : ℕ) (stack list : List ℕ) → opens node ≡ false → next (walking (node ∷ stack) list) ≡ walking stack list
  unfolding take_opened
  passed_node node stack list e =
      ap (λ (b : Bool). cond b (take_node t n box (walking (node ∷ stack) list)) (walking stack list)) e

-- ---- one node
module _ (line : View) (n : ℕ) (box : Aabb) (t : Tree) (list : List ℕ) (found : ℕ) (stack : List ℕ) (node top : ℕ)
    (room : NodeRoom n t list found stack node top) (b : Bool) (known : (l : Line) → Sees line l → b ≡ node_opens l box t node) where
  pub node_passed : b ≡ false → (r : Stepped) → r ≡ popped stack top found → OpenedTaken line n box t list found stack node top r list stack
  node_passed e r p =
      subst (λ (x : Stepped). OpenedTaken line n box t list found stack node top x list stack) (sym p)
      (record {
        holds = λ l sees.
            popped_held stack list top found
            ∙ sym (passed_node t n box (node_opens l box t) node (on_stack stack top) (take found list) (sym (known l sees) ∙ e));
        kept =
            popped_kept n t.node_count found list list stack top found (top + 1)
            (grown_none n found list room.places.inside room.places.below) (rest_below n box t list found stack node top room)
            (omega arith);
      })

  pub node_opened : b ≡ true → (r : Stepped) (list' stack' : List ℕ) → NodeTaken n box t list found stack node top r list' stack'
      → OpenedTaken line n box t list found stack node top r list' stack'
  node_opened e r list' stack' d = record {
    holds = λ l sees.
        d.holds
        ∙ sym (opened_node t n box (node_opens l box t) node (on_stack stack top) (take found list) (sym (known l sees) ∙ e));
    kept = d.kept;
  }

-- ---- all nodes
module _ (line : View) (n : ℕ) (box : Aabb) (t : Tree) (list₀ stack₀ : List ℕ) where
  abbrev step : Line → Walking → Walking
  step l = take_opened t n box (node_opens l box t)

  abbrev whole : Line → Walking
  whole l = opened_walk t n box (node_opens l box t)

  pub record OpenedSoFar (list stack : List ℕ) (node top found taken : ℕ) : Type 0 where
    pub gives : (l : Line) → Sees line l
        → ended t n box (times (t.node_count - taken) (step l) (walking (node ∷ on_stack stack top) (take found list))) ≡ whole l
    pub grown : Grown n list₀ list 0 found
    pub stands : Stands t.node_count taken stack node top
    pub long : length list ≡ length list₀
    pub high : length stack ≡ length stack₀

  pub opened_begins : 0 < t.node_count → OpenedSoFar list₀ stack₀ 0 0 0 0
  unfolding opened_walk start on_stack every
  opened_begins some =
      let z : t.node_count - 0 ≡ t.node_count = omega arith in
      record {
        gives = λ l sees. simp (z, ne_eqb t.node_count 0 (λ e. omega (arith, some, e)));
        grown = grown_none n 0 list₀ (omega arith) refl;
        stands = record { within = omega arith; below = simp (lt-ltb 0 t.node_count some) };
        long = refl;
        high = refl;
      }

  module _ (list stack : List ℕ) (node top found taken : ℕ) (w : OpenedSoFar list stack node top found taken) where
    -- a node is still to be taken when as many were taken as there are
    pub opened_past : t.node_count ≤ taken → (list' : List ℕ) → Gathered line n box t list₀ None list'
    unfolding times ended
    opened_past h list' = record {
      holds = λ l sees.
          let e : t.node_count - taken ≡ 0 = omega arith in
          rw e at (w.gives l sees);
      grown = tt;
    }

    module _ (h : taken < t.node_count) where
      pub opened_room : WalkRoom n t list₀ stack₀ → NodeRoom n t list found stack node top
      opened_room r =
          record {
            places =
                record {
                  ordered = r.ordered;
                  boxed = r.triangles;
                  lent = omega (arith, r.lent, w.long);
                  inside = w.grown.inside;
                  below = w.grown.below;
                };
            boxed = r.boxed;
            worded = r.worded;
            taller = omega (arith, r.high, w.high, w.stands.within);
            below = w.stands.below;
          }

      abbrev rest : Line → Walking → Walking
      rest l v = ended t n box (times (t.node_count - (taken + 1)) (step l) v)

      -- the next node first
      node_first : (l : Line) → Sees line l → rest l (step l (walking (node ∷ on_stack stack top) (take found list))) ≡ whole l
      unfolding times
      node_first l sees =
          let e : t.node_count - taken ≡ suc (t.node_count - (taken + 1)) = omega arith in
          rw e at (w.gives l sees)

      module _ (r : Stepped) (list' stack' : List ℕ) (d : OpenedTaken line n box t list found stack node top r list' stack') where
        taken_is : (x : Stepped) → r ≡ x → OpenedTaken line n box t list found stack node top x list' stack'
        taken_is x e = subst (λ (y : Stepped). OpenedTaken line n box t list found stack node top y list' stack') e d

        pub opened_next : (node' top' more : ℕ) → r ≡ Next node' top' more → length list' ≡ length list → length stack' ≡ length stack
            → OpenedSoFar list' stack' node' top' more (taken + 1)
        opened_next node' top' more e l m =
            let d' : OpenedTaken line n box t list found stack node top (Next node' top' more) list' stack' =
            taken_is (Next node' top' more) e in
            record {
              gives = λ k sees. ap (rest k) (d'.holds k sees) ∙ node_first k sees;
              grown = grown_twice n 0 found more list₀ list list' w.grown d'.kept.grown;
              stands = record { within = omega (arith, d'.kept.stands.within, w.stands.within); below = d'.kept.stands.below };
              long = l ∙ w.long;
              high = m ∙ w.high;
            }

        pub opened_stopped : r ≡ Stopped → Gathered line n box t list₀ None list'
        opened_stopped e = record {
          holds = λ l sees.
              ap (ended t n box) (sym (times_broken t n box (node_opens l box t) (t.node_count - (taken + 1))))
              ∙ ap (rest l) ((taken_is Stopped e).holds l sees) ∙ node_first l sees;
          grown = tt;
        }

        pub opened_ended : (more : ℕ) → r ≡ Ended more → Gathered line n box t list₀ (Some more) list'
        opened_ended more e =
            let d' : OpenedTaken line n box t list found stack node top (Ended more) list' stack' = taken_is (Ended more) e in
            record {
              holds = λ l sees.
                  ap (ended t n box)
                  (sym (times_empty t n box (node_opens l box t) (t.node_count - (taken + 1)) (take more list')))
                  ∙ ap (rest l) (d'.holds l sees) ∙ node_first l sees;
              grown = grown_twice n 0 found more list₀ list list' w.grown d'.kept;
            }
