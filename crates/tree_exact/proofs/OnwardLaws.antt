-- What each step leaves of the walk. Assumes nothing.
use Prim.Native.Nat.{ℕ, zero, suc, ◌+◌, ◌≤◌, ◌<◌}
use mathlib.Core.Path.{◌≡◌, refl, sym, ap, ◌∙◌}
use mathlib.Core.Bool.{Bool, true, false, cond}
use mathlib.Core.List.{List, [], ◌∷◌}
use native.Mathlib.Omega.{arith}
use lib.Dec.{eqb}
use lib.ListN.{length, length-set, set}
use borrow.Author.Tests.{lt-ltb, le-ltb, le-leb, lt-leb, eq-eqb, ne_eqb}
use Rattle.lists.specs.Lists.{range}
use Rattle.casts.specs.Answer.{Answer, out_of_bounds}
use Rattle.nearest_hit.specs.Nearest.{Indexed, stopped}
use Rattle.nearest_hit.specs.Summary.{Summary, nothing, winner, answer_at}
use Rattle.tree.specs.Layout.{Tree, word_at, kind_at, first_at, second_at}
use Rattle.tree_walk.specs.Areas.{on_stack}
use Rattle.tree_walk.proofs.Branches.{on_stack_push}
use Rattle.tree_exact.specs.FirstWalk.{Seeking, seeking, broken, times, noted, take_place, take_places, at_leaf, at_branch}
use Rattle.tree_exact.specs.FirstWalk.{at_node, take_node, start, ended, first_of}
use Rattle.tree_exact.specs.Onward.{onward, untested}

module _ (t : Tree) (n : ℕ) (answer : ℕ → Answer) (opens : ℕ → Summary → Bool) (left_first : ℕ → Bool) where
  abbrev walked : ℕ → Seeking → Seeking
  walked k w = times k (take_node t n answer opens left_first) w

  abbrev end : Seeking → Indexed
  end w = ended t n answer opens left_first w

  -- a 5 stays one
  broken_stays : (k : ℕ) → end (walked k broken) ≡ stopped out_of_bounds
  unfolding times take_node ended
  broken_stays zero = refl
  broken_stays (suc k) = broken_stays k

  broken_places : (places : List ℕ) → take_places t n answer opens left_first broken places ≡ broken
  unfolding take_places take_place
  broken_places [] = refl
  broken_places (p ∷ places) = broken_places places

  ended_stays : (k : ℕ) (s : Summary) → end (walked k (seeking [] s)) ≡ answer_at answer (winner s)
  unfolding times take_node ended
  ended_stays zero s = refl
  ended_stays (suc k) s = ended_stays k s

  module _ (k : ℕ) (stack : List ℕ) (s : Summary) where
    -- ---- a place of a leaf
    pub place_noted : (p : ℕ) (rest : List ℕ) → word_at t.order p < n
        → onward t n answer opens left_first k rest stack (noted t n answer opens left_first s (word_at t.order p))
        ≡ onward t n answer opens left_first k (p ∷ rest) stack s
    unfolding onward take_places take_place
    place_noted p rest h = sym (simp (lt-ltb (word_at t.order p) n h))

    pub place_broken : (p : ℕ) (rest : List ℕ) → n ≤ word_at t.order p
        → stopped out_of_bounds ≡ onward t n answer opens left_first k (p ∷ rest) stack s
    unfolding onward take_places take_place
    place_broken p rest h =
        sym (simp (le-ltb (word_at t.order p) n h) (ap (λ (w : Seeking). end (walked k w)) (broken_places rest) ∙ broken_stays k))

    -- ---- a node from the stack
    pub used_up_lem : (node : ℕ) → stopped out_of_bounds ≡ onward t n answer opens left_first 0 [] (node ∷ stack) s
    unfolding onward take_places times ended
    used_up_lem node = refl

    pub node_broken : (node : ℕ) → t.node_count ≤ node → stopped out_of_bounds
        ≡ onward t n answer opens left_first (suc k) [] (node ∷ stack) s
    unfolding onward take_places times take_node
    node_broken node h = sym (simp (le-ltb node t.node_count h) (broken_stays k))

    pub node_taken : (node : ℕ) → node < t.node_count
        → untested t n answer opens left_first k node stack s ≡ onward t n answer opens left_first (suc k) [] (node ∷ stack) s
    unfolding onward untested take_places times take_node
    node_taken node h = sym (simp (lt-ltb node t.node_count h))

    -- ---- a node that is not opened
    pub node_passed : (node : ℕ) → opens node s ≡ false
        → onward t n answer opens left_first k [] stack s ≡ untested t n answer opens left_first k node stack s
    unfolding onward untested take_places at_node
    node_passed node h = sym (simp h)

    -- ---- one that is
    module _ (node : ℕ) (opened : opens node s ≡ true) where
      pub leaf_opened : kind_at t.node_words node ≡ 0 → first_at t.node_words node + second_at t.node_words node ≤ n
          → onward t n answer opens left_first k (range (first_at t.node_words node) (second_at t.node_words node)) stack s
          ≡ untested t n answer opens left_first k node stack s
      unfolding onward untested at_node at_leaf
      leaf_opened e h =
          sym (simp (
            opened,
            eq-eqb (kind_at t.node_words node) 0 e,
            le-leb (first_at t.node_words node + second_at t.node_words node) n h,
          ))

      pub leaf_broken : kind_at t.node_words node ≡ 0 → n < first_at t.node_words node + second_at t.node_words node
          → stopped out_of_bounds ≡ untested t n answer opens left_first k node stack s
      unfolding untested at_node at_leaf
      leaf_broken e h =
          sym (simp (
            opened,
            eq-eqb (kind_at t.node_words node) 0 e,
            lt-leb (first_at t.node_words node + second_at t.node_words node) n h,
          ) (broken_stays k))

      pub kind_broken : (kind_at t.node_words node ≡ 0 → ⊥) → (kind_at t.node_words node ≡ 1 → ⊥)
          → stopped out_of_bounds ≡ untested t n answer opens left_first k node stack s
      unfolding untested at_node
      kind_broken e h =
          sym (simp (opened, ne_eqb (kind_at t.node_words node) 0 e, ne_eqb (kind_at t.node_words node) 1 h) (broken_stays k))

      module _ (kind : kind_at t.node_words node ≡ 1) where
        not_leaf : eqb (kind_at t.node_words node) 0 ≡ false
        not_leaf = ne_eqb (kind_at t.node_words node) 0 (λ e. omega (arith, e, kind))

        is_branch_lem : eqb (kind_at t.node_words node) 1 ≡ true
        is_branch_lem = eq-eqb (kind_at t.node_words node) 1 kind

        pub first_broken : first_at t.node_words node ≤ node → stopped out_of_bounds ≡ untested t n answer opens left_first k node stack s
        unfolding untested at_node at_branch
        first_broken h = sym (simp (opened, not_leaf, is_branch_lem, le-ltb node (first_at t.node_words node) h) (broken_stays k))

        pub second_broken : node < first_at t.node_words node → second_at t.node_words node ≤ node
            → stopped out_of_bounds ≡ untested t n answer opens left_first k node stack s
        unfolding untested at_node at_branch
        second_broken g h =
            sym (simp (
              opened,
              not_leaf,
              is_branch_lem,
              lt-ltb node (first_at t.node_words node) g,
              le-ltb node (second_at t.node_words node) h,
            ) (broken_stays k))

        pub branch_opened : node < first_at t.node_words node → node < second_at t.node_words node → (b : Bool) → left_first node ≡ b
            → onward t n answer opens left_first k []
            (cond b (first_at t.node_words node ∷ (second_at t.node_words node ∷ stack))
            (second_at t.node_words node ∷ (first_at t.node_words node ∷ stack))) s
            ≡ untested t n answer opens left_first k node stack s
        unfolding onward untested take_places at_node at_branch
        branch_opened g h b f =
            sym (simp (
              opened,
              not_leaf,
              is_branch_lem,
              lt-ltb node (first_at t.node_words node) g,
              lt-ltb node (second_at t.node_words node) h,
              f,
            ))

  -- where a caller's loop begins: node 0 on the stack, if there is one, and nothing found
  pub walk_begins : onward t n answer opens left_first t.node_count [] (cond (eqb t.node_count 0) [] (0 ∷ [])) nothing
      ≡ first_of t n answer opens left_first
  unfolding onward take_places first_of start
  walk_begins = refl

  pub stack_ended : (k : ℕ) (s : Summary) → answer_at answer (winner s) ≡ onward t n answer opens left_first k [] [] s
  unfolding onward take_places
  stack_ended k s = sym (ended_stays k s)

-- two pushed
pub two_pushed : (area : List ℕ) (top low high : ℕ) → top + 2 ≤ length area
    → on_stack (set (set area top low) (top + 1) high) (top + 2) ≡ high ∷ (low ∷ on_stack area top)
two_pushed area top low high h =
    let e : top + 2 ≡ suc (top + 1) = omega arith in
    let f : top + 1 ≡ suc top = omega arith in
    ap (on_stack (set (set area top low) (top + 1) high)) e
    ∙ on_stack_push (set area top low) (top + 1) high (simp length-set (omega arith))
    ∙ ap (λ (l : List ℕ). high ∷ l) (ap (on_stack (set area top low)) f ∙ on_stack_push area top low (omega arith))
