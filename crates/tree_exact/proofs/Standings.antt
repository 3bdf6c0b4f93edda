-- How each step moves the walk so far. Assumes nothing.
use Prim.Native.Nat.{ℕ, zero, suc, ◌+◌, ◌-◌, ◌≤◌, ◌<◌}
use mathlib.Core.Path.{◌≡◌, refl, sym, ap, ◌∙◌, subst}
use mathlib.Core.Bool.{Bool, true, false, cond}
use mathlib.Core.List.{List, [], ◌∷◌}
use native.Mathlib.Omega.{arith}
use lib.Ieee.{Float}
use lib.ListN.{length, set}
use borrow.Author.Tests.{ne_eqb, eq-eqb}
use Rattle.lists.specs.Lists.{range}
use Rattle.lists.proofs.EveryLaws.{range_next, range_done}
use Rattle.casts.specs.Answer.{Answer, out_of_bounds}
use Rattle.casts.specs.Reach.{reach_of, Reach, At, Miss, Refused}
use Rattle.nearest_hit.specs.Nearest.{Indexed, stopped}
use Rattle.nearest_hit.specs.Summary.{Kept, nobody, kept, keep_of, Found, found, nearer, Summary, nothing, note_of, winner, answer_at}
use Rattle.tree.specs.Layout.{Tree, word_at}
use Rattle.tree_walk.specs.Areas.{on_stack}
use Rattle.tree_walk.proofs.Branches.{on_stack_push}
use Rattle.tree_exact.specs.FirstWalk.{first_of}
use Rattle.tree_exact.specs.Onward.{onward, opened_by, Reached, Standing, Testing, Opens}
use Rattle.tree_exact.specs.declared.node.Node.{Node}
use Rattle.tree_exact.proofs.OnwardLaws.{place_noted, place_broken, used_up_lem, node_broken, node_taken, node_passed}
use Rattle.tree_exact.proofs.OnwardLaws.{walk_begins, stack_ended}

-- ---- the stack
-- the next node
pub on_stack_next : (area : List ℕ) (top : ℕ) → 0 < top → on_stack area top ≡ word_at area (top - 1) ∷ on_stack area (top - 1)
unfolding on_stack
on_stack_next area zero h = absurd (omega (arith, h))
on_stack_next area (suc k) h =
    let e : suc k - 1 ≡ k = omega arith in
    ap (λ (j : ℕ). word_at area j ∷ on_stack area j) (sym e)

pub on_stack_none : (area : List ℕ) → on_stack area 0 ≡ []
unfolding on_stack
on_stack_none area = refl

-- the first node alone
pub on_stack_root : (area : List ℕ) → 0 < length area → on_stack (set area 0 0) 1 ≡ 0 ∷ []
unfolding on_stack
on_stack_root area h = on_stack_push area 0 0 h

module _ (t : Tree) (n : ℕ) (answer : ℕ → Answer) (opens : ℕ → Summary → Bool) (left_first : ℕ → Bool) where
  abbrev answered : Indexed
  answered = first_of t n answer opens left_first

  abbrev Stands : ℕ → List ℕ → List ℕ → Summary → Type 0
  Stands k places stack s = Standing t n answer opens left_first k places stack s

  abbrev Tests : ℕ → ℕ → List ℕ → Summary → Type 0
  Tests k node stack s = Testing t n answer opens left_first k node stack s

  -- ---- the nearest so far
  keep_reached : (x : ℕ) → x < n → (best : Kept (Found Float)) (distance : Float) → reach_of (answer x) ≡ At distance
      → Reached t n answer opens left_first best → Reached t n answer opens left_first (keep_of nearer best (found x distance))
  unfolding keep_of
  keep_reached x h nobody distance e r = (h, e)
  keep_reached x h (kept y) distance e r = go (nearer (found x distance) y)
    where
      go : (b : Bool) → Reached t n answer opens left_first (cond b (kept (found x distance)) (kept y))
      go true = (h, e)
      go false = r

  pub note_reached : (x : ℕ) → x < n → (s : Summary) → Reached t n answer opens left_first s.least
      → Reached t n answer opens left_first (note_of s x (reach_of (answer x))).least
  unfolding note_of
  note_reached x h s r = go (reach_of (answer x)) refl
    where
      go : (a : Reach) → reach_of (answer x) ≡ a → Reached t n answer opens left_first (note_of s x a).least
      go Miss e = r
      go (Refused number) e = r
      go (At distance) e = keep_reached x h s.least distance e r

  -- ---- the start: node 0, if there is one, and nothing found
  pub stands_first : 0 < t.node_count → Stands t.node_count [] (0 ∷ []) nothing
  stands_first h = record {
    whole =
        ap (λ (b : Bool). onward t n answer opens left_first t.node_count [] (cond b [] (0 ∷ [])) nothing)
        (sym (ne_eqb t.node_count 0 (λ e. omega (arith, h, e))))
        ∙ walk_begins t n answer opens left_first;
    reached = tt;
  }

  pub stands_empty : t.node_count ≡ 0 → Stands t.node_count [] [] nothing
  stands_empty h = record {
    whole =
        ap (λ (b : Bool). onward t n answer opens left_first t.node_count [] (cond b [] (0 ∷ [])) nothing)
        (sym (eq-eqb t.node_count 0 h))
        ∙ walk_begins t n answer opens left_first;
    reached = tt;
  }

  -- ---- the places of a leaf
  module _ (k : ℕ) (stack : List ℕ) (s : Summary) (place end : ℕ) (now : Stands k (range place (end - place)) stack s) where
    module _ (more : place < end) (x : ℕ) (is : x ≡ word_at t.order place) where
      pub place_taken : x < n → Stands k (range (place + 1) (end - (place + 1))) stack (note_of s x (reach_of (answer x)))
      place_taken h = record {
        whole =
            let rest = range (place + 1) (end - (place + 1)) in
            ap (λ (y : ℕ). onward t n answer opens left_first k rest stack (note_of s y (reach_of (answer y)))) is
            ∙ place_noted t n answer opens left_first k stack s place rest (subst (λ (y : ℕ). y < n) is h)
            ∙ ap (λ (l : List ℕ). onward t n answer opens left_first k l stack s) (sym (range_next place end more))
            ∙ now.whole;
        reached = note_reached x h s now.reached;
      }

      pub place_bad : n ≤ x → stopped out_of_bounds ≡ answered
      place_bad h =
          place_broken t n answer opens left_first k stack s place (range (place + 1) (end - (place + 1)))
          (subst (λ (y : ℕ). n ≤ y) is h)
          ∙ ap (λ (l : List ℕ). onward t n answer opens left_first k l stack s) (sym (range_next place end more))
          ∙ now.whole

    pub places_done : end ≤ place → Stands k [] stack s
    places_done h = record {
      whole =
          ap (λ (l : List ℕ). onward t n answer opens left_first k l stack s) (sym (range_done place end h)) ∙ now.whole;
      reached = now.reached;
    }

  -- ---- a node from the stack
  module _ (k : ℕ) (node : ℕ) (stack : List ℕ) (s : Summary) where
    pub node_tests : Stands (suc k) [] (node ∷ stack) s → node < t.node_count → Tests k node stack s
    node_tests now h = record {
      whole = node_taken t n answer opens left_first k stack s node h ∙ now.whole;
      reached = now.reached;
    }

    pub node_bad : Stands (suc k) [] (node ∷ stack) s → t.node_count ≤ node → stopped out_of_bounds ≡ answered
    node_bad now h = node_broken t n answer opens left_first k stack s node h ∙ now.whole

    pub node_passes : Tests k node stack s → opens node s ≡ false → Stands k [] stack s
    node_passes now h = record {
      whole = node_passed t n answer opens left_first k stack s node h ∙ now.whole;
      reached = now.reached;
    }

    pub node_opens : Tests k node stack s → opens node s ≡ true → (words : List ℕ) → t.node_words ≡ words → (r : Node)
        → Opens n words node r → opened_by t n answer opens left_first r k node stack s ≡ answered
    node_opens now h words e r o = o.holds t answer opens left_first k stack s e h ∙ now.whole

  -- ---- the end
  pub stands_used_up : (node : ℕ) (stack : List ℕ) (s : Summary) → Stands 0 [] (node ∷ stack) s → stopped out_of_bounds ≡ answered
  stands_used_up node stack s now = used_up_lem t n answer opens left_first 0 stack s node ∙ now.whole

  pub stands_ended : (k : ℕ) (s : Summary) → Stands k [] [] s → answer_at answer (winner s) ≡ answered
  stands_ended k s now = stack_ended t n answer opens left_first k s ∙ now.whole
