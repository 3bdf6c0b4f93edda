-- The walk of a checked tree finds the nearest hit of all triangles, whatever nodes it passes over safely and in whatever order it takes
-- children. Assumes nothing else.
use Prim.Native.Nat.{ℕ, zero, suc, ◌+◌, ◌<◌}
use mathlib.Core.Path.{◌≡◌, refl, sym, ap, ◌∙◌}
use mathlib.Core.Logic.{◌⊎◌, inl, inr, ◌≢◌}
use mathlib.Core.Bool.{Bool, true, false, cond}
use mathlib.Core.List.{List, [], ◌∷◌, ◌++◌}
use native.Mathlib.Omega.{arith}
use lib.Dec.{eqb, ltb}
use lib.ListN.{length, length-append}
use borrow.Author.Tests.{eqb-true, eqb-false, lt-ltb}
use Rattle.lists.specs.Lists.{range, count, flat_map}
use Rattle.lists.proofs.Members.{Each}
use Rattle.lists.proofs.CountLaws.{one_same, count_cons, count_nil, count_of_member, length_range, range_bounds}
use Rattle.lists.proofs.WithinLaws.{within_length}
use Rattle.lists.proofs.SortLaws.{ascending_rises, range_ascends}
use Rattle.casts.specs.Answer.{Answer}
use Rattle.casts.proofs.AnswerLists.{HitsAreNumbers}
use Rattle.nearest_hit.specs.Nearest.{nearest_of}
use Rattle.nearest_hit.specs.Summary.{Summary, nothing, summary_from, winner, answer_at}
use Rattle.nearest_hit.proofs.SummaryLaws.{nearest_of_ascending}
use Rattle.tree.specs.Layout.{Tree}
use Rattle.tree.specs.Mesh.{Mesh}
use Rattle.tree_check.specs.Check.{triangle_count, nodes, places_of, tree_passes}
use Rattle.mesh.proofs.CheckedTree.{Checked, checked_or_empty}
use Rattle.tree_exact.specs.FirstWalk.{Seeking, seeking, broken, times, take_node, start, ended, first_of}
use Rattle.tree_exact.specs.WalkDemand.{Absorbed, PassesSafely}
use Rattle.tree_exact.proofs.Absorbing.{all_absorbed}
use Rattle.tree_exact.proofs.Unders.{under_first}
use Rattle.tree_exact.proofs.Seekings.{Waits, State, all_within_lem, step}

module _ (m : Mesh) (t : Tree) (answer : ℕ → Answer) (opens : ℕ → Summary → Bool) (left_first : ℕ → Bool) where
  abbrev n : ℕ
  n = triangle_count m t

  abbrev walked : ℕ → Seeking → Seeking
  walked k w = times k (take_node t n answer opens left_first) w

  -- what all triangles come to, as the walk answers it
  answers_all : answer_at answer (winner (summary_from answer nothing (range 0 n))) ≡ nearest_of answer (range 0 n)
  answers_all = sym (nearest_of_ascending answer (range 0 n) (ascending_rises (range 0 n) (range_ascends 0 n)))

  walked_done : (k : ℕ) (s : Summary) → walked k (seeking [] s) ≡ seeking [] s
  unfolding times take_node
  walked_done zero s = refl
  walked_done (suc k) s = walked_done k s

  module _ (numbers : HitsAreNumbers answer) (safely : PassesSafely m t answer opens) where
    module _ (c : Checked m t) (some : 0 < t.node_count) where
      record End (k : ℕ) (stack : List ℕ) (s : Summary) : Type 0 where
        taken : List ℕ
        s' : Summary
        goes : walked k (seeking stack s) ≡ seeking [] s'
        state : State m t answer taken [] s'

      taken_one : (node k : ℕ) {w v : Seeking} → node < k → w ≡ v → cond (ltb node k) w broken ≡ v
      taken_one node k {w} h e = ap (λ (b : Bool). cond b w broken) (lt-ltb node k h) ∙ e

      -- as many nodes may still be taken as are not taken
      walk_ends : (k : ℕ) (taken stack : List ℕ) (s : Summary) → length taken + k ≡ t.node_count → State m t answer taken stack s
          → End k stack s
      unfolding times take_node
      walk_ends zero taken [] s h a = record { taken = taken; s' = s; goes = refl; state = a }
      walk_ends zero taken (node ∷ stack) s h a =
          absurd (omega (
            arith,
            within_length (taken ++ (node ∷ stack)) (nodes m t)
                (all_within_lem m t answer opens left_first c some numbers safely taken (node ∷ stack) s a),
            length-append taken (node ∷ stack),
            length_range 0 t.node_count,
          ))
      walk_ends (suc k) taken [] s h a = record { taken = taken; s' = s; goes = walked_done k s; state = a }
      walk_ends (suc k) taken (node ∷ stack) s h a =
          let next = step m t answer opens left_first c some numbers safely taken stack s node a in
          let end = walk_ends k (node ∷ taken) next.stack' next.s' (omega arith) next.state in
          record {
            taken = end.taken;
            s' = end.s';
            goes = ap (walked k) (taken_one node t.node_count next.fits next.goes) ∙ end.goes;
            state = end.state;
          }

      starting : State m t answer [] (0 ∷ []) nothing
      unfolding flat_map
      starting = record {
        spread = record { at_most = λ (i : ℕ). omega arith };
        once = record { at_most = λ (i : ℕ). omega (arith, count_nil i) };
        whole = refl;
        left =
            λ (x : ℕ) (h : x < n). inr record {
              node = 0;
              on = omega (arith, count_cons 0 0 [], one_same 0 0 refl);
              under = under_first m t c x h;
            };
      }

      -- at its end nothing changes what was found
      ended_whole : (taken : List ℕ) (s : Summary) → State m t answer taken [] s → s ≡ summary_from answer nothing (range 0 n)
      ended_whole taken s a = sym (all_absorbed answer numbers s (range 0 n) each) ∙ a.whole
        where
          settled : (x : ℕ) → Absorbed answer s x ⊎ Waits m t [] x → Absorbed answer s x
          settled x (inl h) = h
          settled x (inr w) = absurd (omega (arith, w.on, count_nil w.node))

          each : Each (Absorbed answer s) (range 0 n)
          each x q = settled x (a.left x (omega (arith, range_bounds x 0 n (count_of_member x (range 0 n) q))))

      found_of_nodes : eqb t.node_count 0 ≡ false → first_of t n answer opens left_first ≡ nearest_of answer (range 0 n)
      unfolding first_of start ended
      found_of_nodes e =
          let end = walk_ends t.node_count [] (0 ∷ []) nothing (omega arith) starting in
          simp (e, end.goes)
          (ap (λ (s : Summary). answer_at answer (winner s)) (ended_whole end.taken end.s' end.state) ∙ answers_all)

    -- ---- a tree of no node
    found_of_nothing : t.node_count ≡ 0 → n ≡ 0 → first_of t n answer opens left_first ≡ nearest_of answer (range 0 n)
    unfolding first_of start ended times summary_from range
    found_of_nothing e f = simp e (none f ∙ answers_all)
      where
        none : n ≡ 0 → answer_at answer (winner nothing) ≡ answer_at answer (winner (summary_from answer nothing (range 0 n)))
        none f = ap (λ (k : ℕ). answer_at answer (winner (summary_from answer nothing (range 0 k)))) (sym f)

    nothing_placed : Checked m t → t.node_count ≡ 0 → n ≡ 0
    unfolding flat_map range
    nothing_placed c e = go n refl
      where
        go : (k : ℕ) → n ≡ k → n ≡ 0
        go zero f = f
        go (suc k) f =
            absurd (omega (arith, c.placed 0 (omega arith), ap (λ (n : ℕ). count 0 (flat_map (places_of m t) (range 0 n))) e, count_nil 0))

    pub finds_nearest : tree_passes m t ≡ true → first_of t n answer opens left_first ≡ nearest_of answer (range 0 n)
    finds_nearest h = either (checked_or_empty m t h)
      where
        go : Checked m t → (b : Bool) → eqb t.node_count 0 ≡ b → first_of t n answer opens left_first ≡ nearest_of answer (range 0 n)
        go c true e = let none : t.node_count ≡ 0 = eqb-true t.node_count 0 e in found_of_nothing none (nothing_placed c none)
        go c false e = let some : t.node_count ≢ 0 = eqb-false t.node_count 0 e in found_of_nodes c (omega arith) e

        either : Checked m t ⊎ ((t.node_count ≡ 0) × (triangle_count m t ≡ 0)) → first_of t n answer opens left_first ≡ nearest_of answer
            (range 0 n)
        either (inl c) = go c (eqb t.node_count 0) refl
        either (inr empty) = found_of_nothing empty.0 empty.1
