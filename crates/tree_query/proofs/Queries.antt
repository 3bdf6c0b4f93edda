-- The query's answers: each refusal, and the list of a walk that ends. Assumes nothing.
use Prim.Native.Nat.{ℕ, ◌+◌, ◌*◌, ◌≤◌}
use mathlib.Core.Path.{◌≡◌, sym, ap, subst, ◌∙◌}
use mathlib.Core.Bool.{true, false, ◌&&◌}
use mathlib.Core.List.{List, []}
use native.Mathlib.Omega.{arith}
use borrow.Author.Tests.{leb-true}
use lib.Dec.{leb}
use lib.ListN.{length, take, replicate, take-append-drop}
use lib.Seq.{length-take-le}
use Rattle.geometry.specs.Box.{valid_box}
use Rattle.geometry.specs.declared.aabb.Aabb.{Aabb}
use Rattle.casts.specs.Answer.{invalid_input, bad_shape, no_room, out_of_bounds}
use Rattle.tree.specs.Layout.{Tree}
use Rattle.lists.proofs.JoinedTests.{and_first, and_second}
use Rattle.tree_walk.specs.Walk.{walking, broken, walk_of}
use Rattle.tree_walk.specs.Areas.{listed, Grown, GrownTo, WalkRoom}
use Rattle.lists.proofs.RefusalLaws as Refusals
use Rattle.tree_query.specs.Query.{count, refused, counts_admitted, tree_fits, walk_fits, query_tests, tests_pass, after_walk}
use Rattle.tree_query.specs.Query.{query_of}
use Rattle.std.specs.Prelude.{Option, Some, None}

pub counts_few : (n nodes : ℕ) → counts_admitted n nodes ≡ true → n ≤ 65536
unfolding counts_admitted
counts_few n nodes h = leb-true n 65536 (and_first (leb n 65536) (leb nodes (2 * n)) h)

pub counts_nodes : (n nodes : ℕ) → counts_admitted n nodes ≡ true → leb nodes (2 * n) ≡ true
unfolding counts_admitted
counts_nodes n nodes h = and_second (leb n 65536) (leb nodes (2 * n)) h

-- areas that are as long as stated are room for the walk
pub fits_room : (n : ℕ) (t : Tree) (list stack : List ℕ) → leb t.node_count (2 * n) ≡ true → walk_fits n t (length list) (length stack) ≡
    true → WalkRoom n t list stack
unfolding walk_fits tree_fits
fits_room n t list stack h f =
    let a = and_first (tree_fits n t) (leb n (length list) && leb (t.node_count + 1) (length stack)) f in
    let b = and_second (tree_fits n t) (leb n (length list) && leb (t.node_count + 1) (length stack)) f in
    let b1 : n ≤ length list = leb-true n (length list) (and_first (leb n (length list)) (leb (t.node_count + 1) (length stack)) b) in
    let b2 : t.node_count + 1 ≤ length stack = leb-true (t.node_count + 1) (length stack)
    (and_second (leb n (length list)) (leb (t.node_count + 1) (length stack)) b) in
    let c = and_second (leb (12 * n) (length t.node_boxes))
    (leb (6 * n) (length t.triangle_boxes) && (leb (6 * n) (length t.node_words) && leb n (length t.order))) a in
    let a1 : 12 * n ≤ length t.node_boxes =
    leb-true (12 * n) (length t.node_boxes) (and_first (leb (12 * n) (length t.node_boxes)) (leb (6 * n) (length t.triangle_boxes) &&
    (leb (6 * n) (length t.node_words) && leb n (length t.order))) a) in
    let c1 : 6 * n ≤ length t.triangle_boxes =
    leb-true (6 * n) (length t.triangle_boxes) (and_first (leb (6 * n) (length t.triangle_boxes)) (leb (6 * n) (length t.node_words)
    && leb n (length t.order)) c) in
    let d = and_second (leb (6 * n) (length t.triangle_boxes)) (leb (6 * n) (length t.node_words) && leb n (length t.order)) c in
    let d1 : 6 * n ≤ length t.node_words = leb-true (6 * n) (length t.node_words)
    (and_first (leb (6 * n) (length t.node_words)) (leb n (length t.order)) d) in
    let d2 : n ≤ length t.order = leb-true n (length t.order)
    (and_second (leb (6 * n) (length t.node_words)) (leb n (length t.order)) d) in
    let e : t.node_count ≤ 2 * n = leb-true t.node_count (2 * n) h in
    record { ordered = d2; triangles = c1; boxed = omega arith; worded = omega arith; lent = b1; high = omega arith }

-- the list of a walk that ends: its numbers, and the area that it leaves
pub walked_list : (n k : ℕ) (area exit : List ℕ) → Grown n area exit 0 k → after_walk area (walking [] (take k exit)) ≡ record
    { answer = count k; list = exit }
unfolding after_walk
walked_list n k area exit g =
    rw (length-take-le k exit g.inside, sym g.rest, take-append-drop k exit)

-- past the tests the stack may change
pub tests_passed : (box : Aabb) (n : ℕ) (t : Tree) (list stack : ℕ) → valid_box box ≡ true → counts_admitted n t.node_count ≡ true
    → walk_fits n t list stack ≡ true → tests_pass box n t list stack ≡ false → ⊥
unfolding tests_pass
tests_passed box n t list stack v a f = Refusals.tests_passed (query_tests box n t list stack) (v, (a, f))

module _ (box : Aabb) (n : ℕ) (t : Tree) (area : List ℕ) (stack : ℕ) where
  pub query_invalid : valid_box box ≡ false → record { answer = refused invalid_input; list = area } ≡ query_of box n t area stack
  unfolding query_of
  query_invalid h = simp h

  module _ (v : valid_box box ≡ true) where
    pub query_bad : counts_admitted n t.node_count ≡ false → record { answer = refused bad_shape; list = area }
        ≡ query_of box n t area stack
    unfolding query_of
    query_bad h = simp (v, h)

    module _ (a : counts_admitted n t.node_count ≡ true) where
      pub query_short : walk_fits n t (length area) stack ≡ false → record { answer = refused no_room; list = area } ≡ query_of box n t area
          stack
      unfolding query_of
      query_short h = simp (v, a, h)

      module _ (f : walk_fits n t (length area) stack ≡ true) where
        walked : after_walk area (walk_of t n box) ≡ query_of box n t area stack
        unfolding query_of
        walked = simp (v, a, f)

        module _ (r : Option ℕ) (exit : List ℕ) (w : listed [] r exit ≡ walk_of t n box) (g : GrownTo n area 0 r exit) where
          pub query_broken : (zeros : List ℕ) → r ≡ None → length exit ≡ length area → zeros ≡ replicate (length exit) 0
              → record { answer = refused out_of_bounds; list = zeros } ≡ query_of box n t area stack
          unfolding after_walk
          query_broken zeros e l z =
              let w' : broken ≡ walk_of t n box = subst (λ (x : Option ℕ). listed [] x exit ≡ walk_of t n box) e w in
              ap (λ (x : List ℕ). record { answer = refused out_of_bounds; list = x }) (z ∙ ap (λ (k : ℕ). replicate k 0) l) ∙ ap
              (after_walk area) w' ∙ walked

          pub query_listed : (k : ℕ) → r ≡ Some k → record { answer = count k; list = exit } ≡ query_of box n t area stack
          query_listed k e =
              let w' : walking [] (take k exit) ≡ walk_of t n box = subst (λ (x : Option ℕ). listed [] x exit ≡ walk_of t n box) e w in
              let g' : Grown n area exit 0 k = subst (λ (x : Option ℕ). GrownTo n area 0 x exit) e g in
              sym (walked_list n k area exit g') ∙ ap (after_walk area) w' ∙ walked
