-- `tree_query::query::query` meets its contract: a refusal for each of the three tests, and past them what the walk lists, or its refusal.
-- Assumes nothing.
use Rattle.geometry.specs.Box.{valid_box}
use Rattle.tree.specs.Layout.{Tree, tree_of}
use Rattle.tree_query.specs.Query.{counts_admitted, walk_fits}
use Rattle.lists.proofs.JoinedTests.{test_passed, test_failed}
use Rattle.tree_query.proofs.Queries.{counts_few, counts_nodes, fits_room, tests_passed}
use Rattle.tree_query.proofs.Queries.{query_invalid, query_bad, query_short, query_broken, query_listed}
use native.Mathlib.Omega.{arith}
use mathlib.Core.Bool.{Bool, true}
use mathlib.Core.Path.{◌≡◌, refl}
use lib.ListN.{length}
use borrow.Author.Rules.{rules}
use Rattle.tree_query.proofs.query.query.Statement.{statement}
use Rattle.tree_query.proofs.query.query.Tie as tie

abbrev tree : tie.Start → Tree
tree s =
    let a = s.args in
    tree_of a.nodes a.node_boxes.now a.triangle_boxes.now a.node_words.now a.order.now

-- the third test
abbrev fitting : tie.Start → Bool
fitting s = walk_fits s.args.count (tree s) (length s.args.list.now) (length s.args.stack.now)

-- past the three tests: what each says
start : tie.Else-not-walk_fits → tie.Start
start e = search

valid : (e : tie.Else-not-walk_fits) → valid_box (start e).args.bounds ≡ true
unfolding start
valid e =
    let e1 : tie.Else-not-is_valid = search in
    test_passed e1.is_valid.ensures e1.if-not-is_valid.false

admitted : (e : tie.Else-not-walk_fits) → counts_admitted (start e).args.count (start e).args.nodes ≡ true
unfolding start
admitted e =
    let e2 : tie.Else-not-counts_admitted = search in
    test_passed e2.counts_admitted.ensures e2.if-not-counts_admitted.false

fits : (e : tie.Else-not-walk_fits) → fitting (start e) ≡ true
unfolding start
fits e = test_passed {b = fitting (start e)} e.walk_fits.ensures e.if-not-walk_fits.false

-- the box is not valid
returns : tie.Need-returns-then-not-is_valid
returns c = (query_invalid _ _ _ _ _ (test_failed c.is_valid.ensures c.if-not-is_valid.true), λ _. refl)

-- the counts are not admitted
returns-2 : tie.Need-returns-then-not-counts_admitted
returns-2 c =
    let e1 : tie.Else-not-is_valid = search in
    let v = test_passed e1.is_valid.ensures e1.if-not-is_valid.false in
    (query_bad _ _ _ _ _ v (test_failed c.counts_admitted.ensures c.if-not-counts_admitted.true), λ _. refl)

walk-fits-requires : tie.Need-walk_fits-requires
walk-fits-requires c κs = counts_few _ _ (test_passed c.counts_admitted.ensures c.if-not-counts_admitted.false)

-- an area is too short
returns-3 : tie.Need-returns-then-not-walk_fits
returns-3 c =
    let (s, e1, e2) : tie.Start × tie.Else-not-is_valid × tie.Else-not-counts_admitted = search in
    let v = test_passed e1.is_valid.ensures e1.if-not-is_valid.false in
    let a = test_passed e2.counts_admitted.ensures e2.if-not-counts_admitted.false in
    let short = test_failed {b = fitting s} c.walk_fits.ensures c.if-not-walk_fits.true in
    (query_short _ _ (tree s) _ _ v a short, λ _. refl)

walk-requires : tie.Need-walk-walked-requires
unfolding start
walk-requires c κs =
    let e : tie.Else-not-walk_fits = search in
    (omega (arith, counts_few _ _ (admitted e)), fits_room _ (tree (start e)) _ _ (counts_nodes _ _ (admitted e)) (fits e))

-- the walk is broken off, and the list is cleared
returns-4 : tie.Need-returns-in_default
unfolding start
returns-4 c =
    let (e, w, told, z) : tie.Else-not-walk_fits × tie.After-walk-walked × tie.In_default × tie.After-zero_words = search in
    let same-long = w.walk-walked.auto.list in (
      query_broken _ _ (tree (start e)) _ _ (valid e) (admitted e) (fits e) _ _ w.walk-walked.ensures.0 w.walk-walked.ensures.1
          _ told.in_default.is same-long z.zero_words.ensures,
      λ failed. absurd (tests_passed _ _ (tree (start e)) _ _ (valid e) (admitted e) (fits e) failed),
    )

-- the walk ends
returns-5 : tie.Need-returns
unfolding start
returns-5 c =
    let (e, w, k) : tie.Else-not-walk_fits × tie.After-walk-walked × tie.In-Some = search in (
      query_listed _ _ (tree (start e)) _ _ (valid e) (admitted e) (fits e) _ _ w.walk-walked.ensures.0 w.walk-walked.ensures.1
          _ k.in-Some.is,
      λ failed. absurd (tests_passed _ _ (tree (start e)) _ _ (valid e) (admitted e) (fits e) failed),
    )

pub query_spec : {M : Type 1} → statement M
query_spec =
    tie.close
    (tie.spec
    (search rules)  -- is_valid-requires
    returns
    (search rules)  -- counts_admitted-requires
    returns-2
    walk-fits-requires
    returns-3
    walk-requires
    (search rules)  -- enum_known-walked
    (search rules)  -- enum_told-1
    (search rules)  -- zero_words-requires
    (search rules)  -- shape_of-list-in_default
    (search rules)  -- shape_of-stack-in_default
    returns-4
    (search rules)  -- shape_of-list
    (search rules)  -- shape_of-stack
    returns-5)
