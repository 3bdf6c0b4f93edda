-- The exported query through a tree that passes the check, and that our builder did not write: what it lists is complete. Assumes nothing.
use mathlib.Core.Path.{◌≡◌, refl, sym, ◌∙◌}
use mathlib.Core.Bool.{true}
use mathlib.Core.List.{[], ◌∷◌}
use native.Mathlib.Omega.{arith}
use lib.Ieee.{of_bits, le, is_nan}
use lib.ListN.{take}
use Rattle.arithmetic.specs.Basic.{is_finite}
use Rattle.geometry.specs.Box.{valid_side, valid_box, touch_side, touches}
use Rattle.lists.specs.Lists.{range, insert_by, sort_by}
use Rattle.tree.specs.Layout.{word_at, vector_at, box_at}
use Rattle.tree.specs.Mesh.{candidates}
use Rattle.tree_walk.specs.Walk.{times, take_place, take_places, at_leaf, child_fits, at_branch, at_node, take_node, start, ended, walk_of}
use Rattle.tree_query.specs.Query.{counts_admitted, tree_fits, walk_fits, after_walk, query_of}
use Rattle.known_answers.proofs.QueryExamples.{odd_tree, area, column}
use Rattle.known_answers.proofs.MeshExamples.{mesh, odd_admitted}
use Rattle.results.specs.Results.{QueryReturned, returned_found, query_returned, done_code}
use Rattle.exports.specs.Reading.{QueryRead}
use Rattle.exports.proofs.QueryCalls.{query_complete}

-- a thin column through the first and the last triangle
abbrev returned : QueryReturned
returned = query_returned column 3 odd_tree area 4 (0 ∷ [])

complete : QueryRead column mesh odd_tree 4 4 (0 ∷ []) returned
complete = query_complete column 3 odd_tree area 4 (0 ∷ []) returned refl mesh refl odd_admitted.tree

column_valid : valid_box column ≡ true
unfolding valid_box valid_side is_finite le is_nan of_bits
column_valid = refl

areas_fit_lem : walk_fits 3 odd_tree 4 4 ≡ true
unfolding walk_fits tree_fits
areas_fit_lem = refl

pub query_done : returned.returned.number ≡ done_code
query_done = complete.done column_valid areas_fit_lem (omega arith)

listed : take (word_at returned.returned.count 0) returned.list ≡ 0 ∷ 2 ∷ []
unfolding query_returned returned_found query_of after_walk walk_fits tree_fits counts_admitted walk_of ended start take_node at_node
    at_branch
    child_fits at_leaf take_places take_place times box_at vector_at sort_by insert_by range touches touch_side valid_box valid_side
    is_finite le is_nan
    of_bits
listed = refl

-- so the two triangles that it lists are all of the mesh whose boxes touch
pub query_lists_all : candidates mesh column ≡ 0 ∷ 2 ∷ []
query_lists_all = sym (complete.lists query_done) ∙ listed
