-- The check's own answer at the trees of Examples, in areas that are long enough: yes to the foreign tree, and no for each fault. Before
-- that
-- 2 for a bad shape and 3 for an area or marks too short. Assumes nothing.
use mathlib.Core.Path.{◌≡◌, refl}
use mathlib.Core.List.{[], ◌∷◌, ◌++◌, map}
use lib.Ieee.{of_bits, of_fields, lt, le, eq, is_nan}
use lib.ListN.{replicate}
use Rattle.arithmetic.specs.Basic.{is_finite}
use Rattle.arithmetic.specs.Extremes.{minimum_of, maximum_of}
use Rattle.vectors.specs.Numbers.{zeroᶠ}
use Rattle.vectors.specs.Vector.{min_of, max_of}
use Rattle.geometry.specs.Box.{valid_side, valid_box, within_side, encloses, same_side, same_box}
use Rattle.lists.specs.Lists.{range, count, every, flat_map}
use Rattle.tree.specs.Layout.{Tree, vector_at, box_at}
use Rattle.tree.specs.Mesh.{Mesh, lengths_admitted, corners_inside, corner_at, triangle_box}
use Rattle.tree_check.specs.Check.{children_of, places_of, kinds_known, children_above, leaves_inside, named_once, placed_once}
use Rattle.tree_check.specs.Check.{ordered_once}
use Rattle.tree_check.specs.Check.{leaves_filled, corners_known, boxes_same, boxes_valid, node_encloses, enclosed, clauses_hold}
use Rattle.tree_check.specs.Check.{tree_passes}
use Rattle.tree_check.specs.Verdict.{Ruling, yes, no, refused, room_for, check_of}
use Rattle.known_answers.proofs.WordExamples.{thrice, past, tight, edge, wide, leaf}
use Rattle.known_answers.proofs.WordExamples.{branch, in_order, tree_of, leaf_over, foreign, faulty}

-- a tree in areas for three triangles; the places behind its own are never looked at
abbrev lent : Tree → Tree
lent t = record {
  node_count = t.node_count;
  node_boxes = t.node_boxes ++ replicate 36 zeroᶠ;
  triangle_boxes = t.triangle_boxes;
  node_words = t.node_words ++ replicate 18 0;
  order = t.order;
}

abbrev ask : Mesh → Tree → Ruling
ask m t = check_of m (lent t) 9

-- seven nodes over three triangles, more than 2n
abbrev seven : Tree
seven = tree_of 7 wide (branch 1 2 ++ (leaf 0 1 ++ leaf 1 2)) in_order

-- two numbers of a triangle's three indices
abbrev torn : Mesh
torn = record { vertices = thrice.vertices; triangles = 0 ∷ 1 ∷ [] }

-- yes; a triangle index past the vertices, a node count above 2n, and each fault of Examples: no; marks, or areas, too short; a bad shape
pub verdicts :
    ask thrice foreign
    ∷ ask past (leaf_over (tight ++ (tight ++ edge)))
    ∷ ask thrice seven
    ∷ check_of thrice (lent foreign) 8
    ∷ check_of thrice foreign 9
    ∷ ask torn foreign
    ∷ map (ask thrice) faulty
    ≡ yes ∷ no ∷ no ∷ refused 3 ∷ refused 3 ∷ refused 2 ∷ replicate 11 no
unfolding check_of room_for lengths_admitted tree_passes clauses_hold kinds_known children_above leaves_inside named_once placed_once
    ordered_once
    leaves_filled corners_known boxes_same boxes_valid node_encloses enclosed children_of places_of range count every flat_map vector_at
    box_at
    corners_inside corner_at triangle_box valid_side valid_box within_side encloses same_side same_box min_of max_of minimum_of maximum_of
    is_finite
    of_bits of_fields lt le eq is_nan
verdicts = refl
