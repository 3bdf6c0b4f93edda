-- Merges computed from the definition alone: two boards of one triangle each get a root;
-- where a board has no triangle, the other's tree stands from node 0 on and its indices are moved up; a tree that fails is 5.
-- Assumes nothing.
use Prim.Native.Nat.{ℕ}
use mathlib.Core.Path.{◌≡◌, refl, ap}
use mathlib.Core.List.{List, [], ◌∷◌, ◌++◌}
use lib.Ieee.{Float, of_bits, of_fields, lt, le, eq, is_nan}
use lib.ListN.{replicate}
use Rattle.arithmetic.specs.Basic.{is_finite}
use Rattle.arithmetic.specs.Extremes.{minimum_of, maximum_of}
use Rattle.vectors.specs.Numbers.{zeroᶠ, oneᶠ}
use Rattle.vectors.specs.Vector.{min_of, max_of}
use Rattle.geometry.specs.Box.{valid_side, valid_box, within_side, encloses, same_side, same_box, union_of}
use Rattle.lists.specs.Lists.{range, count, every, flat_map}
use Rattle.tree.specs.Layout.{vector_at, box_at, box_numbers}
use Rattle.tree.specs.Mesh.{corners_inside, corner_at, triangle_box}
use Rattle.tree_check.specs.Check.{children_of, places_of, kinds_known, children_above, leaves_inside, named_once, placed_once}
use Rattle.tree_check.specs.Check.{ordered_once}
use Rattle.tree_check.specs.Check.{leaves_filled, corners_known, boxes_same, boxes_valid, node_encloses, enclosed, clauses_hold}
use Rattle.tree_check.specs.Check.{tree_passes}
use Rattle.tree_query.specs.Query.{tree_fits}
use Rattle.tree_copy.specs.Moved.{moved_up, moved_node, moved_nodes}
use Rattle.merge.specs.Merge.{Answer, nodes, refused, Board, Areas, Outcome, board_of, areas_of, merged_vertices, merged_triangles}
use Rattle.merge.specs.Merge.{roots, root_box, root_words, merged_count, merged_node_boxes, merged_words, merged_triangle_boxes}
use Rattle.merge.specs.Merge.{merged_order, merged_over, shapes_fit, shapes_admitted, room_in, results_fit, areas_fit, trees_pass, merge_of}
use Rattle.merge.specs.Promises.{Glued}
use Rattle.merge.proofs.MergePasses.{merged_trees_pass}
use Rattle.merge.proofs.MergeCasts.{merged_casts_glue}

-- the triangle (0,0,0), (1,0,0), (0,1,0), its box, and a leaf over it
abbrev corners : List Float
corners = zeroᶠ ∷ (zeroᶠ ∷ (zeroᶠ ∷ (oneᶠ ∷ (zeroᶠ ∷ (zeroᶠ ∷ (zeroᶠ ∷ (oneᶠ ∷ (zeroᶠ ∷ []))))))))

abbrev tight : List Float
tight = zeroᶠ ∷ (zeroᶠ ∷ (zeroᶠ ∷ (oneᶠ ∷ (oneᶠ ∷ (zeroᶠ ∷ [])))))

abbrev sixes : ℕ → List ℕ
sixes kind = kind ∷ (0 ∷ (1 ∷ (7 ∷ (7 ∷ (7 ∷ [])))))

abbrev one : ℕ → Board
one kind = board_of corners (0 ∷ (1 ∷ (2 ∷ []))) 1 (tight ++ tight) tight (sixes kind) (0 ∷ [])

abbrev bare : Board
bare = board_of corners [] 0 [] [] [] []

abbrev lent : Areas
lent = areas_of (replicate 18 oneᶠ) (replicate 7 9) (replicate 24 oneᶠ) (replicate 13 oneᶠ) (replicate 12 9) (replicate 3 9)

-- what is shown of an outcome: the answer, triangles, words and order
pub record Shown : Type 0 where
  pub answer : Answer
  pub triangles : List ℕ
  pub words : List ℕ
  pub order : List ℕ

abbrev shown : Outcome → Shown
shown o = record { answer = o.answer; triangles = o.after.triangles; words = o.after.node_words; order = o.after.order }

abbrev merges : List Shown
merges =
    shown (merge_of (one 0) (one 0) lent 6) ∷ (shown (merge_of bare (one 0) lent 6) ∷ (shown (merge_of (one 0) bare lent 6)
    ∷ (shown (merge_of (one 0) (one 2) lent 6) ∷ (shown (merge_of (one 0) (one 2) lent 5) ∷ []))))

pub merges_are : merges
    ≡ record {
      answer = nodes 3;
      triangles = 0 ∷ 1 ∷ 2 ∷ 3 ∷ 4 ∷ 5 ∷ 9 ∷ [];
      words = 1 ∷ 1 ∷ 2 ∷ 0 ∷ 0 ∷ 1 ∷ 0 ∷ 1 ∷ 1 ∷ 9 ∷ 9 ∷ 9 ∷ [];
      order = 0 ∷ 1 ∷ 9 ∷ [];
    }
    ∷ record { answer = nodes 1; triangles = 3 ∷ 4 ∷ 5 ∷ 9 ∷ 9 ∷ 9 ∷ 9 ∷ []; words = 0 ∷ 0 ∷ 1 ∷ replicate 9 9; order = 0 ∷ 9 ∷ 9 ∷ [] }
    ∷ record { answer = nodes 1; triangles = 0 ∷ 1 ∷ 2 ∷ 9 ∷ 9 ∷ 9 ∷ 9 ∷ []; words = 0 ∷ 0 ∷ 1 ∷ replicate 9 9; order = 0 ∷ 9 ∷ 9 ∷ [] }
    ∷ record { answer = refused 5; triangles = replicate 7 9; words = replicate 12 9; order = replicate 3 9 }
    ∷ record { answer = refused 3; triangles = replicate 7 9; words = replicate 12 9; order = replicate 3 9 } ∷ []
unfolding merge_of shapes_admitted shapes_fit areas_fit tree_fits results_fit room_in trees_pass merged_count merged_over merged_vertices
    merged_triangles roots root_box root_words merged_node_boxes merged_words merged_triangle_boxes merged_order moved_up moved_node
    moved_nodes
    box_numbers union_of tree_passes clauses_hold kinds_known children_above leaves_inside named_once placed_once ordered_once leaves_filled
    corners_known boxes_same boxes_valid node_encloses enclosed children_of places_of range count every flat_map vector_at box_at
    corners_inside
    corner_at triangle_box valid_side valid_box within_side encloses same_side same_box min_of max_of minimum_of maximum_of is_finite
    of_bits of_fields
    lt le eq is_nan
merges_are = refl

abbrev answer_of_first : List Shown → Answer
answer_of_first [] = refused 0
answer_of_first (s ∷ rest) = s.answer

two_merge : (merge_of (one 0) (one 0) lent 6).answer ≡ nodes 3
two_merge = ap answer_of_first merges_are

-- so the promises hold of the first of them
pub two_glued : Glued (one 0) (one 0) 3 (merge_of (one 0) (one 0) lent 6).after
two_glued = record {
  passes = λ marks long. merged_trees_pass (one 0) (one 0) lent 6 3 marks two_merge long;
  casts = merged_casts_glue (one 0) (one 0) lent 6 3 two_merge;
}
