-- A tree that no builder of ours would write, and queries over it, computed from the definitions alone. Assumes nothing.
use Prim.Native.Nat.{ℕ}
use mathlib.Core.Path.{◌≡◌, refl}
use mathlib.Core.List.{List, [], ◌∷◌}
use lib.Ieee.{Float, binary64, of_bits, le, is_nan}
use lib.ListN.{drop}
use Rattle.arithmetic.specs.Basic.{is_finite}
use Rattle.geometry.specs.Box.{valid_side, valid_box, touch_side, touches}
use Rattle.geometry.specs.declared.aabb.Aabb.{Aabb}
use Rattle.lists.specs.Lists.{range, insert_by, sort_by}
use Rattle.tree.specs.Layout.{Tree, vector_at, box_at}
use Rattle.tree_walk.specs.Walk.{times, take_place, take_places, at_leaf, child_fits, at_branch, at_node, take_node, start, ended, walk_of}
use Rattle.tree_query.specs.Query.{count, refused, counts_admitted, tree_fits, walk_fits, after_walk, query_of}

abbrev pub o : Float
o = of_bits binary64 0

abbrev pub i : Float
i = of_bits binary64 0x3ff0_0000_0000_0000

abbrev pub quarter : Float
quarter = of_bits binary64 0x3fd0_0000_0000_0000

abbrev pub ten : Float
ten = of_bits binary64 0x4024_0000_0000_0000

abbrev pub eleven : Float
eleven = of_bits binary64 0x4026_0000_0000_0000

abbrev pub lower : Float
lower = of_bits binary64 0xbff0_0000_0000_0000

-- three triangles: one at height 0, one beside it, one below it
abbrev boxes : List Float
boxes =
    o ∷ (o ∷ (o ∷ (i ∷ (i ∷ (o ∷ (ten ∷ (o ∷ (o ∷ (eleven ∷ (i ∷ (o ∷ (o ∷ (o ∷ (lower ∷ (i ∷ (i ∷ (lower ∷ [])))))))))))))))))

-- the root's left child stands behind its right one; the leaves hold one and two triangles, out of order
abbrev pub odd_tree : Tree
odd_tree = record {
  node_count = 3;
  node_boxes =
      o ∷ (o ∷ (lower ∷ (eleven ∷ (i ∷ (o ∷ (ten ∷ (o ∷ (o ∷ (eleven ∷ (i ∷ (o ∷ (o ∷ (o ∷ (lower ∷ (i ∷ (i ∷ (o ∷ (o ∷ (o ∷ (o ∷ (o ∷ (o ∷
      (o ∷ (o ∷ (o ∷ (o ∷ (o ∷ (o ∷ (o ∷ (o ∷ (o ∷ (o ∷ (o ∷ (o ∷ (o ∷ [])))))))))))))))))))))))))))))))))));
  triangle_boxes = boxes;
  node_words = 1 ∷ (2 ∷ (1 ∷ (0 ∷ (0 ∷ (1 ∷ (0 ∷ (1 ∷ (2 ∷ (9 ∷ (9 ∷ (9 ∷ (9 ∷ (9 ∷ (9 ∷ (9 ∷ (9 ∷ (9 ∷ [])))))))))))))))));
  order = 1 ∷ (2 ∷ (0 ∷ []));
}

abbrev box_from : Float → Float → Float → Float → Float → Float → Aabb
box_from a b c d e f = record { min = record { x = a; y = b; z = c }; max = record { x = d; y = e; z = f } }

abbrev pub area : List ℕ
area = 7 ∷ (7 ∷ (7 ∷ (7 ∷ [])))

abbrev pub column : Aabb
column = box_from quarter quarter lower quarter quarter i

-- a tree whose root names one child twice, so that the walk takes more nodes than there are
abbrev twice_named : Tree
twice_named = record {
  node_count = 2;
  node_boxes = odd_tree.node_boxes;
  triangle_boxes = boxes;
  node_words = 1 ∷ (1 ∷ (1 ∷ (0 ∷ (1 ∷ (2 ∷ drop 6 odd_tree.node_words)))));
  order = odd_tree.order;
}

-- the column lists the triangles above each other, ascending, and leaves the rest of the area; a box around all lists all;
-- a walk past the node count is 5, a box with its sides exchanged 1, more nodes than 2n 2, a list for two triangles 3
pub queries_answered :
    query_of column 3 odd_tree area 4
    ∷ (query_of (box_from o o lower eleven i i) 3 odd_tree area 4
    ∷ (query_of column 3 (record {
      node_count = 0;
      node_boxes = odd_tree.node_boxes;
      triangle_boxes = boxes;
      node_words = odd_tree.node_words;
      order = odd_tree.order;
    }) area 4
    ∷ (query_of (box_from o o lower eleven i i) 3 twice_named area 4
    ∷ (query_of (box_from i o o o i i) 3 odd_tree area 4
    ∷ (query_of column 1 odd_tree area 4
    ∷ (query_of column 3 odd_tree (7 ∷ (7 ∷ [])) 4 ∷ []))))))
    ≡ record { answer = count 2; list = 0 ∷ (2 ∷ (7 ∷ (7 ∷ []))) }
    ∷ (record { answer = count 3; list = 0 ∷ (1 ∷ (2 ∷ (7 ∷ []))) }
    ∷ (record { answer = count 0; list = area }
    ∷ (record { answer = refused 5; list = 0 ∷ (0 ∷ (0 ∷ (0 ∷ []))) }
    ∷ (record { answer = refused 1; list = area }
    ∷ (record { answer = refused 2; list = area }
    ∷ (record { answer = refused 3; list = 7 ∷ (7 ∷ []) } ∷ []))))))
unfolding query_of after_walk walk_fits tree_fits counts_admitted walk_of ended start take_node at_node at_branch child_fits at_leaf
    take_places
    take_place times box_at vector_at sort_by insert_by range touches touch_side valid_box valid_side is_finite le is_nan of_bits
queries_answered = refl
