-- A walk past the node count under three limits, computed from the definitions alone. Assumes nothing.
use mathlib.Core.Path.{◌≡◌, refl}
use mathlib.Core.List.{List, [], ◌∷◌}
use lib.Ieee.{Float, binary64, le, lt, is_nan, of_fields, of_bits}
use Rattle.geometry.specs.Box.{valid_side, valid_box, touch_side, touches}
use Rattle.geometry.specs.declared.aabb.Aabb.{Aabb}
use Rattle.lists.specs.Lists.{range, insert_by, sort_by}
use Rattle.tree.specs.Layout.{Tree, vector_at, box_at}
use Rattle.tree_walk.specs.Walk.{broken, take_place, take_places, at_leaf, child_fits, at_branch, at_node}
use Rattle.tree_walk.specs.Walk.{take_node}
use Rattle.tree_walk.specs.Walk.{start, ended}
use Rattle.tree_walk.specs.Looking.{looked, used_up, looked_in, nodes_looked, ended_look, look, looks, walk_within}

abbrev o : Float
o = of_bits binary64 0

abbrev zeros : List Float
zeros = o ∷ (o ∷ (o ∷ (o ∷ (o ∷ (o ∷ (o ∷ (o ∷ (o ∷ (o ∷ (o ∷ (o ∷ [])))))))))))

-- a branch that names one child twice, an empty leaf: two nodes, and three are taken from the stack
abbrev twice : Tree
twice = record { node_count = 2; node_boxes = zeros; triangle_boxes = []; node_words = 1 ∷ (1 ∷ (1 ∷ (0 ∷ (0 ∷ (0 ∷ []))))); order = [] }

abbrev point : Aabb
point = record { min = record { x = o; y = o; z = o }; max = record { x = o; y = o; z = o } }

pub past_costs_one : walk_within twice 0 point 1 ∷ (walk_within twice 0 point 2 ∷ (walk_within twice 0 point 3 ∷ [])) ≡ used_up 1 ∷
    (used_up 2 ∷ (looked 3 broken ∷ []))
unfolding walk_within ended_look looks look start ended take_node at_node at_branch child_fits at_leaf take_places take_place box_at
    vector_at
    sort_by insert_by range touches touch_side valid_box valid_side le lt is_nan of_bits of_fields
past_costs_one = refl

pub three_looked : nodes_looked twice 0 point ≡ 3
unfolding nodes_looked looked_in start take_node at_node at_branch child_fits at_leaf take_places take_place box_at vector_at range touches
    touch_side valid_box valid_side le lt is_nan of_bits of_fields
three_looked = refl
