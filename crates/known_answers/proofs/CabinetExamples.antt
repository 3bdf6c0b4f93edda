-- Casts at a cabinet of two and three parts, computed from the definitions alone. Assumes nothing.
use Prim.Native.Nat.{ℕ}
use mathlib.Core.Path.{◌≡◌, refl}
use mathlib.Core.List.{List, [], ◌∷◌}
use lib.Ieee.{Float, binary64, span, climb, size, odd, units, round, neg, sum, add, sub, mul, div, lt, eq, le, ne, is_nan, of_fields}
use lib.Ieee.{of_bits}
use Rattle.arithmetic.specs.Basic.{is_finite, absolute}
use Rattle.arithmetic.specs.Extremes.{minimum_of, maximum_of}
use Rattle.arithmetic.specs.Scaling.{unit, digits_of, scaled_by}
use Rattle.arithmetic.specs.Root.{root_digits, whole_root, root_round, root_of}
use Rattle.vectors.specs.Vector.{component, finite_vec, add_of, sub_of, neg_of, scale_of, min_of, max_of, abs_of, max_element, dot_of}
use Rattle.vectors.specs.Vector.{checked_dot, cross_of, length_of, normalizable, zero_vec, dot_tells, scaled_to_one, over_length}
use Rattle.vectors.specs.Vector.{try_normalize}
use Rattle.geometry.specs.Box.{valid_side, valid_box, touch_side, touches}
use Rattle.geometry.specs.Segment.{unit_length, ray_admitted, segment_end, segment_box}
use Rattle.casts.specs.Surface.{off_segment, facing}
use Rattle.triangle_cast.specs.Triangle.{flat, triangle_normal, triangle_above, triangle_at, triangle_of}
use Rattle.nearest_hit.specs.Nearest.{next_of, fold_from}
use Rattle.lists.specs.Lists.{range, insert_by, sort_by}
use Rattle.tree.specs.Layout.{vector_at, box_at}
use Rattle.tree.specs.Mesh.{lengths_admitted, corners_inside, corner_at, triangle_answer}
use Rattle.tree_walk.specs.Walk.{times, take_place, take_places, at_leaf, child_fits, at_branch, at_node, take_node, start, ended, walk_of}
use Rattle.known_answers.proofs.QueryExamples.{o, i, quarter, ten, eleven, lower, odd_tree}
use Rattle.mesh.specs.MeshCast.{shape_admitted, tree_fits, room_for, over_walk, mesh_cast, ray_mesh}
use Rattle.vectors.specs.declared.vec3.Vec3.{Vec3}
use Rattle.geometry.specs.declared.ray.Ray.{Ray}
use Rattle.tree_walk.specs.Looking.{ended_look, look, looks, walk_within}
use Rattle.cabinet.specs.declared.part.Span.{Span}
use Rattle.cabinet.specs.declared.part.Part.{Part}
use Rattle.cabinet.specs.Parts.{Areas, ranges_inside, shape_fits, room_fits}
use Rattle.cabinet.specs.PartCast.{after_look, cast_within, moved_ray, cast_moved}
use Rattle.cabinet.specs.Cabinet.{Answer, hit_in, none_after, refused, refused_after, found_next, after_part, cast_part, cast_parts}
use Rattle.cabinet.specs.Cabinet.{all_parts, cast_cabinet}

-- the mesh and the tree of mesh/proofs/CastExamples.antt
abbrev vertices : List Float
vertices =
    o ∷ (o ∷ (o ∷ (i ∷ (o ∷ (o ∷ (o ∷ (i ∷ (o ∷ (ten ∷ (o ∷ (o ∷
    (eleven ∷ (o ∷ (o ∷ (ten ∷ (i ∷ (o ∷ (o ∷ (o ∷ (lower ∷ (i ∷ (o ∷ (lower ∷ (o ∷ (i ∷ (lower ∷ []))))))))))))))))))))))))))

abbrev pub areas : Areas
areas = record {
  vertices = vertices;
  triangles = 0 ∷ (1 ∷ (2 ∷ (3 ∷ (4 ∷ (5 ∷ (6 ∷ (7 ∷ (8 ∷ []))))))));
  node_boxes = odd_tree.node_boxes;
  triangle_boxes = odd_tree.triangle_boxes;
  node_words = odd_tree.node_words;
  order = odd_tree.order;
}

abbrev span₀ : ℕ → Span
span₀ length = record { start = 0; length = length }

-- a part at an origin, with so many places of the order
abbrev part_at : Vec3 → Span → Part
part_at origin order = record {
  origin = origin;
  nodes = 3;
  vertices = span₀ 27;
  triangles = span₀ 9;
  node_boxes = span₀ 36;
  triangle_boxes = span₀ 18;
  node_words = span₀ 18;
  order = order;
}

abbrev pub here : Part
here = part_at (record { x = o; y = o; z = o }) (span₀ 3)

-- a quarter nearer to the ray's origin
abbrev pub nearer : Part
nearer = part_at (record { x = o; y = o; z = quarter }) (span₀ 3)

-- an origin from which the difference is not finite
abbrev far : Part
far = part_at (record { x = of_bits binary64 0x7ff0_0000_0000_0000; y = o; z = o }) (span₀ 3)

-- short by a place of the order, and one place past the area's end
abbrev short : Part
short = part_at (record { x = o; y = o; z = o }) (span₀ 2)

abbrev past : Part
past = part_at (record { x = o; y = o; z = o }) (record { start = 1; length = 3 })

abbrev three : Float
three = of_bits binary64 0x4008_0000_0000_0000

abbrev pub ray : Ray
ray = record {
  origin = record { x = quarter; y = quarter; z = i };
  direction = record { x = o; y = o; z = lower };
  max_distance =
      three;
  near = o;
}

abbrev pub cast : ℕ → List Part → Answer
cast limit parts = cast_cabinet ray areas 3 4 limit parts

abbrev pub up : Vec3
up = record { x = o; y = o; z = i }

-- the node whose box does not touch costs one too: three nodes a part
pub cabinets_answered :
    cast 0 [] ∷ (cast 6 (here ∷ (nearer ∷ [])) ∷ (cast 5 (here ∷ (nearer ∷ [])) ∷
    (cast 0 (here ∷ []) ∷ (cast 9 (here ∷ (here ∷ [])) ∷ (cast 9 (here ∷ (short ∷ (past ∷ []))) ∷
    (cast 9 (here ∷ (short ∷ [])) ∷ (cast 3 (here ∷ (far ∷ [])) ∷
    (cast 0 (far ∷ (here ∷ [])) ∷ (cast 2 (here ∷ (far ∷ [])) ∷ [])))))))))
    ≡ none_after 0
    ∷ (hit_in 1 0 up (of_bits binary64 0x3fe8_0000_0000_0000) 6
    ∷ (refused_after 10 5 ∷ (refused_after 10 0 ∷ (hit_in 0 0 up i 6 ∷
    (refused 2 ∷ (refused 3 ∷ (refused_after 6 3 ∷ (refused_after 6 0 ∷ (refused_after 10 2 ∷ [])))))))))
unfolding cast_cabinet all_parts cast_parts cast_part after_part found_next shape_fits room_fits ranges_inside cast_moved moved_ray
    cast_within
    after_look walk_within looks look ended_look ray_mesh mesh_cast over_walk room_for tree_fits shape_admitted walk_of ended start
    take_node
    at_node at_branch child_fits at_leaf take_places take_place times triangle_answer corner_at corners_inside lengths_admitted box_at
    vector_at
    sort_by insert_by range fold_from next_of triangle_of triangle_at triangle_above triangle_normal flat facing off_segment segment_box
    segment_end ray_admitted unit_length touches touch_side valid_box valid_side normalizable zero_vec dot_tells scaled_to_one over_length
    try_normalize digits_of scaled_by unit length_of cross_of checked_dot dot_of max_element
    abs_of max_of min_of scale_of neg_of sub_of add_of finite_vec component root_of root_round whole_root root_digits maximum_of minimum_of
    absolute
    is_finite of_bits of_fields is_nan ne le eq lt div mul sub add sum neg round units odd size climb span
cabinets_answered = refl

-- "The ray's origin less the part's origin": from a part's own origin it is +0 on each axis
pub from_own_origin : (moved_ray ray ray.origin).origin ≡ record { x = o; y = o; z = o }
unfolding moved_ray sub_of of_bits of_fields sub add sum neg round units odd size climb span
from_own_origin = refl
