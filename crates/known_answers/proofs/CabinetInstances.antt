-- The promises of the limit and of the parts at a cabinet of two parts whose trees pass the check. Assumes nothing.
use Prim.Native.Nat.{◌≤◌}
use mathlib.Core.Path.{◌≡◌, refl, ap}
use mathlib.Core.List.{List, [], ◌∷◌}
use native.Mathlib.Omega.{arith}
use lib.Ieee.{Float, binary64, span, climb, size, odd, units, round, neg, sum, add, sub, mul, lt, eq, le, ne, is_nan, of_fields, of_bits}
use Rattle.arithmetic.specs.Basic.{is_finite, absolute}
use Rattle.arithmetic.specs.Root.{root_digits, whole_root, root_round, root_of}
use Rattle.vectors.specs.Vector.{finite_vec, dot_of, length_of}
use Rattle.geometry.specs.Segment.{unit_length, ray_admitted}
use Rattle.tree.specs.Mesh.{lengths_admitted}
use Rattle.mesh.specs.MeshCast.{shape_admitted, tree_fits, room_for}
use Rattle.mesh.specs.Demand3.{PassesCheck, NearestHit}
use Rattle.known_answers.proofs.MeshExamples.{odd_passes}
use Rattle.cabinet.specs.declared.part.Part.{Part}
use Rattle.cabinet.specs.Found.{Nothing}
use Rattle.cabinet.specs.Parts.{mesh_of, tree_of_part, ranges_inside, shape_fits, room_fits}
use Rattle.cabinet.specs.PartCast.{moved_ray}
use Rattle.cabinet.specs.Cabinet.{Answer, hit_in, none_after, answer_with, all_parts}
use Rattle.cabinet.specs.Promises.{nodes_of, nearest_part, AllChecked, none_checked, and_checked, alone, Passes, needed, LimitPromises}
use Rattle.cabinet.specs.PartAnswers.{NearestOfParts}
use Rattle.cabinet.proofs.Promises.{limits_hold}
use Rattle.cabinet.proofs.PartAnswers.{answers_parts}
use Rattle.known_answers.proofs.CabinetExamples.{areas, here, nearer, ray, cast, up, cabinets_answered}

-- ---- the cabinet: one mesh and its tree, of three nodes, twice, the second time a quarter nearer
abbrev parts : List Part
parts = here ∷ (nearer ∷ [])

-- both trees pass the check
passes : PassesCheck (mesh_of areas here) (tree_of_part areas here)
passes = record { marks = 9; says_yes = odd_passes }

pub both_checked : AllChecked areas parts
both_checked = and_checked here (nearer ∷ []) passes (and_checked nearer [] passes none_checked)

-- refusals 1, 2 and 3 let the call pass
both_pass : Passes ray areas 3 4 parts
unfolding ray_admitted unit_length length_of dot_of root_of root_round whole_root root_digits finite_vec all_parts shape_fits room_fits
    ranges_inside
    shape_admitted lengths_admitted room_for tree_fits is_finite absolute of_bits of_fields is_nan ne le eq lt mul sub add sum neg round
    units odd
    size climb span
both_pass = record { ray = refl; shapes = refl; rooms = refl }

pub limits : LimitPromises ray areas 3 4 parts
limits = limits_hold ray areas 3 4 parts both_pass

-- ---- the limit
pub six_suffice : needed ray areas 3 4 parts ≤ 6
unfolding nodes_of
six_suffice = limits.needs_few both_checked

-- so that the answer is that of casting at each part alone
pub six_as_alone : cast 6 parts ≡ answer_with (nearest_part (alone ray areas 3 4) Nothing 0 parts) (needed ray areas 3 4 parts)
six_as_alone = limits.each_alone 6 six_suffice

-- the answers at limits 6 and 5, as computed from the definition
abbrev second : List Answer → Answer
second [] = none_after 0
second (x ∷ []) = none_after 0
second (x ∷ (y ∷ rest)) = y

abbrev third : List Answer → Answer
third [] = none_after 0
third (x ∷ rest) = second rest

abbrev depth : Float
depth = of_bits binary64 0x3fe8_0000_0000_0000

at_six : cast 6 parts ≡ hit_in 1 0 up depth 6
at_six = ap second cabinets_answered

-- one node less does not suffice
pub six_needed : needed ray areas 3 4 parts ≡ 6
six_needed = let short = limits.only_used_up 5 5 (ap third cabinets_answered) in omega (arith, short, six_suffice)

-- ---- the parts: the second is the nearest, with its first triangle, which is the nearest of the three
pub second_nearest : NearestOfParts ray areas 3 4 parts 1 0 up depth
second_nearest = (answers_parts ray areas 3 4 parts 6 (omega arith)).hit_is 1 0 up depth 6 at_six

pub first_triangle_nearest : NearestHit (moved_ray ray nearer.origin) (mesh_of areas nearer) 0 up depth
first_triangle_nearest = second_nearest.of_triangles passes
