-- Calls with many rays, computed from the definitions alone: a hit, a none and a refusal, each at its own ray's places. Assumes nothing.
use mathlib.Core.Path.{◌≡◌, refl, ap}
use mathlib.Core.List.{List, [], ◌∷◌}
use lib.Ieee.{Float, binary64, of_bits}
use lib.ListN.{get_or}
use Rattle.nearest_hit.specs.Nearest.{Indexed, no_hit}
use Rattle.tree.specs.Layout.{vector_at}
use Rattle.tree.specs.Mesh.{Mesh, lengths_admitted}
use Rattle.known_answers.proofs.QueryExamples.{o, i, quarter, ten, eleven, lower, odd_tree}
use Rattle.mesh.specs.MeshCast.{shape_admitted, tree_fits, room_for}
use Rattle.known_answers.proofs.MeshExamples.{casts_answered}
use Rattle.tree_exact.specs.ExactMesh as Exact
use Rattle.known_answers.proofs.TreeExactExamples.{casts_hit}
use Rattle.results.specs.Results.{hit_code, none_code, done_code}
use Rattle.many_casts.specs.Many.{ray_at, Places, places, places_fit, answer_at, answers_of, ReturnedMany, returned_many, many_returned}
use Rattle.many_casts.specs.Many.{mesh_answer, exact_answer}

-- a mesh of three triangles, and a tree that no builder of ours would write
abbrev vertices : List Float
vertices =
    o ∷ o ∷ o ∷ i ∷ o ∷ o ∷ o ∷ i ∷ o ∷ ten ∷ o ∷ o ∷ eleven ∷ o ∷ o ∷ ten ∷ i ∷ o ∷ o ∷ o ∷ lower ∷ i ∷ o ∷ lower ∷ o ∷ i ∷ lower ∷ []

abbrev pub mesh : Mesh
mesh = record { vertices = vertices; triangles = 0 ∷ 1 ∷ 2 ∷ 3 ∷ 4 ∷ 5 ∷ 6 ∷ 7 ∷ 8 ∷ [] }

abbrev two : Float
two = of_bits binary64 0x4000_0000_0000_0000

abbrev three : Float
three = of_bits binary64 0x4008_0000_0000_0000

-- result slices one place longer than three rays ask, all of them marked
abbrev pub marked : Places
marked =
    places (9 ∷ 9 ∷ 9 ∷ 9 ∷ []) (ten ∷ ten ∷ ten ∷ ten ∷ ten ∷ ten ∷ ten ∷ ten ∷ ten ∷ ten ∷ ten ∷ ten ∷ ten ∷ []) (9 ∷ 9 ∷ 9 ∷ 9 ∷ [])

-- the first ray's normal and distance, and nothing else written
abbrev first_hit : List Float
first_hit = o ∷ o ∷ i ∷ i ∷ ten ∷ ten ∷ ten ∷ ten ∷ ten ∷ ten ∷ ten ∷ ten ∷ ten ∷ []

-- two codes are too few for three rays
abbrev narrow : Places
narrow = places (9 ∷ 9 ∷ []) marked.hits marked.indices

-- ---- the mesh cast

-- from 1 above the first triangle straight down: 3 far, a quarter far, and with a direction of length 2
abbrev pub rays : List Float
rays =
    quarter ∷ quarter ∷ i ∷ o ∷ o ∷ lower ∷ three ∷ o ∷ quarter ∷ quarter ∷ i ∷ o ∷ o ∷ lower ∷ quarter ∷ o
    ∷ quarter ∷ quarter ∷ i ∷ o ∷ o ∷ two ∷ three ∷ o ∷ []

abbrev returned : List Float → Places → ReturnedMany
returned numbers p = many_returned (mesh_answer mesh vertices odd_tree 3 4) numbers mesh vertices odd_tree (room_for mesh odd_tree 3 4) p

-- three answers, one after the other
abbrev answered : Indexed → Indexed → Indexed → ReturnedMany
answered a b c = returned_many done_code (answer_at c 2 (answer_at b 1 (answer_at a 0 marked)))

-- a hit of triangle 0 at distance 1, none, and refused with 1
pub three_rays :
    returned rays marked
    ≡ returned_many done_code
    (places (hit_code ∷ none_code ∷ 1 ∷ 9 ∷ []) first_hit (0 ∷ 9 ∷ 9 ∷ 9 ∷ []))
unfolding many_returned answers_of answer_at ray_at vector_at places_fit room_for tree_fits shape_admitted lengths_admitted
three_rays = ap (λ (l : List Indexed). answered (get_or l 0 no_hit) (get_or l 2 no_hit) (get_or l 3 no_hit)) casts_answered

-- no ray is no answer; seven numbers are no ray; a code is missing
pub refusals_returned :
    returned [] marked ∷ returned (o ∷ o ∷ o ∷ o ∷ o ∷ i ∷ three ∷ []) marked ∷ returned rays narrow ∷ []
    ≡ returned_many done_code marked ∷ returned_many 2 marked ∷ returned_many 3 narrow ∷ []
unfolding many_returned answers_of places_fit room_for tree_fits shape_admitted lengths_admitted
refusals_returned = refl

-- ---- the exact cast

-- straight down at the corner of two triangles, and past the longest side
abbrev corners : List Float
corners = o ∷ o ∷ i ∷ o ∷ o ∷ lower ∷ three ∷ o ∷ i ∷ i ∷ i ∷ o ∷ o ∷ lower ∷ three ∷ o ∷ []

abbrev both : Indexed → Indexed → ReturnedMany
both a b = returned_many done_code (answer_at b 1 (answer_at a 0 marked))

pub two_exact_rays :
    many_returned (exact_answer mesh vertices odd_tree 4) corners mesh vertices odd_tree (Exact.room_for mesh odd_tree 4) marked
    ≡ returned_many done_code
    (places (hit_code ∷ none_code ∷ 9 ∷ 9 ∷ []) first_hit (0 ∷ 9 ∷ 9 ∷ 9 ∷ []))
unfolding many_returned answers_of answer_at ray_at vector_at places_fit Exact.room_for tree_fits shape_admitted lengths_admitted
two_exact_rays = ap (λ (l : List Indexed). both (get_or l 0 no_hit) (get_or l 2 no_hit)) casts_hit
