-- What the exported calls with many rays promise of each ray, at a call of three rays: demand 3 of what is read at the first ray's places.
-- Assumes nothing.
use mathlib.Core.Path.{refl}
use native.Mathlib.Omega.{arith}
use Rattle.tree.specs.Layout.{vector_at}
use Rattle.known_answers.proofs.QueryExamples.{odd_tree}
use Rattle.mesh.specs.Demand3.{MeetsDemand}
use Rattle.known_answers.proofs.MeshExamples.{odd_admitted}
use Rattle.results.specs.Results.{results_fit}
use Rattle.many_casts.specs.Many.{ray_at, read_at, Places, places_fit, answers_of, mesh_answer}
use Rattle.many_casts.proofs.Answers.{each_as_single}
use Rattle.known_answers.proofs.ManyExamples.{mesh, rays, marked}
use Rattle.exports.specs.Reading.{answer_read}
use Rattle.exports.proofs.ManyCalls.{mesh_each}

-- the result slices after the call
abbrev after : Places
after = answers_of (mesh_answer mesh mesh.vertices odd_tree 3 4) rays 3 marked

-- the first ray hits, as many_casts.proofs.Examples computes
pub first_ray_meets_demand : MeetsDemand (ray_at rays 0) mesh (answer_read (read_at after 0))
unfolding places_fit ray_at vector_at results_fit
first_ray_meets_demand =
    (mesh_each rays mesh mesh.vertices odd_tree marked after 3 4
    (each_as_single (mesh_answer mesh mesh.vertices odd_tree 3 4) rays marked refl) 0 (omega arith)).1
    refl odd_admitted refl
