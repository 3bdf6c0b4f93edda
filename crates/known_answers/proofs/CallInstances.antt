-- Demand 3 and the builder's sentence at the exported calls: the mesh cast through a tree that our builder did not write, and the build of
-- five triangles. Assumes nothing.
use Prim.Native.Nat.{ℕ}
use mathlib.Core.Path.{◌≡◌, refl, ap, ◌∙◌}
use mathlib.Core.List.{List, [], ◌∷◌}
use native.Mathlib.Omega.{arith}
use lib.Ieee.{Float, binary64, of_bits}
use lib.ListN.{length, replicate}
use lib.Dec.{leb}
use Rattle.vectors.specs.Numbers.{zeroᶠ}
use Rattle.geometry.specs.declared.ray.Ray.{Ray}
use Rattle.tree.specs.Mesh.{Mesh, mesh, lengths_admitted}
use Rattle.tree.specs.Layout.{Areas, areas, tree_in, word_at}
use Rattle.casts.specs.Answer.{no_room}
use Rattle.known_answers.proofs.BuildExamples.{corners, times, answered, k11_five}
use Rattle.tree_build.specs.Build.{Answer, build_of}
use Rattle.tree_check.specs.Verdict.{yes, check_of}
use Rattle.known_answers.proofs.QueryExamples.{o, i, quarter, ten, eleven, lower, odd_tree}
use Rattle.mesh.specs.Demand3.{MeetsDemand}
use Rattle.known_answers.proofs.MeshExamples.{odd_admitted}
use Rattle.results.specs.Results.{BuildReturned, results_fit, answered_mesh, returned_nodes, build_returned, done_code}
use Rattle.exports.specs.Reading.{answer_read}
use Rattle.exports.proofs.Kept.{room_there}
use Rattle.exports.proofs.Reading.{with_demand, built_read}

-- ---- the mesh cast

-- the three triangles of that tree: one at height 0, one beside it, one below it
abbrev column : Mesh
column = record {
  vertices =
      o ∷ o ∷ o ∷ i ∷ o ∷ o ∷ o ∷ i ∷ o ∷ ten ∷ o ∷ o ∷ eleven ∷ o ∷ o ∷ ten ∷ i ∷ o ∷ o ∷ o ∷ lower ∷ i ∷ o ∷ lower ∷ o ∷ i ∷ lower ∷ [];
  triangles = 0 ∷ 1 ∷ 2 ∷ 3 ∷ 4 ∷ 5 ∷ 6 ∷ 7 ∷ 8 ∷ [];
}

-- from 1 above the first, straight down, at most 3 far
abbrev downward : Ray
downward = record {
  origin = record { x = quarter; y = quarter; z = i };
  direction = record { x = o; y = o; z = lower };
  max_distance = of_bits binary64 0x4008_0000_0000_0000;
  near = o;
}

-- the result slices, just long enough
abbrev area : List Float
area = replicate 4 zeroᶠ

abbrev place : List ℕ
place = 0 ∷ []

pub odd_call_meets_demand :
    MeetsDemand downward column (answer_read (answered_mesh downward column column.vertices odd_tree 3 4 area place))
unfolding results_fit
odd_call_meets_demand =
    (with_demand area place downward column column.vertices odd_tree 3 4 _ Unit refl tt).1.1 refl odd_admitted refl

-- ---- the build
abbrev five : Mesh
five = mesh corners (times 5)

abbrev lent : Areas
lent = areas (replicate 60 zeroᶠ) (replicate 30 zeroᶠ) (replicate 30 0) (replicate 5 0)

-- its number is 'done', and the check says yes to the tree that stands in the areas, with the node count that is read back
pub five_call_done : (build_returned five lent 5 place).returned.number ≡ done_code
unfolding build_returned returned_nodes answered times
five_call_done =
    let o = build_of five lent 5 in
    let returned : BuildReturned = record { returned = returned_nodes o.answer place; after = o.after } in
    let short : BuildReturned = record { returned = record { number = no_room; count = place }; after = lent } in
    let admitted = lengths_admitted (length five.vertices) (length five.triangles) in
    ap (λ (b : BuildReturned). b.returned.number) (room_there admitted (leb 1 (length place)) returned short refl)
    ∙ ap (λ (a : Answer). (returned_nodes a place).number) k11_five

pub five_call_passes :
    check_of five (tree_in (word_at (build_returned five lent 5 place).returned.count 0) (build_returned five lent 5 place).after) 15 ≡ yes
unfolding times
five_call_passes = built_read five lent 5 place (omega arith) _ refl five_call_done 15 (omega arith)
