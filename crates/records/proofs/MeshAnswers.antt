-- The tree built in areas of zeros, and the cast through it, are the answer to a mesh. Assumes nothing.
use Prim.Native.Nat.{ℕ, ◌+◌, ◌*◌, ◌≤◌}
use mathlib.Core.Path.{◌≡◌, sym}
use mathlib.Core.Bool.{true, false}
use mathlib.Core.List.{List}
use native.Mathlib.Omega.{arith}
use lib.Ieee.{Float}
use lib.ListN.{length, take, replicate}
use lib.Seq.{length-take-le}
use Rattle.vectors.specs.Numbers.{zeroᶠ}
use Rattle.geometry.specs.Segment.{ray_admitted}
use Rattle.geometry.specs.declared.ray.Ray.{Ray}
use Rattle.casts.specs.Answer.{invalid_input, number_of}
use Rattle.nearest_hit.specs.Nearest.{Indexed, stopped}
use Rattle.tree.specs.Mesh.{Mesh, thirds}
use Rattle.tree_build.specs.Build.{says, Outcome, build_of}
use Rattle.tree.specs.Layout.{Areas, areas, tree_in}
use Rattle.std.specs.Prelude.{Result, Ok, Err}
use Rattle.casts.specs.declared.answer.Refusal.{Refusal}
use Rattle.mesh.specs.MeshCast.{ray_mesh}
use Rattle.mesh.specs.Through.{through_built, through_tree}
use Rattle.records.specs.MeshAnswer.{mesh_answer}
use Rattle.records.specs.Areas.{TreeRoom}

-- ---- after the build

module _ (ray : Ray) (m : Mesh) (list stack : ℕ) (built : Result ℕ Refusal) (after : Areas) (outcome : Outcome)
    (is : ◌≡◌ {A = Outcome} record { answer = says built; after = after } outcome) where
  pub through_nodes : (count kept : ℕ) (a : Indexed) → built ≡ Ok count → kept ≡ list → a ≡ ray_mesh ray m m.vertices
      (tree_in count after) kept stack
      → a ≡ through_tree ray m list stack outcome
  unfolding through_built
  through_nodes count kept a n k e = rw (sym is, n, sym k) e

  pub through_refused : (refusal : Refusal) → built ≡ Err refusal → stopped (number_of refusal) ≡ through_tree ray m list stack outcome
  unfolding through_built
  through_refused refusal n = rw (sym is, n)

-- ---- in fresh areas

pub refused_ray : (ray : Ray) (m : Mesh) → ray_admitted ray ≡ false → stopped invalid_input ≡ mesh_answer ray m
unfolding mesh_answer
refused_ray ray m h = simp h

pub fresh_answer : (ray : Ray) (m : Mesh) (a : Indexed) {node_boxes nodeBoxes' triangle_boxes triangleBoxes' : List Float}
    {node_words nodeWords' order order' list stack : List ℕ}
    → ray_admitted ray ≡ true → TreeRoom (thirds (length m.triangles)) node_boxes triangle_boxes node_words order list stack
    → nodeBoxes' ≡ replicate (length node_boxes) zeroᶠ → triangleBoxes' ≡ replicate (length triangle_boxes) zeroᶠ
    → nodeWords' ≡ replicate (length node_words) 0 → order' ≡ replicate (length order) 0
    → a ≡ through_tree ray m (length list) (length stack) (build_of m (areas nodeBoxes' triangleBoxes' nodeWords' order') (length list)) → a
    ≡
    mesh_answer ray m
unfolding mesh_answer
fresh_answer ray m a admitted room n t w o e =
    simp admitted (rw (n, t, w, o, room.boxed, room.bounded, room.worded, room.ordered, room.listed, room.stacked) at e)

-- ---- parts of the areas

pub cut_room : (count : ℕ) (node_boxes triangle_boxes : List Float) (node_words order list stack : List ℕ) → count ≤ 677
    → length node_boxes ≡ 8124 → length triangle_boxes ≡ 4062 → length node_words ≡ 4062 → length order ≡ 677 → length list ≡ 677
    → length stack ≡ 1355
    → TreeRoom count (take (12 * count) node_boxes) (take (6 * count) triangle_boxes)
    (take (6 * count) node_words) (take count order) (take count list) (take (2 * count + 1) stack)
cut_room count node_boxes triangle_boxes node_words order list stack few n t w o l s = record {
  boxed = length-take-le (12 * count) node_boxes (omega (arith, n));
  bounded = length-take-le (6 * count) triangle_boxes (omega (arith, t));
  worded = length-take-le (6 * count) node_words (omega (arith, w));
  ordered = length-take-le count order (omega (arith, o));
  listed = length-take-le count list (omega (arith, l));
  stacked = length-take-le (2 * count + 1) stack (omega (arith, s));
}
