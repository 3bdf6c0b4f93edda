-- `exports::meshes::answer_mesh` meets its contract. Assumes nothing.
use Prim.Native.Nat.{ℕ, ◌-◌, ◌<◌, ◌≤◌}
use mathlib.Core.Path.{◌≡◌, refl}
use mathlib.Core.Bool.{true}
use mathlib.Core.List.{List}
use native.Mathlib.Omega.{arith}
use lib.Ieee.{Float}
use lib.ListN.{length, take}
use lib.Seq.{take-length}
use Rattle.tree.specs.Layout.{Tree, tree_of}
use Rattle.tree.specs.Mesh.{Mesh, mesh}
use Rattle.results.specs.Results.{results_fit}
use Rattle.exports.proofs.Kept.{results_fit_lem, hit_short, index_short, second_failed}
use Rattle.exports.proofs.MeshReturned.{mesh_short, mesh_returned}
use Rattle.exports.proofs.Reading.{with_demand}
use Rattle.exports.proofs.meshes.answer_mesh.Goals as goal

-- a part that is all of a slice
whole-floats : (xs : List Float) → take (length xs - 0) xs ≡ xs
whole-floats xs =
    let e : length xs - 0 ≡ length xs = omega arith in
    rw e (take-length xs)

whole_words : (xs : List ℕ) → take (length xs - 0) xs ≡ xs
whole_words xs =
    let e : length xs - 0 ≡ length xs = omega arith in
    rw e (take-length xs)

-- the hit slice is too short
pub returns-then-hit-lt4 : goal.returns-then-hit-lt4
returns-then-hit-lt4 c =
    let tree : Tree =
    let a = c.args in
    tree_of a.nodes a.node_boxes.now a.triangle_boxes.now a.node_words.now a.order.now in
    let own : Mesh =
    mesh c.args.vertices.now c.args.triangles.now in
    let a = c.args in
    with_demand a.hit.now a.index.now _ own a.pose.now tree _ _ _ _
    (mesh_short a.hit.now a.index.now _ own a.pose.now tree _ _ _
    (hit_short a.hit.now a.index.now c.if-hit-lt4.true) (rw c.ray_from-ray.ensures at c.short_cast.ensures))
    (λ _. (refl, refl))

-- the index slice is
pub returns-then-places-lt1 : goal.returns-then-places-lt1
returns-then-places-lt1 c =
    let tree : Tree =
    let a = c.args in
    tree_of a.nodes a.node_boxes.now a.triangle_boxes.now a.node_words.now a.order.now in
    let own : Mesh =
    mesh c.args.vertices.now c.args.triangles.now in
    let a = c.args in
    let few : length a.index.now < 1 = omega (arith, c.requires, c.if-places-lt1.true) in
    with_demand a.hit.now a.index.now _ own a.pose.now tree _ _ _ _
    (mesh_short a.hit.now a.index.now _ own a.pose.now tree _ _ _
    (index_short a.hit.now a.index.now c.if-hit-lt4.false few) (rw c.ray_from-ray.ensures at c.short_cast-then-places-lt1.ensures))
    (λ _. (refl, refl))

pub put_indexed-requires : goal.put_indexed-requires
put_indexed-requires c =
    let there : 1 ≤ length c.args.index.now =
    omega (arith, c.requires, c.if-places-lt1.false) in
    (c.if-hit-lt4.false, there)

-- the cast's answer
pub returns : goal.returns
returns c =
    let tree : Tree =
    let a = c.args in
    tree_of a.nodes a.node_boxes.now a.triangle_boxes.now a.node_words.now a.order.now in
    let own : Mesh =
    mesh c.args.vertices.now c.args.triangles.now in
    let there : 1 ≤ length c.args.index.now =
    omega (arith, c.requires, c.if-places-lt1.false) in
    let fits : results_fit c.args.hit.now c.args.index.now ≡ true =
    results_fit_lem c.args.hit.now c.args.index.now c.if-hit-lt4.false there in
    let a = c.args in
    let returned = rw (
      c.ray_from-ray.ensures,
      whole-floats a.vertices.now,
      whole_words a.triangles.now,
      whole-floats a.pose.now,
      whole-floats a.node_boxes.now,
      whole-floats a.triangle_boxes.now,
      whole_words a.node_words.now,
      whole_words a.order.now,
    ) at c.ray_mesh-found.ensures.0 in
    let kept = rw (
      c.ray_from-ray.ensures,
      whole-floats a.vertices.now,
      whole_words a.triangles.now,
      whole-floats a.pose.now,
      whole-floats a.node_boxes.now,
      whole-floats a.triangle_boxes.now,
      whole_words a.node_words.now,
      whole_words a.order.now,
    ) at c.ray_mesh-found.ensures.1.0 in
    with_demand a.hit.now a.index.now _ own a.pose.now tree _ _ _ _
    (mesh_returned a.hit.now a.index.now _ own a.pose.now tree _ _ _ _ fits returned c.put_indexed.ensures)
    (λ failed. kept (second_failed _ _ fits failed))
