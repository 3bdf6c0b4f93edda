-- The cast without a tree, refusal by refusal. Assumes nothing.
use Prim.Native.Nat.{ℕ, ◌%◌, ◌≤◌}
use mathlib.Core.Path.{◌≡◌, sym, ap, ◌∙◌}
use mathlib.Core.Bool.{true, false, ◌&&◌}
use borrow.Author.Tests.{leb-true}
use lib.Dec.{leb, eqb}
use lib.ListN.{length}
use Rattle.vectors.specs.Vector.{finite_vec}
use Rattle.geometry.specs.Segment.{ray_admitted, segment_end, segment_box}
use Rattle.geometry.specs.declared.aabb.Aabb.{Aabb}
use Rattle.geometry.specs.declared.ray.Ray.{Ray}
use Rattle.lists.proofs.JoinedTests.{and_second}
use Rattle.casts.specs.Answer.{invalid_input, bad_shape, overflow}
use Rattle.nearest_hit.specs.Nearest.{Indexed, stopped}
use Rattle.casts.proofs.SegmentBoxLaws.{segment_finite, segment_overflow}
use Rattle.tree.specs.Mesh.{Mesh, lengths_admitted}
use Rattle.mesh_plain.specs.PlainCast.{over_triangles, plain_cast, ray_mesh_plain}

pub triangles_few : (vertices triangles : ℕ) → lengths_admitted vertices triangles ≡ true → triangles ≤ 196608
unfolding lengths_admitted
triangles_few vertices triangles h =
    leb-true triangles 196608
    (and_second (eqb (triangles % 3) 0) (leb triangles 196608)
    (and_second (leb vertices 196608) (eqb (triangles % 3) 0 && leb triangles 196608)
    (and_second (eqb (vertices % 3) 0) (leb vertices 196608 && (eqb (triangles % 3) 0 && leb triangles 196608)) h)))

module _ (r : Ray) (m : Mesh) where
  pub plain_overflow : finite_vec (segment_end r) ≡ false → stopped overflow ≡ plain_cast r m
  unfolding plain_cast
  plain_overflow h = sym (segment_overflow stopped r (λ (box : Aabb). over_triangles r box m) h)

  -- both ends are finite, so the box is valid
  pub plain_over : ray_admitted r ≡ true → finite_vec (segment_end r) ≡ true → (box : Aabb) → box ≡ segment_box r
      → (answer : Indexed) → answer ≡ over_triangles r box m → answer ≡ plain_cast r m
  unfolding plain_cast
  plain_over v f box b answer a =
      a ∙ ap (λ (c : Aabb). over_triangles r c m) b ∙ sym (segment_finite stopped r (λ (c : Aabb). over_triangles r c m) v f)

  pub plain_invalid : ray_admitted r ≡ false → stopped invalid_input ≡ ray_mesh_plain r m
  unfolding ray_mesh_plain
  plain_invalid h = simp h

  module _ (v : ray_admitted r ≡ true) where
    pub plain_bad : lengths_admitted (length m.vertices) (length m.triangles) ≡ false → stopped bad_shape ≡ ray_mesh_plain r m
    unfolding ray_mesh_plain
    plain_bad h = simp (v, h)

    pub plain_passed : lengths_admitted (length m.vertices) (length m.triangles) ≡ true
        → (answer : Indexed) → answer ≡ plain_cast r m → answer ≡ ray_mesh_plain r m
    unfolding ray_mesh_plain
    plain_passed h answer a = a ∙ simp (v, h)
