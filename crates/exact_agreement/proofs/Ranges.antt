-- A board is in the exact cast's range: nothing of it is refused. Assumes nothing.
use Prim.Native.Nat.{ℕ, ◌*◌, ◌≤◌}
use mathlib.Core.Path.{◌≡◌, refl, sym, ap, ◌∙◌, subst}
use mathlib.Core.Bool.{Bool, true, false, not, true≢false}
use native.Mathlib.Nat.{le_trans}
use native.Mathlib.Omega.{arith}
use lib.Dec.{lit≤, lit<}
use lib.IntN.{ℤ, pos, nat_abs}
use lib.ListN.{length}
use lib.Ieee.{Float, lt}
use lib.Ieee.Exact.{HasValue}
use borrow.Author.Tests.{le-ltb}
use Rattle.lists.proofs.JoinedTests.{and_three}
use Rattle.arithmetic.specs.Basic.{absolute}
use Rattle.arithmetic.proofs.ValueOrder.{absolute_value, lt_values, le_values}
use Rattle.vectors.specs.declared.vec3.Vec3.{Vec3}
use Rattle.geometry.specs.declared.ray.Ray.{Ray}
use Rattle.tree.specs.Mesh.{Mesh, lengths_admitted, triangles_fit}
use Rattle.exact_triangle.specs.Grid.{within, all_within, furthest, longest}
use Rattle.exact_triangle.proofs.Touching.{furthest_is, longest_is}
use Rattle.mesh_exact.specs.Certain.{OutOfRange, origin, near, maximum, corner, Reason, ray, lengths, triangles, range}
use Rattle.whole_numbers.specs.Points.{Point}
use Rattle.whole_numbers.specs.WholeTriangle.{Drawn, DrawnAt}
use Rattle.whole_numbers.specs.WholeMesh.{Plan, WholeMesh}
use Rattle.whole_numbers.proofs.Drawings.{drawn}
use Rattle.whole_numbers.proofs.Decisions.{parted}
use Rattle.whole_numbers.proofs.WholeMeshes.{ray_admitted_lem}
use Rattle.exact_agreement.specs.Agreement.{OthersApart}

furthest_value : HasValue furthest false 8192 1
furthest_value = subst (λ (x : Float). HasValue x false 8192 1) (sym furthest_is) (refl, refl)

longest_value : HasValue longest false 32768 1
longest_value = subst (λ (x : Float). HasValue x false 32768 1) (sym longest_is) (refl, refl)

drawn_within : (x : Float) (z : ℤ) → Drawn 4096 x z → within furthest x ≡ true
drawn_within x z d =
    let p = parted x z (drawn 4096 x z (lit≤ tt) d).value in
    let b = d.bound in
    le_values (absolute x) furthest false false (nat_abs z) 1 8192 1 (lit< tt) (lit< tt)
    (absolute_value x p.sign (nat_abs z) 1 p.value) furthest_value
    ∙ ap not (le-ltb (8192 * 1) (nat_abs z * 1) (omega (arith, b)))

pub point_within : (v : Vec3) (p : Point) → DrawnAt 4096 v p → all_within furthest v ≡ true
point_within v p d =
    and_three _ _ _ (drawn_within v.x p.x d.first) (drawn_within v.y p.y d.second) (drawn_within v.z p.z d.third)

not_longer : (B : ℕ) (x : Float) (n : ℕ) → B ≤ 32768 → Drawn B x (pos n) → lt longest x ≡ false
not_longer B x n l d =
    let p = parted x (pos n) (drawn B x (pos n) (le_trans l (lit≤ tt)) d).value in
    let b = d.bound in
    go p.sign p.value (omega (arith, b, l))
  where
    go : (s : Bool) → HasValue x s n 1 → n ≤ 32768 → lt longest x ≡ false
    go true v b = lt_values longest x false true 32768 1 n 1 (lit< tt) (lit< tt) longest_value v
    go false v b =
        lt_values longest x false false 32768 1 n 1 (lit< tt) (lit< tt) longest_value v
        ∙ le-ltb (32768 * 1) (n * 1) (omega (arith, b))

module _ (r : Ray) (m : Mesh) (p : Plan) (whole_mesh : WholeMesh r m p) (others : OthersApart r m p) where
  in_range_lem : OutOfRange r m → ⊥
  in_range_lem (origin h) = true≢false (sym (point_within r.origin p.o whole_mesh.origin) ∙ h)
  in_range_lem (near h) = true≢false (sym h ∙ not_longer 0 r.near 0 (lit≤ tt) whole_mesh.near)
  in_range_lem (maximum h) = true≢false (sym h ∙ not_longer 16384 r.max_distance p.maximum (lit≤ tt) whole_mesh.maximum)
  in_range_lem (corner i k l l' h) = true≢false (sym (others.in_range i k l l') ∙ h)

  pub not_refused : lengths_admitted (length m.vertices) (length m.triangles) ≡ true → triangles_fit m ≡ true
      → (number : ℕ) → Reason r m number → ⊥
  not_refused shape fit number (ray e h) = true≢false (sym (ray_admitted_lem r m p whole_mesh) ∙ h)
  not_refused shape fit number (lengths e h) = true≢false (sym shape ∙ h)
  not_refused shape fit number (triangles e h) = true≢false (sym fit ∙ h)
  not_refused shape fit number (range e h) = in_range_lem h
