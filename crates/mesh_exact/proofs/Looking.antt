-- A triangle that is not looked at is missed: all vertices are in range, and its box is apart from the segment's. Assumes nothing.
use Prim.Native.Nat.{ℕ}
use mathlib.Core.Path.{◌≡◌, refl, sym, ap, ◌∙◌}
use mathlib.Core.Bool.{Bool, true, false, not, ◌||◌, true≢false}
use lib.ListN.{length}
use Rattle.geometry.specs.Box.{corners_box, touches}
use Rattle.geometry.specs.declared.aabb.Aabb.{Aabb}
use Rattle.geometry.specs.declared.ray.Ray.{Ray}
use Rattle.casts.specs.Reach.{reach_of, Miss}
use Rattle.tree.specs.Mesh.{Mesh, thirds, corners_inside, corners_of}
use Rattle.exact_triangle.specs.declared.view.View.{View}
use Rattle.mesh_exact.specs.GridCast.{exact_answer}
use Rattle.mesh_exact.specs.Bounds.{AllWithin}
use Rattle.mesh_exact.specs.Noted.{Bounded}
use Rattle.mesh_exact.proofs.Ranges.{corners_within}
use Rattle.mesh_exact.proofs.Reaching.{apart_reach}

neither : (p q : Bool) → (not p || q) ≡ false → (p ≡ true) × (q ≡ false)
neither true q h = (refl, h)
neither false q h = absurd (true≢false h)

pub passed_missed : (r : Ray) (m : Mesh) (line : View) (bounds : Aabb) (within : Bool) → Bounded r line bounds
    → (within ≡ true → AllWithin m.vertices) → (i : ℕ) → corners_inside (thirds (length m.vertices)) m.triangles i ≡ true
    → (not within || touches (corners_box (corners_of m.vertices m.triangles i)) bounds) ≡ false
    → reach_of (exact_answer r m.vertices m.triangles i) ≡ Miss
passed_missed r m line bounds within h all i inside e =
    let vs = corners_of m.vertices m.triangles i in
    let (p, q) = neither within (touches (corners_box vs) bounds) e in
    apart_reach r m.vertices m.triangles i h.casts.valid h.casts.shown.admitted inside
    (corners_within m (all p) i inside) (sym (ap (touches (corners_box vs)) h.box) ∙ q)
