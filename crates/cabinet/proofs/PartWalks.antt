-- The cast at one part: each of the code's answers is the definition's. Assumes nothing.
use Prim.Native.Nat.{ℕ, ◌≤◌}
use mathlib.Core.Path.{◌≡◌, sym, ap, subst, ◌∙◌}
use mathlib.Core.Bool.{true, false}
use mathlib.Core.List.{List}
use lib.ListN.{length, take}
use Rattle.vectors.specs.Vector.{finite_vec, sub_of}
use Rattle.geometry.specs.Segment.{segment_end, segment_box}
use Rattle.vectors.specs.declared.vec3.Vec3.{Vec3}
use Rattle.geometry.specs.declared.aabb.Aabb.{Aabb}
use Rattle.geometry.specs.declared.ray.Ray.{Ray}
use Rattle.casts.specs.Answer.{out_of_bounds, overflow, limit_reached}
use Rattle.nearest_hit.specs.Nearest.{Indexed, stopped, nearest_of}
use Rattle.lists.specs.Lists.{sorted, all_below}
use Rattle.tree.specs.Layout.{Tree}
use Rattle.tree.specs.Mesh.{Mesh, thirds, triangle_answer}
use Rattle.tree_walk.specs.Walk.{ended}
use Rattle.tree_walk.specs.Areas.{Grown}
use Rattle.tree_walk.specs.Looking.{ended_look, walk_within}
use Rattle.tree_walk.specs.LookAreas.{looked_by, GrownBy}
use Rattle.tree_walk.specs.declared.within.Limited.{Limited}
use Rattle.tree_walk.specs.declared.within.Limited.TheVariants.{Count, Broken, UsedUp}
use Rattle.mesh.specs.MeshCast.{over_walk}
use Rattle.cabinet.specs.PartCast.{Costed, costing, after_look, cast_within, moved_ray, cast_moved}

module _ (limit : ℕ) (r : Ray) (m : Mesh) (t : Tree) where
  abbrev n : ℕ
  n = thirds (length m.triangles)

  pub within_overflows : finite_vec (segment_end r) ≡ false → costing 0 (stopped overflow) ≡ cast_within limit r m t
  unfolding cast_within
  within_overflows h = simp h

  module _ (f : finite_vec (segment_end r) ≡ true) (box : Aabb) (b : box ≡ segment_box r) (x : Limited) (exit : List ℕ)
      (w : ended_look t n box (looked_by x exit) ≡ walk_within t n box limit) where
    over : after_look r m (walk_within t n box limit) ≡ cast_within limit r m t
    unfolding cast_within
    over = simp (f, sym b)

    walk_is : (y : Limited) → x ≡ y → ended_look t n box (looked_by y exit) ≡ walk_within t n box limit
    walk_is y e = subst (λ (z : Limited). ended_look t n box (looked_by z exit) ≡ walk_within t n box limit) e w

    pub within_broken : (spent : ℕ) → x ≡ Broken spent → costing spent (stopped out_of_bounds) ≡ cast_within limit r m t
    unfolding after_look over_walk ended_look ended
    within_broken spent e = ap (after_look r m) (walk_is (Broken spent) e) ∙ over

    pub within_used : (spent : ℕ) → x ≡ UsedUp spent → costing spent (stopped limit_reached) ≡ cast_within limit r m t
    unfolding after_look ended_look
    within_used spent e = ap (after_look r m) (walk_is (UsedUp spent) e) ∙ over

    pub within_nearest : (found spent : ℕ) (answer : Indexed) → x ≡ Count found spent
        → answer ≡ nearest_of (triangle_answer r m.vertices m.triangles) (sorted (take found exit))
        → costing spent answer ≡ cast_within limit r m t
    unfolding after_look over_walk ended_look ended
    within_nearest found spent answer e a = ap (costing spent) a ∙ ap (after_look r m) (walk_is (Count found spent) e) ∙ over

-- the walk's list is within its area and below the triangle count
pub list_inside : (n found spent : ℕ) (entry exit : List ℕ) (x : Limited) → GrownBy n entry x exit → x ≡ Count found spent
    → (found ≤ length exit) × (all_below n (take found exit) ≡ true)
list_inside n found spent entry exit x g e =
    let g' : Grown n entry exit 0 found = subst (λ (y : Limited). GrownBy n entry y exit) e g in
    (g'.inside, g'.below)

-- ---- the ray moved to the part
module _ (limit : ℕ) (r : Ray) (origin : Vec3) (m : Mesh) (t : Tree) (at : Vec3) (e : at ≡ sub_of r.origin origin) where
  pub moved_overflows : finite_vec at ≡ false → costing 0 (stopped overflow) ≡ cast_moved limit r origin m t
  unfolding cast_moved
  moved_overflows f = simp (rw e at f)

  pub moved_casts : finite_vec at ≡ true → (c : Costed) → c ≡ cast_within limit
      (record { origin = at; direction = r.direction; max_distance = r.max_distance; near = r.near }) m t → c ≡ cast_moved limit
      r origin m t
  unfolding cast_moved moved_ray
  moved_casts f c g = (rw e at g) ∙ simp (rw e at f)
