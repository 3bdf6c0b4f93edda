-- The answers of the drill without a tree, and what is certain of them. Assumes nothing.
use Rattle.std.proofs.Common.{◌≡◌, ℕ, Bool, true, false, length, sym, refl, ap, ◌∙◌, subst, true≢false}
use lib.Ieee.{Float}
use Rattle.lists.specs.Lists.{range}
use Rattle.geometry.specs.Segment.{ray_admitted}
use Rattle.geometry.specs.declared.ray.Ray.{Ray}
use Rattle.casts.specs.Answer.{invalid_input, bad_shape, out_of_bounds, out_of_range}
use Rattle.tree.specs.Mesh.{Mesh, triangle_count, lengths_admitted, triangles_fit}
use Rattle.exact_triangle.specs.Grid.{within, grid_admitted, grid_line}
use Rattle.exact_triangle.proofs.Moving.{ray_moves}
use Rattle.mesh_exact.proofs.Refusals.{ray_out as ray-beyond}
use Rattle.mesh_drill.specs.MeshDrill.{DrillAnswer, Clear, Touches, Stopped, touched_at, drill_all, drill_boxed, mesh_read}
use Rattle.mesh_drill.proofs.FirstOf.{never_stopped}
use Rattle.mesh_drill.proofs.MeshCertainty.{mesh_certain, ray_drill_boxed, ray_ends, in_range_lem, unread}
use Rattle.mesh_drill.specs.Code.{Runs}
use Rattle.mesh_drill.specs.Radius.{widestᶠ, radius_admitted, radius_on}
use Rattle.mesh_drill.specs.Drilling.{over_mesh, drill_plain, Reason, ray, size, beyond, wide, lengths, triangles, CertainRayDrill}
use Rattle.mesh_drill.specs.Drilling.{DrillAdmitted}
use Rattle.mesh_drill.proofs.Radii.{radius_small}

abbrev is_stopped : DrillAnswer → Bool
is_stopped Clear = false
is_stopped (Touches i) = false
is_stopped (Stopped n) = true

module _ (r : Ray) (radius : Float) (m : Mesh) where
  -- ---- the pass over those whose boxes touch gives the answer
  pub boxed_answers : DrillAdmitted r radius → mesh_read m ≡ true → (d : DrillAnswer) → d ≡ drill_boxed (grid_line r) (radius_on radius) m
      → d ≡ drill_all (grid_line r) (radius_on radius) m
  boxed_answers a h d e = e ∙ ray_drill_boxed r m (radius_on radius) a.ray a.read h (radius_small radius a.widest)

  -- ---- over all triangles
  pub over_unfit : triangles_fit m ≡ false → Stopped out_of_bounds ≡ over_mesh r radius m
  unfolding over_mesh
  over_unfit f = simp f

  pub over_unread : triangles_fit m ≡ true → mesh_read m ≡ false → Stopped out_of_range ≡ over_mesh r radius m
  unfolding over_mesh
  over_unread f g = simp (f, g)

  pub over_passed : triangles_fit m ≡ true → mesh_read m ≡ true → (d : DrillAnswer) → d ≡ drill_all (grid_line r) (radius_on radius) m
      → d ≡ over_mesh r radius m
  unfolding over_mesh
  over_passed f g d e = simp (f, g, e)

  -- ---- the call's
  pub ray_invalid : ray_admitted r ≡ false → Stopped invalid_input ≡ drill_plain r radius m
  unfolding drill_plain
  ray_invalid a = simp a

  pub radius_invalid : ray_admitted r ≡ true → radius_admitted radius ≡ false → Stopped invalid_input ≡ drill_plain r radius m
  unfolding drill_plain
  radius_invalid a b = simp (a, b)

  pub ray_out : ray_admitted r ≡ true → radius_admitted radius ≡ true → grid_admitted r ≡ false → Stopped out_of_range
      ≡ drill_plain r radius m
  unfolding drill_plain
  ray_out a b c = simp (a, b, c)

  pub radius_out : ray_admitted r ≡ true → radius_admitted radius ≡ true → grid_admitted r ≡ true → within widestᶠ radius ≡ false
      → Stopped out_of_range ≡ drill_plain r radius m
  unfolding drill_plain
  radius_out a b c d = simp (a, b, c, d)

  pub lengths_bad : DrillAdmitted r radius → lengths_admitted (length m.vertices) (length m.triangles) ≡ false
      → Stopped bad_shape ≡ drill_plain r radius m
  unfolding drill_plain
  lengths_bad a e = simp (a.ray, a.size, a.read, a.widest, e)

  pub drill_passed : DrillAdmitted r radius → lengths_admitted (length m.vertices) (length m.triangles) ≡ true
      → (d : DrillAnswer) → d ≡ over_mesh r radius m → d ≡ drill_plain r radius m
  unfolding drill_plain
  drill_passed a e d f = simp (a.ray, a.size, a.read, a.widest, e, f)

  -- ---- what is certain
  index_of : DrillAnswer → ℕ
  index_of Clear = 0
  index_of (Touches i) = i
  index_of (Stopped n) = n

  stopped_sure : (n : ℕ) → Reason r radius m n → CertainRayDrill r radius m (Stopped n)
  unfolding index_of
  stopped_sure n why = record {
    within = λ runs. absurd (runs n refl);
    certain = record {
      clear = λ e. absurd (true≢false (ap is_stopped e));
      touches = λ i e. absurd (true≢false (ap is_stopped e));
      lowest = λ i j e. absurd (true≢false (ap is_stopped e));
    };
    refused = λ k e. subst (Reason r radius m) (ap index_of e) why;
  }

  answered : DrillAdmitted r radius → mesh_read m ≡ true → CertainRayDrill r radius m (drill_all (grid_line r) (radius_on radius) m)
  unfolding drill_all
  answered a h = record {
    within = λ runs. in_range_lem r m a.read h;
    certain = mesh_certain (grid_line r) (radius_on radius) m (ray_moves r a.ray) (ray_ends r a.ray);
    refused = λ number e. absurd (never_stopped (touched_at (grid_line r) (radius_on radius) m) (range 0 (triangle_count m)) number e);
  }

  -- past the tests of the ray, the radius and the lengths
  over_sure : DrillAdmitted r radius → CertainRayDrill r radius m (over_mesh r radius m)
  over_sure a = go (triangles_fit m) (mesh_read m) refl refl
    where
      go : (f g : Bool) → triangles_fit m ≡ f → mesh_read m ≡ g → CertainRayDrill r radius m (over_mesh r radius m)
      go false g e h = subst (CertainRayDrill r radius m) (over_unfit e) (stopped_sure out_of_bounds (triangles refl e))
      go true false e h = subst (CertainRayDrill r radius m) (over_unread e h) (stopped_sure out_of_range (beyond refl (unread r m h)))
      go true true e h =
          subst (CertainRayDrill r radius m) (over_passed e h (drill_all (grid_line r) (radius_on radius) m) refl) (answered a h)

  pub drill_sure : CertainRayDrill r radius m (drill_plain r radius m)
  drill_sure =
      go (ray_admitted r) (radius_admitted radius) (grid_admitted r) (within widestᶠ radius)
      (lengths_admitted (length m.vertices) (length m.triangles)) refl refl refl refl refl
    where
      go : (p z q s u : Bool) → ray_admitted r ≡ p → radius_admitted radius ≡ z → grid_admitted r ≡ q → within widestᶠ radius ≡ s
          → lengths_admitted (length m.vertices) (length m.triangles) ≡ u → CertainRayDrill r radius m (drill_plain r radius m)
      go false z q s u a b c d e = subst (CertainRayDrill r radius m) (ray_invalid a) (stopped_sure invalid_input (ray refl a))
      go true false q s u a b c d e = subst (CertainRayDrill r radius m) (radius_invalid a b) (stopped_sure invalid_input (size refl b))
      go true true false s u a b c d e =
          subst (CertainRayDrill r radius m) (ray_out a b c) (stopped_sure out_of_range (beyond refl (ray-beyond r m a c)))
      go true true true false u a b c d e = subst (CertainRayDrill r radius m) (radius_out a b c d)
          (stopped_sure out_of_range (wide refl d))
      go true true true true false a b c d e =
          subst (CertainRayDrill r radius m) (lengths_bad (record { ray = a; size = b; read = c; widest = d }) e)
          (stopped_sure bad_shape (lengths refl e))
      go true true true true true a b c d e =
          let k : DrillAdmitted r radius = record { ray = a; size = b; read = c; widest = d } in
          subst (CertainRayDrill r radius m) (drill_passed k e (over_mesh r radius m) refl) (over_sure k)

  pub answer_certain : (d : DrillAnswer) → d ≡ drill_plain r radius m → (d ≡ drill_plain r radius m) × CertainRayDrill r radius m d
  answer_certain d e = (e, subst (CertainRayDrill r radius m) (sym e) drill_sure)

-- ---- the line of an admitted ray
pub runs : (r : Ray) (radius : Float) → DrillAdmitted r radius → Runs (grid_line r)
runs r radius a = record { moves = ray_moves r a.ray; ends = ray_ends r a.ray }
