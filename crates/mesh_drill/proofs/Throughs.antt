-- The drill through a tree: each refusal, and what the walk listed. Assumes nothing.
use Rattle.std.specs.Prelude.{Option, Some, None}
use Rattle.std.proofs.Common.{◌≡◌, ℕ, ◌*◌, Bool, true, false, cond, ◌&&◌, leb, List, [], length, take, sym, ap, ◌∙◌, eq-eqb, ne_eqb}
use lib.Ieee.{Float}
use Rattle.lists.proofs.JoinedTests.{and_first}
use Rattle.lists.proofs.RefusalLaws as Refusals
use Rattle.geometry.specs.Segment.{ray_admitted}
use Rattle.geometry.specs.declared.aabb.Aabb.{Aabb}
use Rattle.geometry.specs.declared.ray.Ray.{Ray}
use Rattle.casts.specs.Answer.{invalid_input, bad_shape, no_room, out_of_bounds, out_of_range}
use Rattle.tree.specs.Layout.{Tree, box_at}
use Rattle.tree.specs.Mesh.{Mesh, thirds, triangle_count, lengths_admitted}
use Rattle.tree_walk.specs.Walk.{walk_of}
use Rattle.tree_walk.specs.Areas.{listed}
use Rattle.tree_query.specs.Query.{walk_fits}
use Rattle.mesh.specs.MeshCast.{shape_admitted}
use Rattle.exact_triangle.specs.Line.{Line}
use Rattle.exact_triangle.specs.Grid.{within, all_within, furthest, grid_admitted, grid_line}
use Rattle.tree_exact.specs.Opening.{box_read}
use Rattle.drill.specs.Box.{drill_box}
use Rattle.mesh_drill.specs.MeshDrill.{DrillAnswer, Stopped}
use Rattle.mesh_drill.specs.Radius.{widestᶠ, radius_admitted, radius_on}
use Rattle.mesh_drill.specs.Drilling.{over_mesh, DrillAdmitted}
use Rattle.mesh_drill.specs.Through.{drilled_at, first_answer, over_walk, walked_by, root_read, over_tree, through_tests, tests_pass}
use Rattle.mesh_drill.specs.Through.{drill_through}

-- ---- the first node's box
module _ (nodes : ℕ) (t : Tree) (c : t.node_count ≡ nodes) where
  pub no_root : nodes ≡ 0 → true ≡ root_read t
  unfolding root_read
  no_root e = sym (ap (λ (b : Bool). cond b true (box_read (box_at t.node_boxes 0))) (eq-eqb t.node_count 0 (c ∙ e)))

  module _ (some : nodes ≡ 0 → ⊥) where
    root_box_lem : box_read (box_at t.node_boxes 0) ≡ root_read t
    unfolding root_read
    root_box_lem =
        sym (ap (λ (b : Bool). cond b true (box_read (box_at t.node_boxes 0)))
        (ne_eqb t.node_count 0 (λ e. some (sym c ∙ e))))

    module _ (box : Aabb) (b : box ≡ box_at t.node_boxes 0) where
      is_box : box_read box ≡ root_read t
      is_box = ap (λ (x : Aabb). box_read x) b ∙ root_box_lem

      pub low_out : all_within furthest box.min ≡ false → false ≡ root_read t
      low_out h = sym (ap (λ (x : Bool). x && all_within furthest box.max) h) ∙ is_box

      pub low_in : all_within furthest box.min ≡ true → (x : Bool) → x ≡ all_within furthest box.max → x ≡ root_read t
      low_in h x e = e ∙ sym (ap (λ (y : Bool). y && all_within furthest box.max) h) ∙ is_box

-- ---- what was walked
module _ (r : Ray) (radius : Float) (m : Mesh) (t : Tree) where
  pub root_out : root_read t ≡ false → (d : DrillAnswer) → d ≡ over_mesh r radius m → d ≡ over_tree r radius m t
  unfolding over_tree
  root_out h d e = e ∙ sym (ap (λ (b : Bool). cond b (walked_by (grid_line r) (radius_on radius) m t) (over_mesh r radius m)) h)

  pub root_in : root_read t ≡ true → (d : DrillAnswer) → d ≡ walked_by (grid_line r) (radius_on radius) m t → d ≡ over_tree r radius m t
  unfolding over_tree
  root_in h d e = e ∙ sym (ap (λ (b : Bool). cond b (walked_by (grid_line r) (radius_on radius) m t) (over_mesh r radius m)) h)

module _ (l : Line) (ρ : ℕ) (m : Mesh) (t : Tree) (box : Aabb) (b : box ≡ drill_box l ρ) (x : Option ℕ) (exit : List ℕ)
    (w : listed [] x exit ≡ walk_of t (triangle_count m) box) where
  walked : over_walk l ρ m (listed [] x exit) ≡ walked_by l ρ m t
  walked = ap (over_walk l ρ m) (w ∙ ap (walk_of t (triangle_count m)) b)

  pub walk_broken : x ≡ None → Stopped out_of_bounds ≡ walked_by l ρ m t
  unfolding over_walk
  walk_broken e = sym (ap (λ (y : Option ℕ). over_walk l ρ m (listed [] y exit)) e) ∙ walked

  pub walk_listed : (k : ℕ) → x ≡ Some k → (d : DrillAnswer) → d ≡ first_answer (drilled_at l ρ m) (take k exit) → d ≡ walked_by l ρ m t
  unfolding over_walk
  walk_listed k e d f = f ∙ sym (ap (λ (y : Option ℕ). over_walk l ρ m (listed [] y exit)) e) ∙ walked

-- ---- refusals, in their order
module _ (r : Ray) (radius : Float) (m : Mesh) (t : Tree) (list stack : ℕ) where
  abbrev whole : DrillAnswer
  whole = drill_through r radius m t list stack

  abbrev admitted : Bool
  admitted =
      lengths_admitted (length m.vertices) (length m.triangles)
      && (lengths_admitted (length m.vertices) (length m.triangles) && leb t.node_count (2 * thirds (length m.triangles)))

  pub ray_invalid : ray_admitted r ≡ false → Stopped invalid_input ≡ whole
  unfolding drill_through
  ray_invalid a = simp a

  pub radius_invalid : ray_admitted r ≡ true → radius_admitted radius ≡ false → Stopped invalid_input ≡ whole
  unfolding drill_through
  radius_invalid a b = simp (a, b)

  pub ray_out : ray_admitted r ≡ true → radius_admitted radius ≡ true → grid_admitted r ≡ false → Stopped out_of_range ≡ whole
  unfolding drill_through
  ray_out a b c = simp (a, b, c)

  pub radius_out : ray_admitted r ≡ true → radius_admitted radius ≡ true → grid_admitted r ≡ true → within widestᶠ radius ≡ false
      → Stopped out_of_range ≡ whole
  unfolding drill_through
  radius_out a b c d = simp (a, b, c, d)

  module _ (a : DrillAdmitted r radius) where
    pub shape_bad : admitted ≡ false → Stopped bad_shape ≡ whole
    unfolding drill_through shape_admitted
    shape_bad e = simp (a.ray, a.size, a.read, a.widest, e)

    module _ (s : admitted ≡ true) where
      pub own_lengths : lengths_admitted (length m.vertices) (length m.triangles) ≡ true
      own_lengths = and_first _ _ s

      pub room_short : walk_fits (triangle_count m) t list stack ≡ false → Stopped no_room ≡ whole
      unfolding drill_through shape_admitted
      room_short f = simp (a.ray, a.size, a.read, a.widest, s, f)

      module _ (f : walk_fits (triangle_count m) t list stack ≡ true) where
        pub passed : (d : DrillAnswer) → d ≡ over_tree r radius m t → d ≡ whole
        unfolding drill_through shape_admitted
        passed d e = e ∙ simp (a.ray, a.size, a.read, a.widest, s, f)

        pub tests_passed : tests_pass r radius m t list stack ≡ false → ⊥
        unfolding tests_pass shape_admitted
        tests_passed =
            Refusals.tests_passed (through_tests r radius m t list stack)
            (a.ray, (a.size, (a.read, (a.widest, (s, f)))))
