-- Past refusals 1 to 3 a part's own cast is the mesh cast's answer at the part alone, and a checked tree's walk looks at no more nodes
-- than it has. Assumes nothing.
use Prim.Native.Nat.{ℕ, ◌+◌, ◌≤◌}
use mathlib.Core.Path.{◌≡◌, refl, sym, ap, ◌∙◌}
use mathlib.Core.Bool.{Bool, true, false, cond, true≢false}
use mathlib.Core.List.{List, [], ◌∷◌}
use native.Mathlib.Omega.{arith}
use borrow.Author.Tests.{eq-eqb}
use lib.ListN.{length}
use Rattle.vectors.specs.Vector.{finite_vec, sub_of}
use Rattle.geometry.specs.Segment.{ray_admitted, segment_end, segment_box}
use Rattle.vectors.specs.declared.vec3.Vec3.{Vec3}
use Rattle.geometry.specs.declared.ray.Ray.{Ray}
use Rattle.nearest_hit.specs.Nearest.{Indexed}
use Rattle.tree.specs.Layout.{Tree}
use Rattle.tree.specs.Mesh.{Mesh, thirds, candidates}
use Rattle.lists.proofs.JoinedTests.{and_second}
use Rattle.tree_check.proofs.Answers.{yes_passes}
use Rattle.tree_walk.specs.Looking.{nodes_looked}
use Rattle.tree_walk.proofs.Limits.{walk_looks_few}
use Rattle.mesh.specs.MeshCast.{shape_admitted, room_for, mesh_cast, ray_mesh}
use Rattle.mesh.specs.Demand3.{PassesCheck}
use Rattle.mesh.proofs.WalkLists.{walk_lists_candidates}
use Rattle.cabinet.specs.declared.part.Part.{Part}
use Rattle.cabinet.specs.Found.{Found, Nothing, Hit, Refused, Progress}
use Rattle.cabinet.specs.Parts.{Areas, mesh_of, tree_of_part, ranges_inside, shape_fits, room_fits}
use Rattle.cabinet.specs.PartCast.{moved_ray, need_of, own_cast}
use Rattle.cabinet.specs.Cabinet.{is_refused, found_next, next_part, own_part, own_parts, all_parts}
use Rattle.cabinet.specs.Promises.{alone, nearest_part, nodes_of, AllChecked, none_checked, and_checked}
use Rattle.cabinet.proofs.PartLimits.{moved_admitted}
use Rattle.cabinet.proofs.Limits.{after_refused, after_begun, own_refused}

-- ---- the count of a checked tree
need_few : (r : Ray) (m : Mesh) (t : Tree) → PassesCheck m t → need_of r m t ≤ t.node_count
unfolding need_of
need_few r m t c = go (finite_vec (segment_end r))
  where
    looks : nodes_looked t (thirds (length m.triangles)) (segment_box r) ≤ t.node_count
    looks =
        walk_looks_few t (thirds (length m.triangles)) (segment_box r) (candidates m (segment_box r))
        (walk_lists_candidates m t (segment_box r) (yes_passes m t c.marks c.says_yes))

    go : (b : Bool) → cond b (nodes_looked t (thirds (length m.triangles)) (segment_box r)) 0 ≤ t.node_count
    go true = looks
    go false = omega arith

own_few : (r : Ray) (origin : Vec3) (m : Mesh) (t : Tree) → PassesCheck m t → (own_cast r origin m t).spent ≤ t.node_count
unfolding own_cast
own_few r origin m t c = go (finite_vec (sub_of r.origin origin)) refl
  where
    go : (b : Bool) → finite_vec (sub_of r.origin origin) ≡ b → (own_cast r origin m t).spent ≤ t.node_count
    go true e = simp e (need_few (moved_ray r origin) m t c)
    go false e = simp e (omega arith)

-- ---- the answer of a part that passes
mesh_passes : (r : Ray) (m : Mesh) (t : Tree) (list stack : ℕ) → ray_admitted r ≡ true → shape_admitted m m.vertices t ≡ true
    → room_for m t list stack ≡ true
    → mesh_cast r m m.vertices t ≡ ray_mesh r m m.vertices t list stack
unfolding ray_mesh
mesh_passes r m t list stack h s f = simp (h, s, f, eq-eqb (length m.vertices) (length m.vertices) refl)

module _ (r : Ray) (a : Areas) (list stack : ℕ) (h : ray_admitted r ≡ true) where
  own_alone : (p : Part) → shape_fits a p ≡ true → room_fits a list stack p ≡ true
      → (own_cast r p.origin (mesh_of a p) (tree_of_part a p)).answer ≡ alone r a list stack p
  unfolding shape_fits room_fits alone own_cast
  own_alone p s f = go (finite_vec (sub_of r.origin p.origin)) refl
    where
      inside : Bool
      inside = ranges_inside p (length a.vertices) (length a.triangles) (length a.node_boxes) (length a.triangle_boxes)
          (length a.node_words) (length a.order)

      go : (b : Bool) → finite_vec (sub_of r.origin p.origin) ≡ b
          → (own_cast r p.origin (mesh_of a p) (tree_of_part a p)).answer ≡ alone r a list stack p
      go true e =
          simp e
          (mesh_passes (moved_ray r p.origin) (mesh_of a p) (tree_of_part a p) list stack (moved_admitted r p.origin h e)
          (and_second inside (shape_admitted (mesh_of a p) (mesh_of a p).vertices (tree_of_part a p)) s) f)
      go false e = simp e

-- ---- the fold
nearest_nothing : (answer : Part → Indexed) (s : Progress) → s.found ≡ nearest_part answer s.found s.part []
unfolding nearest_part
nearest_nothing answer s = refl

nearest_refused : (answer : Part → Indexed) (f : Found) (part : ℕ) (ps : List Part) → is_refused f ≡ true → nearest_part answer f part ps
    ≡ f
unfolding nearest_part found_next
nearest_refused answer (Refused number) part [] e = refl
nearest_refused answer (Refused number) part (p ∷ ps) e = nearest_refused answer (Refused number) (next_part part) ps refl
nearest_refused answer Nothing part ps e = absurd (true≢false (sym e))
nearest_refused answer (Hit q i n d) part ps e = absurd (true≢false (sym e))

-- what holds of all parts holds of the first and of the rest
module _ (f : Part → Bool) (p : Part) (ps : List Part) (h : all_parts f (p ∷ ps) ≡ true) where
  pub all_first : f p ≡ true
  unfolding all_parts
  all_first = go (f p) refl
    where
      go : (b : Bool) → f p ≡ b → f p ≡ true
      go true e = e
      go false e = absurd (true≢false (sym h ∙ simp e))

  pub all_rest : all_parts f ps ≡ true
  unfolding all_parts
  all_rest = simp all_first at h

-- the part's own cast on top of what was found before
module _ (r : Ray) (a : Areas) (list stack : ℕ) where
  nearest_begun : (s : Progress) (p : Part) (ps : List Part) → is_refused s.found ≡ false
      → (own_cast r p.origin (mesh_of a p) (tree_of_part a p)).answer ≡ alone r a list stack p
      → nearest_part (alone r a list stack) (own_part r a s p).found (own_part r a s p).part ps ≡ nearest_part (alone r a list stack)
      s.found s.part (p ∷ ps)
  unfolding nearest_part own_part
  nearest_begun s p ps e f =
      let own = own_cast r p.origin (mesh_of a p) (tree_of_part a p) in
      ap (λ (x : Progress). nearest_part (alone r a list stack) x.found x.part ps) (after_begun s own e)
      ∙ ap (λ (x : Indexed). nearest_part (alone r a list stack) (found_next s.found s.part x) (next_part s.part) ps) f

  pub own_nearest : ray_admitted r ≡ true → (s : Progress) (ps : List Part) → all_parts (shape_fits a) ps ≡ true
      → all_parts (room_fits a list stack) ps ≡ true
      → (own_parts r a s ps).found ≡ nearest_part (alone r a list stack) s.found s.part ps
  unfolding own_parts
  own_nearest h s [] v w = nearest_nothing (alone r a list stack) s
  own_nearest h s (p ∷ ps) v w =
      go (is_refused s.found) refl (own_nearest h (own_part r a s p) ps (all_rest (shape_fits a) p ps v)
      (all_rest (room_fits a list stack) p ps w))
    where
      go : (b : Bool) → is_refused s.found ≡ b
          → (own_parts r a (own_part r a s p) ps).found ≡ nearest_part (alone r a list stack) (own_part r a s p).found
          (own_part r a s p).part ps
          → (own_parts r a (own_part r a s p) ps).found ≡ nearest_part (alone r a list stack) s.found s.part (p ∷ ps)
      go true e ih =
          ap (λ (x : Progress). x.found) (own_refused r a s (p ∷ ps) e) ∙ sym (nearest_refused (alone r a list stack) s.found
          s.part (p ∷ ps) e)
      go false e ih =
          ih ∙ nearest_begun s p ps e (own_alone r a list stack h p (all_first (shape_fits a) p ps v)
          (all_first (room_fits a list stack) p ps w))

  part_few : (s : Progress) (p : Part) → PassesCheck (mesh_of a p) (tree_of_part a p) → (own_part r a s p).spent ≤ s.spent + p.nodes
  unfolding own_part
  part_few s p c = go (is_refused s.found) refl (own_few r p.origin (mesh_of a p) (tree_of_part a p) c)
    where
      go : (b : Bool) → is_refused s.found ≡ b → (own_cast r p.origin (mesh_of a p) (tree_of_part a p)).spent ≤ p.nodes
          → (own_part r a s p).spent ≤ s.spent + p.nodes
      go true e k = rw (after_refused s (own_cast r p.origin (mesh_of a p) (tree_of_part a p)) e) (omega arith)
      go false e k = rw (after_begun s (own_cast r p.origin (mesh_of a p) (tree_of_part a p)) e) (omega arith)

  pub own_parts_few : (s : Progress) (ps : List Part) → AllChecked a ps → (own_parts r a s ps).spent ≤ s.spent + nodes_of ps
  unfolding own_parts nodes_of
  own_parts_few s [] none_checked = omega arith
  own_parts_few s (p ∷ ps) (and_checked _ _ c cs) = omega (arith, part_few s p c, own_parts_few (own_part r a s p) ps cs)
