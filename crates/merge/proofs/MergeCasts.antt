-- A cast on a merged board is the two boards' casts glued:
-- all three agree with the cast without a tree, whose candidates are those of the first mesh and then those of the second moved up.
-- Assumes nothing.
use Prim.Native.Nat.{ℕ, ◌+◌, ◌*◌, ◌<◌}
use mathlib.Core.Path.{◌≡◌, refl, sym, ap, ◌∙◌, subst}
use mathlib.Core.Bool.{Bool, true, false, cond}
use mathlib.Core.List.{List, ◌++◌}
use native.Mathlib.Omega.{arith}
use lib.ListN.{length}
use Rattle.vectors.specs.Vector.{finite_vec}
use Rattle.geometry.specs.Box.{valid_box, touches}
use Rattle.geometry.specs.Segment.{ray_admitted, segment_end, segment_box}
use Rattle.geometry.specs.declared.aabb.Aabb.{Aabb}
use Rattle.geometry.specs.declared.ray.Ray.{Ray}
use Rattle.casts.specs.Answer.{Answer, invalid_input, out_of_bounds, overflow}
use Rattle.nearest_hit.specs.Nearest.{Indexed, stopped, nearest_of}
use Rattle.lists.proofs.Members.{Each}
use Rattle.casts.proofs.AnswerLists.{HitSuch, IsNumber}
use Rattle.lists.specs.Lists.{range, keep, count}
use Rattle.tree.specs.Mesh.{Mesh, lengths_admitted, triangle_box, triangle_answer, candidates}
use Rattle.lists.proofs.CountLaws.{keep_alike, range_bounds, keep_append}
use Rattle.tree.proofs.Corners.{answers_measured}
use Rattle.mesh.specs.MeshCast.{ray_mesh}
use Rattle.mesh.specs.Demand3.{PassesCheck}
use Rattle.mesh.proofs.Demand3.{listed_candidate}
use Rattle.mesh_plain.specs.PlainCast.{triangles_fit, over_triangles, plain_cast, ray_mesh_plain}
use Rattle.mesh_plain.proofs.Agreement.{yes_lengths, triangles_fit_lem, agrees_with_trees}
use Rattle.tree_copy.specs.Moved.{moved_up}
use Rattle.merge.specs.Glue.{glue}
use Rattle.merge.specs.Merge.{Board, Areas, triangles_in, total}
use Rattle.merge.specs.Promises.{Lent, Suffice, MergedCastsGlue}
use Rattle.tree_copy.proofs.MovedLists.{range_split, keep_moved}
use Rattle.merge.proofs.GluedMesh.{glued_triangles, box_first, box_second, answer_first, answer_second}
use Rattle.merge.proofs.CheckedClauses.{checked_passes}
use Rattle.merge.proofs.MergedTree.{glued, Sound, merged_checked}
use Rattle.merge.proofs.MergePasses.{Merged, merged_of, shape, first_sound, second_sound, first_fits, second_fits, first_passes}
use Rattle.merge.proofs.MergePasses.{second_passes, board_passes, glued_lengths, result, mesh_is, merged_passes, result_is}
use Rattle.merge.proofs.GluedFolds.{nearest_glued}

module _ (a b : Board) (s : Sound a) (u : Sound b) where
  abbrev near : Mesh → Aabb → ℕ → Bool
  near m box i = touches (triangle_box m.vertices m.triangles i) box

  -- ---- the candidates of the glued mesh
  near_first : (box : Aabb) (i : ℕ) → i < triangles_in a → near (glued a b) box i ≡ near a.mesh box i
  near_first box i below =
      ap (λ (z : Aabb). touches z box)
      (box_first a.mesh.vertices b.mesh.vertices a.mesh.triangles b.mesh.triangles s.whole.vertices
      s.whole.triangles i below (s.checked.corners i below))

  near_second : (box : Aabb) (i : ℕ) → i < triangles_in b → near (glued a b) box (i + triangles_in a) ≡ near b.mesh box i
  near_second box i below =
      ap (λ (z : Aabb). touches z box)
      (box_second a.mesh.vertices b.mesh.vertices a.mesh.triangles b.mesh.triangles s.whole.vertices
      s.whole.triangles i below)

  pub candidates_glued : (box : Aabb)
      → candidates (glued a b) box ≡ candidates a.mesh box ++ moved_up (triangles_in a) (candidates b.mesh box)
  unfolding candidates
  candidates_glued box =
      ap (λ (k : ℕ). keep (near (glued a b) box) (range 0 k))
      (glued_triangles a.mesh.vertices b.mesh.vertices a.mesh.triangles b.mesh.triangles s.whole.vertices
      s.whole.triangles u.whole.triangles)
      ∙ ap (keep (near (glued a b) box)) (range_split 0 (triangles_in a) (triangles_in b))
      ∙ keep_append (near (glued a b) box) (range 0 (triangles_in a)) (range (0 + triangles_in a) (triangles_in b))
      ∙ ap (λ (l : List ℕ). l ++ keep (near (glued a b) box) (range (0 + triangles_in a) (triangles_in b)))
      (keep_alike (near (glued a b) box) (near a.mesh box) (range 0 (triangles_in a))
      (λ i h. near_first box i (omega (arith, range_bounds i 0 (triangles_in a) h))))
      ∙ ap (λ (l : List ℕ). keep (near a.mesh box) (range 0 (triangles_in a)) ++ l)
      (keep_moved (near (glued a b) box) (near b.mesh box) (triangles_in a) 0 (triangles_in b) (λ i p q. near_second box i (omega arith)))

  -- ---- their answers
  module _ (r : Ray) where
    abbrev listed₁ : List ℕ
    listed₁ = candidates a.mesh (segment_box r)

    abbrev listed₂ : List ℕ
    listed₂ = candidates b.mesh (segment_box r)

    abbrev answer : Mesh → ℕ → Answer
    answer m = triangle_answer r m.vertices m.triangles

    answers_first : Each (λ (x : ℕ). answer (glued a b) x ≡ answer a.mesh x) listed₁
    answers_first x h =
        let c = listed_candidate r a.mesh x h in
        answer_first a.mesh.vertices b.mesh.vertices a.mesh.triangles b.mesh.triangles s.whole.vertices
        s.whole.triangles x c.triangle (s.checked.corners x c.triangle) r

    answers_second : Each (λ (x : ℕ). answer (glued a b) (x + triangles_in a) ≡ answer b.mesh x) listed₂
    answers_second x h =
        let c = listed_candidate r b.mesh x h in
        answer_second a.mesh.vertices b.mesh.vertices a.mesh.triangles b.mesh.triangles s.whole.vertices
        s.whole.triangles x c.triangle (u.checked.corners x c.triangle) r

    -- a hit's distance is a number
    second_numbers : Each (HitSuch IsNumber (answer b.mesh)) listed₂
    second_numbers x h n d e = (answers_measured r b.mesh.vertices b.mesh.triangles x n d e).number

    folds_glued : nearest_of (answer (glued a b)) (candidates (glued a b) (segment_box r))
        ≡ glue (triangles_in a) (nearest_of (answer a.mesh) listed₁) (nearest_of (answer b.mesh) listed₂)
    folds_glued =
        ap (nearest_of (answer (glued a b))) (candidates_glued (segment_box r))
        ∙ nearest_glued (triangles_in a) (answer (glued a b)) (answer a.mesh) (answer b.mesh) listed₁ listed₂ answers_first
        answers_second second_numbers

-- ---- the casts without a tree
abbrev chosen : Bool → Bool → Bool → Indexed → Indexed
chosen admitted finite valid y = cond admitted (cond finite (cond valid y (stopped out_of_bounds)) (stopped overflow))
    (stopped invalid_input)

chosen_glued : (n : ℕ) (p q v : Bool) (x x₁ x₂ : Indexed) → x ≡ glue n x₁ x₂
    → chosen p q v x ≡ glue n (chosen p q v x₁) (chosen p q v x₂)
unfolding glue
chosen_glued n true true true x x₁ x₂ h = h
chosen_glued n true true false x x₁ x₂ h = refl
chosen_glued n true false v x x₁ x₂ h = refl
chosen_glued n false q v x x₁ x₂ h = refl

abbrev chain : Ray → Indexed → Indexed
chain r = chosen (ray_admitted r) (finite_vec (segment_end r)) (valid_box (segment_box r))

plain_is : (r : Ray) (m : Mesh) → lengths_admitted (length m.vertices) (length m.triangles) ≡ true → triangles_fit m ≡ true
    → ray_mesh_plain r m ≡ chain r (nearest_of (triangle_answer r m.vertices m.triangles) (candidates m (segment_box r)))
unfolding ray_mesh_plain plain_cast over_triangles
plain_is r m l f = rw (l, f)

-- ---- the law
module _ (a b : Board) (old : Areas) (work count : ℕ) (g : Merged a b old work count) where
  s : Sound a
  s = first_sound a b old work count g

  u : Sound b
  u = second_sound a b old work count g

  first_check : PassesCheck a.mesh a.tree
  first_check =
      let d = shape a b old work count g in
      record {
        marks = 3 * triangles_in a;
        says_yes =
            board_passes a (3 * triangles_in a) d.first (omega (arith, d.few_vertices)) (omega (arith, d.few_triangles))
            (first_fits a b old work count g) (first_passes a b old work count g) (omega arith);
      }

  second_check : PassesCheck b.mesh b.tree
  second_check =
      let d = shape a b old work count g in
      record {
        marks = 3 * triangles_in b;
        says_yes =
            board_passes b (3 * triangles_in b) d.second (omega (arith, d.few_vertices)) (omega (arith, d.few_triangles))
            (second_fits a b old work count g) (second_passes a b old work count g) (omega arith);
      }

  abbrev c : Board
  c = result a b old work count g

  merged_check : PassesCheck c.mesh c.tree
  merged_check = record { marks = 3 * total a b; says_yes = merged_passes a b old work count g (3 * total a b) (omega arith) }

  plain_glued : (r : Ray) → ray_mesh_plain r (glued a b) ≡ glue (triangles_in a) (ray_mesh_plain r a.mesh) (ray_mesh_plain r b.mesh)
  plain_glued r =
      let t = c.tree in
      let fit = triangles_fit_lem (glued a b) t (checked_passes (glued a b) t (merged_checked a b old s u)) in
      let fit₁ = triangles_fit_lem a.mesh a.tree (first_passes a b old work count g) in
      let fit₂ = triangles_fit_lem b.mesh b.tree (second_passes a b old work count g) in
      let lengths₁ = yes_lengths a.mesh a.tree first_check.marks first_check.says_yes in
      let lengths₂ = yes_lengths b.mesh b.tree second_check.marks second_check.says_yes in
      let near₁ = nearest_of (triangle_answer r a.mesh.vertices a.mesh.triangles) (candidates a.mesh (segment_box r)) in
      let near₂ = nearest_of (triangle_answer r b.mesh.vertices b.mesh.triangles) (candidates b.mesh (segment_box r)) in
      plain_is r (glued a b) (glued_lengths a b old work count g) fit
      ∙ chosen_glued (triangles_in a) (ray_admitted r) (finite_vec (segment_end r)) (valid_box (segment_box r)) _ near₁ near₂
      (folds_glued a b s u r)
      ∙ ap (λ (z : Indexed). glue (triangles_in a) z (chain r near₂)) (sym (plain_is r a.mesh lengths₁ fit₁))
      ∙ ap (glue (triangles_in a) (ray_mesh_plain r a.mesh)) (sym (plain_is r b.mesh lengths₂ fit₂))

  casts_glued : (r : Ray) (l l₁ l₂ : Lent) → Suffice c l → Suffice a l₁ → Suffice b l₂
      → ray_mesh r c.mesh c.mesh.vertices c.tree l.list l.stack
      ≡ glue (triangles_in a) (ray_mesh r a.mesh a.mesh.vertices a.tree l₁.list l₁.stack)
      (ray_mesh r b.mesh b.mesh.vertices b.tree l₂.list l₂.stack)
  casts_glued r l l₁ l₂ room room₁ room₂ =
      agrees_with_trees r c.mesh c.tree l.list l.stack merged_check room
      ∙ ap (ray_mesh_plain r) (mesh_is a b old work count g)
      ∙ plain_glued r
      ∙ ap (λ (z : Indexed). glue (triangles_in a) z (ray_mesh_plain r b.mesh))
      (sym (agrees_with_trees r a.mesh a.tree l₁.list l₁.stack first_check room₁))
      ∙ ap (glue (triangles_in a) (ray_mesh r a.mesh a.mesh.vertices a.tree l₁.list l₁.stack))
      (sym (agrees_with_trees r b.mesh b.tree l₂.list l₂.stack second_check room₂))

pub merged_casts_glue : MergedCastsGlue
merged_casts_glue a b old work count h r l l₁ l₂ room room₁ room₂ =
    let g = merged_of a b old work count h in
    let e = result_is a b old work count g in
    ap (λ (c : Board). ray_mesh r c.mesh c.mesh.vertices c.tree l.list l.stack) e
    ∙ casts_glued a b old work count g r l l₁ l₂ (subst (λ (c : Board). Suffice c l) e room) room₁ room₂
