-- Demand 3 holds: the mesh cast through a checked tree is the fold of triangle answers over the candidates, and that fold has the
-- properties that the demand names. Assumes nothing.
use Prim.Native.Nat.{ℕ, ◌*◌, ◌≤◌, ◌<◌}
use mathlib.Core.Path.{◌≡◌, refl, sym, ap, ◌∙◌}
use mathlib.Core.Logic.{◌⊎◌, inl, inr}
use mathlib.Core.Bool.{Bool, true, false, cond}
use mathlib.Core.List.{List, Memᴰ}
use native.Mathlib.Omega.{arith}
use lib.Ieee.{Float}
use lib.ListN.{length}
use borrow.Author.Tests.{le-leb, eq-eqb}
use Rattle.geometry.specs.Box.{touches}
use Rattle.geometry.specs.Segment.{segment_box}
use Rattle.vectors.specs.declared.vec3.Vec3.{Vec3}
use Rattle.geometry.specs.declared.ray.Ray.{Ray}
use Rattle.geometry.proofs.BoxLaws.{segment_box_valid}
use Rattle.casts.specs.Answer.{Answer}
use Rattle.triangle_cast.specs.Triangle.{ray_triangle}
use Rattle.nearest_hit.specs.Nearest.{Indexed, hit_at, no_hit, stopped, nearest_of}
use Rattle.lists.proofs.Members.{Ascending}
use Rattle.nearest_hit.proofs.NearestRefusals.{refusal_stops, none_of_nones, nones_of_none}
use Rattle.nearest_hit.proofs.NearestLaws.{LowestRefusal, LowestNearest, stopped_by_lowest_refusal, hit_of_lowest_nearest}
use Rattle.lists.specs.Lists.{range, count}
use Rattle.tree.specs.Layout.{Tree}
use Rattle.tree.specs.Mesh.{Mesh, thirds, corners_inside, triangle_box, triangle_answer, candidates}
use Rattle.tree.proofs.Corners.{corners_answer, answers_are_numbers}
use Rattle.lists.proofs.CountLaws.{count_of_member, member_of_count, count_keep, range_bounds, count_range_inside}
use Rattle.lists.proofs.SortLaws.{range_ascends, keep_ascends}
use Rattle.tree_check.specs.Check.{triangle_count, tree_passes}
use Rattle.tree_check.proofs.Answers.{yes_passes}
use Rattle.mesh.specs.MeshCast.{shape_admitted, over_walk, mesh_cast, ray_mesh}
use Rattle.mesh.specs.Demand3.{Admitted, Candidate, answer_of, Refuses, IsHit, LowestRefuses, NearestHit, MeetsDemand, Demand3}
use Rattle.mesh.proofs.CheckedTree.{Checked, checked_or_empty}
use Rattle.mesh.proofs.WalkLists.{walk_lists_candidates}

-- ---- the candidates as a list
module _ (r : Ray) (m : Mesh) where
  abbrev near : ℕ → Bool
  near i = touches (triangle_box m.vertices m.triangles i) (segment_box r)

  abbrev listed : List ℕ
  listed = candidates m (segment_box r)

  pub candidates_count : (i : ℕ) (b : Bool) → near i ≡ b → count i listed ≡ cond b (count i (range 0 (thirds (length m.triangles)))) 0
  unfolding candidates
  candidates_count i b e = count_keep near i (range 0 (thirds (length m.triangles))) ∙ ap
      (λ (b : Bool). cond b (count i (range 0 (thirds (length m.triangles)))) 0) e

  pub candidate_listed : (i : ℕ) → Candidate r m i → Memᴰ i listed
  candidate_listed i c =
      member_of_count i listed
      (omega (
        arith,
        candidates_count i true c.near,
        count_range_inside i 0 (thirds (length m.triangles)) (omega arith)
            (omega (arith, c.triangle)),
      ))

  pub listed_candidate : (i : ℕ) → Memᴰ i listed → Candidate r m i
  listed_candidate i h = go (near i) refl
    where
      go : (b : Bool) → near i ≡ b → Candidate r m i
      go true e = record {
        triangle = omega (
          arith,
          range_bounds i 0 (thirds (length m.triangles)) (omega (
            arith,
            count_of_member i listed h,
            candidates_count i true e,
          )),
        );
        near = e;
      }
      go false e = absurd (omega (arith, count_of_member i listed h, candidates_count i false e))

  candidates_ascend : Ascending listed
  unfolding candidates
  candidates_ascend = keep_ascends near (range 0 (thirds (length m.triangles))) (range_ascends 0 (thirds (length m.triangles)))

-- ---- what a passed check gives the cast
few_nodes : (m : Mesh) (t : Tree) → tree_passes m t ≡ true → t.node_count ≤ 2 * triangle_count m t
few_nodes m t h = go (checked_or_empty m t h)
  where
    go : Checked m t ⊎ ((t.node_count ≡ 0) × (triangle_count m t ≡ 0)) → t.node_count ≤ 2 * triangle_count m t
    go (inl c) = c.few
    go (inr e) = omega arith

corners_inside_lem : (m : Mesh) (t : Tree) → tree_passes m t ≡ true → (i : ℕ) → i < triangle_count m t → corners_inside
    (thirds (length m.vertices)) m.triangles i ≡ true
corners_inside_lem m t h i below = go (checked_or_empty m t h)
  where
    go : Checked m t ⊎ ((t.node_count ≡ 0) × (triangle_count m t ≡ 0)) → corners_inside (thirds (length m.vertices)) m.triangles i ≡
        true
    go (inl c) = c.corners i below
    go (inr e) = absurd (omega arith)

module _ (r : Ray) (m : Mesh) (t : Tree) (list stack : ℕ) (a : Admitted r m t list stack) where
  pub passes : tree_passes m t ≡ true
  passes = yes_passes m t a.tree.marks a.tree.says_yes

  -- ---- the cast is the fold over the candidates
  abbrev folded_answer : ℕ → Answer
  folded_answer = triangle_answer r m.vertices m.triangles

  pub shape_admitted_lem : shape_admitted m m.vertices t ≡ true
  unfolding shape_admitted
  shape_admitted_lem = simp (a.mesh, le-leb t.node_count (2 * triangle_count m t) (few_nodes m t passes))

  pub cast_is_fold : ray_mesh r m m.vertices t list stack ≡ nearest_of folded_answer (candidates m (segment_box r))
  unfolding ray_mesh mesh_cast over_walk
  cast_is_fold =
      simp (
        a.ray,
        shape_admitted_lem,
        a.areas,
        eq-eqb (length m.vertices) (length m.vertices) refl,
        a.end,
        segment_box_valid r
            a.ray a.end,
        walk_lists_candidates m t (segment_box r) passes,
      )

  pub answers_same : (i : ℕ) → Candidate r m i → folded_answer i ≡ answer_of r m i
  unfolding answer_of ray_triangle
  answers_same i c = simp a.ray (sym (corners_answer r m.vertices m.triangles i (corners_inside_lem m t passes i c.triangle)))

  -- ---- the fold's properties in the demand's words
  abbrev folded : Indexed
  folded = nearest_of folded_answer (candidates m (segment_box r))

  lowest_refuses : (k : ℕ) → folded ≡ stopped k → LowestRefuses r m k
  lowest_refuses k h = record {
    index = l.index;
    refuses = record { candidate = c; answers = sym (answers_same l.index c) ∙ l.refuses };
    lowest =
        λ (j other : ℕ) (f : Refuses r m j other). l.lowest j other (candidate_listed r m j f.candidate)
        (answers_same j f.candidate ∙ f.answers);
  }
    where
      l : LowestRefusal folded_answer (candidates m (segment_box r)) k
      l = stopped_by_lowest_refusal folded_answer (candidates m (segment_box r)) (candidates_ascend r m) k h

      c : Candidate r m l.index
      c = listed_candidate r m l.index l.member

  lowest_nearest : (normal : Vec3) (distance : Float) (i : ℕ) → folded ≡ hit_at normal distance i → LowestNearest folded_answer
      (candidates m (segment_box r)) normal distance i
  lowest_nearest normal distance i =
      hit_of_lowest_nearest folded_answer (candidates m (segment_box r)) (candidates_ascend r m) normal distance i
      (λ (j : ℕ) (h : Memᴰ j (candidates m (segment_box r))). answers_are_numbers r m.vertices m.triangles j)

  nearest_hit : (normal : Vec3) (distance : Float) (i : ℕ) → folded ≡ hit_at normal distance i → NearestHit r m i normal distance
  nearest_hit normal distance i h = record {
    is_hit = record { candidate = c; answers = sym (answers_same i c) ∙ l.answers };
    as_far =
        λ (j : ℕ) (n : Vec3) (d : Float) (f : IsHit r m j n d). l.nearest j (candidate_listed r m j f.candidate) n d
        (answers_same j f.candidate ∙ f.answers);
    farther =
        λ (j : ℕ) (n : Vec3) (d : Float) (f : IsHit r m j n d) (lower : j < i).
        l.farther_below j (candidate_listed r m j f.candidate) lower n d (answers_same j f.candidate ∙ f.answers);
  }
    where
      l : LowestNearest folded_answer (candidates m (segment_box r)) normal distance i
      l = lowest_nearest normal distance i h

      c : Candidate r m i
      c = listed_candidate r m i l.member

  fold_meets_demand : MeetsDemand r m folded
  fold_meets_demand = record {
    refuses_if =
        λ (i number : ℕ) (f : Refuses r m i number).
        refusal_stops folded_answer no_hit (candidates m (segment_box r)) i number (candidate_listed r m i f.candidate)
        (answers_same i f.candidate ∙ f.answers);
    refuses_only_if = lowest_refuses;
    none_if =
        λ h. none_of_nones folded_answer (candidates m (segment_box r))
        (λ (i : ℕ) (k : Memᴰ i (candidates m (segment_box r))). let c = listed_candidate r m i k in answers_same i c ∙ h i c);
    none_only_if =
        λ h i c. sym (answers_same i c) ∙ nones_of_none folded_answer (candidates m (segment_box r)) h i (candidate_listed r m i c);
    hit_only_if = nearest_hit;
  }

pub demand3 : Demand3
demand3 r m t list stack a = rw (cast_is_fold r m t list stack a) (fold_meets_demand r m t list stack a)
