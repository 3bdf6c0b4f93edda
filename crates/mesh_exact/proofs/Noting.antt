-- The notes of the pass over the triangles: what is left of them gives the whole, the first index past the vertices decides, and the
-- winner's answer is the answer of all. Assumes nothing.
use Rattle.nearest_hit.specs.Summary.{Outcome, Nobody, RefusedBy, NearestHit}
use Prim.Native.Nat.{ℕ, ◌+◌, ◌-◌, ◌<◌, ◌≤◌}
use mathlib.Core.Path.{◌≡◌, refl, sym, ap, ◌∙◌}
use mathlib.Core.Bool.{Bool, true, false, cond}
use mathlib.Core.List.{List, Memᴰ}
use native.Mathlib.Omega.{arith}
use lib.Ieee.{Float}
use Rattle.lists.proofs.EveryLaws.{range_next, range_done}
use Rattle.geometry.specs.declared.ray.Ray.{Ray}
use Rattle.lists.specs.Lists.{range}
use Rattle.lists.proofs.CountLaws.{count_of_member, range_bounds}
use Rattle.lists.proofs.SortLaws.{ascending_rises, range_ascends}
use Rattle.casts.specs.Answer.{Answer, out_of_bounds}
use Rattle.casts.specs.Reach.{reach_of, Reach, Miss}
use Rattle.nearest_hit.specs.Nearest.{Indexed, no_hit, stopped, next_of, nearest_of}
use Rattle.nearest_hit.specs.Summary.{Summary, nothing, note_of, summary_from, winner, answer_at}
use Rattle.nearest_hit.proofs.SummaryLaws.{nearest_of_ascending}
use Rattle.nearest_hit.proofs.SummaryMembers.{winner_of_list}
use Rattle.tree.specs.Mesh.{Mesh, triangle_count, triangles_fit}
use Rattle.mesh.proofs.Folding.{Below}
use Rattle.mesh_exact.specs.GridCast.{exact_answer, over_triangles}
use Rattle.mesh_exact.specs.Noted.{Won}

-- ---- the pass, whatever each triangle answers
module _ (m : Mesh) (answer : ℕ → Answer) where
  -- the indices from one on
  abbrev from : ℕ → List ℕ
  from i = range i (triangle_count m - i)

  pub record Noting (notes : Summary) (i : ℕ) : Type 0 where
    pub gives : summary_from answer notes (from i) ≡ summary_from answer nothing (range 0 (triangle_count m))

  pub noting_begins : (notes : Summary) → notes ≡ nothing → Noting notes 0
  noting_begins notes e =
      let all : triangle_count m - 0 ≡ triangle_count m = omega arith in
      record { gives = rw (all, e) refl }

  module _ (notes : Summary) (i : ℕ) (p : Noting notes i) where
    module _ (h : i < triangle_count m) where
      -- one more
      pub noting_goes : (a : Reach) → a ≡ reach_of (answer i) → (next : Summary) → next ≡ note_of notes i a → Noting next (i + 1)
      unfolding summary_from
      noting_goes a e next g = record {
        gives =
            ap (λ (s : Summary). summary_from answer s (from (i + 1))) (g ∙ ap (note_of notes i) e)
            ∙ sym (ap (summary_from answer notes) (range_next i (triangle_count m) h)) ∙ p.gives;
      }

      -- one that is missed changes nothing
      pub noting_missed : reach_of (answer i) ≡ Miss → Noting notes (i + 1)
      unfolding note_of
      noting_missed e = noting_goes Miss (sym e) notes refl

    pub noting_ends : triangle_count m ≤ i → notes ≡ summary_from answer nothing (range 0 (triangle_count m))
    unfolding summary_from
    noting_ends h = sym (ap (summary_from answer notes) (range_done i (triangle_count m) h)) ∙ p.gives

module _ (r : Ray) (m : Mesh) where
  abbrev answers : ℕ → Answer
  answers = exact_answer r m.vertices m.triangles

  abbrev all : List ℕ
  all = range 0 (triangle_count m)

  refusal_no_hit : (number index : ℕ) (distance : Float) → RefusedBy number ≡ NearestHit index distance → ⊥
  refusal_no_hit number index distance h = let z : ◌≡◌ {A = ℕ} 0 1 = cc in omega arith

  pub unfit_over : triangles_fit m ≡ false → stopped out_of_bounds ≡ over_triangles r m
  unfolding over_triangles
  unfit_over h = sym (ap (λ (b : Bool). cond b (nearest_of answers all) (stopped out_of_bounds)) h)

  -- an index past the vertices
  pub won_past : triangles_fit m ≡ false → Won r m (RefusedBy out_of_bounds)
  unfolding answer_at
  won_past h = record {
    answers = unfit_over h;
    reached = λ index distance e. absurd (refusal_no_hit out_of_bounds index distance e);
  }

  -- the winner of all the notes
  module _ (fit : triangles_fit m ≡ true) (notes : Summary) (noted : notes ≡ summary_from answers nothing all) (outcome : Outcome)
      (w : outcome ≡ winner notes) where
    wins : outcome ≡ winner (summary_from answers nothing all)
    wins = w ∙ ap winner noted

    over_all : nearest_of answers all ≡ over_triangles r m
    unfolding over_triangles
    over_all = sym (ap (λ (b : Bool). cond b (nearest_of answers all) (stopped out_of_bounds)) fit)

    pub won_noted : Won r m outcome
    won_noted = record {
      answers =
          ap (answer_at answers) wins
          ∙ sym (nearest_of_ascending answers all (ascending_rises all (range_ascends 0 (triangle_count m)))) ∙ over_all;
      reached = λ index distance e. rw (sym wins ∙ e) at
          (winner_of_list (Below (triangle_count m) answers) answers all
          (λ (j : ℕ) (k : Memᴰ j all). (omega (arith, range_bounds j 0 (triangle_count m) (count_of_member j all k)), refl)));
    }

  -- ---- the code's match on the winner
  module _ (outcome : Outcome) (won : Won r m outcome) where
    pub nobody_won : outcome ≡ Nobody → no_hit ≡ over_triangles r m
    unfolding answer_at
    nobody_won e = ap (answer_at answers) (sym e) ∙ won.answers

    pub refusal_won : (number : ℕ) → outcome ≡ RefusedBy number → stopped number ≡ over_triangles r m
    unfolding answer_at
    refusal_won number e = ap (answer_at answers) (sym e) ∙ won.answers

    pub hit_won : (index : ℕ) (distance : Float) → outcome ≡ NearestHit index distance → (a : Answer) → a ≡ answers index
        → (next : Indexed) → next ≡ next_of no_hit index a → next ≡ over_triangles r m
    unfolding answer_at
    hit_won index distance e a f next g = g ∙ ap (next_of no_hit index) f ∙ ap (answer_at answers) (sym e) ∙ won.answers
