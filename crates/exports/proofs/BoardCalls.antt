-- What the call of the merge tells, refusal by refusal, and what holds of the result where it is done. Assumes nothing.
use Prim.Native.Nat.{ℕ, ◌<◌, ◌≤◌}
use mathlib.Core.Path.{◌≡◌, refl, sym, ap, subst, ◌∙◌}
use mathlib.Core.Bool.{Bool, true, false, ◌&&◌}
use mathlib.Core.List.{List, [], ◌∷◌}
use native.Mathlib.Omega.{arith}
use borrow.Author.Tests.{le-leb, lt-leb}
use lib.Dec.{leb}
use lib.ListN.{length}
use lib.Seq.{sets}
use Rattle.std.specs.Prelude.{Result, Ok, Err}
use Rattle.casts.specs.Answer.{bad_shape, no_room}
use Rattle.casts.specs.declared.answer.Refusal.{Refusal}
use Rattle.tree_build.specs.Build.{says as built}
use Rattle.merge.specs.Merge.{says as merged}
use Rattle.tree.specs.Layout.{word_at}
use Rattle.merge.specs.Merge.{Answer, nodes, refused, Board, Areas, Outcome, shapes_admitted, tests_pass, merge_of}
use Rattle.merge.specs.Promises.{Glued}
use Rattle.merge.proofs.MergePasses.{merged_trees_pass}
use Rattle.merge.proofs.MergeCasts.{merged_casts_glue}
use Rattle.results.specs.Results.{Counted, done_code, returned_nodes}
use Rattle.exports.proofs.Codes.{refusals_below_codes}
use Rattle.exports.specs.Boards.{returned_merged, MergeReturned, merge_refused, merge_returned}

-- the node count as its place holds it
count_returned : (place : List ℕ) (count : ℕ) → 1 ≤ length place → word_at (sets place 0 (count ∷ [])) 0 ≡ count
count_returned [] count there = absurd (omega arith)
count_returned (x ∷ place) count there = refl

-- a count that is told as the build's is told as the merge's
pub merged_count : (counted : Result ℕ Refusal) (place : List ℕ) → returned_nodes (built counted) place
    ≡ returned_merged (merged counted) place
unfolding returned_nodes returned_merged
merged_count (Ok count) place = refl
merged_count (Err refusal) place = refl

module _ (a b : Board) (old : Areas) (marks : ℕ) where
  module _ (place : List ℕ) where
    -- done: the result passes the check, and casts on it are glued
    glued_where_done : 1 ≤ length place → (x : Answer) → (merge_of a b old marks).answer ≡ x → (returned_merged x place).number ≡ done_code
        → Glued a b (word_at (returned_merged x place).count 0) (merge_of a b old marks).after
    unfolding returned_merged
    glued_where_done there (nodes count) e h =
        subst (λ (k : ℕ). Glued a b k (merge_of a b old marks).after) (sym (count_returned place count there))
        (record { passes = λ m long. merged_trees_pass a b old marks count m e long; casts = merged_casts_glue a b old marks count e })
    glued_where_done there (refused number) e h = absurd (omega (arith, refusals_below_codes.merge a b old marks number e))

    abbrev Returned : MergeReturned → Type 0
    Returned returned =
        (returned ≡ merge_returned a b old marks place)
        × (returned.returned.number ≡ done_code → Glued a b (word_at returned.returned.count 0) returned.after)

    refused_returned : (number : ℕ) → number < 256 → merge_refused number old place ≡ merge_returned a b old marks place
        → Returned (merge_refused number old place)
    refused_returned number small e = (e, λ h. absurd (omega arith))

    pub returned_bad : shapes_admitted a b ≡ false → Returned (merge_refused bad_shape old place)
    unfolding merge_returned
    returned_bad h = refused_returned bad_shape (omega arith) (simp h)

    module _ (s : shapes_admitted a b ≡ true) where
      pub returned_short : length place < 1 → Returned (merge_refused no_room old place)
      unfolding merge_returned
      returned_short h = refused_returned no_room (omega arith) (simp (s, lt-leb 1 (length place) h))

      pub returned_merged_lem : 1 ≤ length place → (answer : Answer) (after : Areas) (returned : Counted)
          → record { answer = answer; after = after } ≡ merge_of a b old marks → returned ≡ returned_merged answer place
          → Returned (record { returned = returned; after = after })
      unfolding merge_returned
      returned_merged_lem there answer after returned e t =
          let same : answer ≡ (merge_of a b old marks).answer = ap (λ (o : Outcome). o.answer) e in
          let areas : after ≡ (merge_of a b old marks).after = ap (λ (o : Outcome). o.after) e in (
            simp (s, le-leb 1 (length place) there, t, same, areas),
            λ h.
                subst (λ (k : Counted). Glued a b (word_at k.count 0) after) (sym t)
                (subst (λ (z : Areas). Glued a b (word_at (returned_merged answer place).count 0) z) (sym areas)
                (glued_where_done there answer (sym same) (sym (ap (λ (k : Counted). k.number) t) ∙ h))),
          )

    -- the marks, where 2 and 3 have let nothing pass
    pub marks_kept : shapes_admitted a b ≡ true → (leb 1 (length place) && tests_pass a b old marks) ≡ false → 1 ≤ length place
        → tests_pass a b old marks ≡ false
    marks_kept s failed there = sym (ap (λ (t : Bool). t && tests_pass a b old marks) (le-leb 1 (length place) there)) ∙ failed
