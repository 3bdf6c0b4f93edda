-- The nearest hit by the summary of a list, whatever its order, is that of the fold over the same list ascending. Assumes, for another
-- order, that those hit are hit at numbers.
use Prim.Native.Nat.{ℕ, ◌≤◌}
use mathlib.Core.Path.{◌≡◌, refl, sym, ap, ◌∙◌}
use mathlib.Core.Bool.{Bool, true, false, cond}
use mathlib.Core.List.{List, [], ◌∷◌, Memᴰ}
use native.Mathlib.Omega.{arith}
use borrow.Author.Tests.{le-ltb}
use lib.Ieee.{Float, lt}
use Rattle.vectors.specs.declared.vec3.Vec3.{Vec3}
use Rattle.casts.specs.Answer.{Answer, hit, none, refused}
use Rattle.nearest_hit.specs.Nearest.{Indexed, hit_at, no_hit, stopped, next_of, fold_from, nearest_of}
use Rattle.casts.specs.Reach.{reach_of}
use Rattle.nearest_hit.specs.Summary.{Kept, nobody, kept, keep_of, Found, found, lower, nearer, Summary, nothing, note_of, summary_from}
use Rattle.nearest_hit.specs.Summary.{winner_of, winner, answer_at, nearest_noted}
use Rattle.lists.proofs.Members.{Each, Rising}
use Rattle.casts.proofs.AnswerLists.{HitsAreNumbers}
use Rattle.nearest_hit.proofs.KeptLaws.{nearer_by_distance, stays_nearest}
use Rattle.nearest_hit.proofs.SummaryOrder.{Reordered, summary_order_free}

module _ (answer : ℕ → Answer) where
  -- what the summary holds where the fold has come to an answer, all of it up to an index
  data Tells (up : ℕ) : Indexed → Summary → Type 0 where
    by_nobody : Tells up no_hit nothing
    by_refuser : (i number : ℕ) (least : Kept (Found Float)) → i ≤ up
        → Tells up (stopped number) (record { refuser = kept (found i number); least = least })
    by_least : (i : ℕ) (normal : Vec3) (distance : Float) → i ≤ up → answer i ≡ hit normal distance
        → Tells up (hit_at normal distance i) (record { refuser = nobody; least = kept (found i distance) })

  tells_answer : (up : ℕ) (best : Indexed) (s : Summary) → Tells up best s → best ≡ answer_at answer (winner s)
  unfolding winner_of answer_at next_of
  tells_answer up best s by_nobody = refl
  tells_answer up best s (by_refuser i number least below) = refl
  tells_answer up best s (by_least i normal distance below e) = simp e

  -- one more triangle, of an index not below
  module _ (up x : ℕ) (h : up ≤ x) where
    refuser_stays : (i number k : ℕ) → i ≤ up → keep_of lower (kept (found i number)) (found x k) ≡ kept (found i number)
    unfolding keep_of lower
    refuser_stays i number k below = simp (le-ltb x i (omega arith))

    least_moves : (i : ℕ) (distance d : Float) → lt d distance ≡ true → keep_of nearer (kept (found i distance)) (found x d) ≡ kept
        (found x d)
    unfolding keep_of
    least_moves i distance d q = simp (nearer_by_distance (found x d) (found i distance) q)

    least_stays : (i : ℕ) (distance d : Float) → i ≤ up → lt d distance ≡ false → keep_of nearer (kept (found i distance)) (found x d)
        ≡ kept
        (found i distance)
    unfolding keep_of
    least_stays i distance d below q = simp (stays_nearest (found x d) (found i distance) q (le-ltb x i (omega arith)))

    over_nobody : (a : Answer) → answer x ≡ a → Tells x (next_of no_hit x a) (note_of nothing x (reach_of a))
    unfolding next_of note_of reach_of keep_of
    over_nobody (hit n d) e = by_least x n d (omega arith) e
    over_nobody none e = by_nobody
    over_nobody (refused number) e = by_refuser x number nobody (omega arith)

    over_refuser : (i number : ℕ) (least : Kept (Found Float)) → i ≤ up
        → (a : Answer) → Tells x (next_of (stopped number) x a)
        (note_of (record { refuser = kept (found i number); least = least }) x (reach_of a))
    unfolding next_of note_of reach_of
    over_refuser i number least below (hit n d) = by_refuser i number (keep_of nearer least (found x d)) (omega arith)
    over_refuser i number least below none = by_refuser i number least (omega arith)
    over_refuser i number least below (refused k) = rw (refuser_stays i number k below) (by_refuser i number least (omega arith))

    over_least : (i : ℕ) (normal : Vec3) (distance : Float) → i ≤ up → answer i ≡ hit normal distance → (a : Answer) → answer x ≡ a
        → Tells x (next_of (hit_at normal distance i) x a)
        (note_of (record { refuser = nobody; least = kept (found i distance) }) x (reach_of a))
    unfolding next_of note_of reach_of keep_of
    over_least i normal distance below e (hit n d) f = go (lt d distance) refl
      where
        go : (q : Bool) → lt d distance ≡ q
            → Tells x (cond q (hit_at n d x) (hit_at normal distance i))
            (record { refuser = nobody; least = keep_of nearer (kept (found i distance)) (found x d) })
        go true q = rw (least_moves i distance d q) (by_least x n d (omega arith) f)
        go false q = rw (least_stays i distance d below q) (by_least i normal distance (omega arith) e)
    over_least i normal distance below e none f = by_least i normal distance (omega arith) e
    over_least i normal distance below e (refused k) f = by_refuser x k (kept (found i distance)) (omega arith)

    tells_next : (best : Indexed) (s : Summary) → Tells up best s → Tells x (next_of best x (answer x)) (note_of s x (reach_of (answer x)))
    tells_next best s by_nobody = over_nobody (answer x) refl
    tells_next best s (by_refuser i number least below) = over_refuser i number least below (answer x)
    tells_next best s (by_least i normal distance below e) = over_least i normal distance below e (answer x) refl

  -- all of a list that does not fall
  tells_all : (up : ℕ) (best : Indexed) (s : Summary) (l : List ℕ) → Tells up best s → Each (λ (y : ℕ). up ≤ y) l → Rising l → fold_from
      answer best l ≡ answer_at answer (winner (summary_from answer s l))
  unfolding fold_from summary_from
  tells_all up best s [] t above r = tells_answer up best s t
  tells_all up best s (x ∷ xs) t above r =
      tells_all x (next_of best x (answer x)) (note_of s x (reach_of (answer x))) xs (tells_next up x (above x (Memᴰ.head refl)) best s t)
      r.0 r.1

  pub nearest_of_ascending : (l : List ℕ) → Rising l → nearest_of answer l ≡ nearest_noted answer l
  nearest_of_ascending l r = tells_all 0 no_hit nothing l by_nobody (λ (y : ℕ) (m : Memᴰ y l). omega arith) r

  -- the answer depends only on which triangles there are
  pub nearest_of_any_order : HitsAreNumbers answer → {l m : List ℕ} → Reordered l m → Rising m → nearest_noted answer l
      ≡ nearest_of answer m
  nearest_of_any_order numbers {l} {m} o r =
      ap (λ (s : Summary). answer_at answer (winner s)) (summary_order_free answer numbers o nothing) ∙ sym (nearest_of_ascending m r)
