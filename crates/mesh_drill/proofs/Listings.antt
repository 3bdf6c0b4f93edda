-- The first answer of a list that is not clear: what is left of it gives the whole. Assumes nothing.
use Rattle.std.proofs.Common.{◌≡◌, ℕ, zero, suc, ◌+◌, ◌<◌, ◌≤◌, Bool, true, false, cond, List, ◌∷◌, length, get_or, take, drop, sym, refl}
use Rattle.std.proofs.Common.{ap, ◌∙◌, add-one, arith, drop_of_length-le, length-take-le, drop-cons, get_or-take}
use Rattle.lists.specs.Lists.{range, keep}
use Rattle.casts.specs.Answer.{out_of_bounds, out_of_range}
use Rattle.tree.specs.Mesh.{Mesh, thirds, corners_inside, corners_of}
use Rattle.exact_triangle.specs.Line.{Line}
use Rattle.exact_triangle.specs.Reach.{corners_read}
use Rattle.mesh_drill.specs.MeshDrill.{DrillAnswer, Clear, Touches, Stopped, touched_at, first_of}
use Rattle.mesh_drill.specs.Through.{drilled_at, or_else, first_answer}

-- ---- one triangle
abbrev tested : Bool → Bool → Bool → ℕ → DrillAnswer
tested inside read touched i = cond inside (cond read (cond touched (Touches i) Clear) (Stopped out_of_range)) (Stopped out_of_bounds)

module _ (l : Line) (ρ : ℕ) (m : Mesh) (i : ℕ) where
  abbrev inside : Bool
  inside = corners_inside (thirds (length m.vertices)) m.triangles i

  abbrev read : Bool
  read = corners_read (corners_of m.vertices m.triangles i)

  pub outside_drilled : inside ≡ false → Stopped out_of_bounds ≡ drilled_at l ρ m i
  unfolding drilled_at
  outside_drilled h = sym (ap (λ (b : Bool). tested b read (touched_at l ρ m i) i) h)

  module _ (h : inside ≡ true) where
    pub unread_drilled : read ≡ false → Stopped out_of_range ≡ drilled_at l ρ m i
    unfolding drilled_at
    unread_drilled g = sym (λ s. tested (h s) (g s) (touched_at l ρ m i) i)

    pub drilled_is : read ≡ true → drilled_at l ρ m i ≡ cond (touched_at l ρ m i) (Touches i) Clear
    unfolding drilled_at
    drilled_is g = λ s. tested (h s) (g s) (touched_at l ρ m i) i

    module _ (g : read ≡ true) where
      pub touched_drilled : touched_at l ρ m i ≡ true → Touches i ≡ drilled_at l ρ m i
      touched_drilled e = sym (drilled_is g ∙ ap (λ (b : Bool). cond b (Touches i) Clear) e)

      pub clear_drilled : touched_at l ρ m i ≡ false → Clear ≡ drilled_at l ρ m i
      clear_drilled e = sym (drilled_is g ∙ ap (λ (b : Bool). cond b (Touches i) Clear) e)

-- ---- the loop over a list
module _ (answer : ℕ → DrillAnswer) (list : List ℕ) (found : ℕ) where
  pub record Listing (i : ℕ) : Type 0 where
    pub within : i ≤ found
    pub gives : first_answer answer (drop i (take found list)) ≡ first_answer answer (take found list)

  pub listing_begins : Listing 0
  listing_begins = record { within = omega arith; gives = refl }

  module _ (inside : found ≤ length list) (i : ℕ) (p : Listing i) where
    module _ (h : i < found) where
      next : or_else (answer (get_or list i 0)) (first_answer answer (drop (i + 1) (take found list)))
          ≡ first_answer answer (take found list)
      unfolding first_answer
      next =
          let l : length (take found list) ≡ found = length-take-le found list inside in
          let k : i < length (take found list) = omega arith in
          let c : drop i (take found list) ≡ get_or list i 0 ∷ drop (suc i) (take found list) =
          drop-cons (take found list) i 0 k ∙ ap (λ (x : ℕ). x ∷ drop (suc i) (take found list)) (get_or-take found list i 0 h) in
          rw (add-one i) (sym (ap (first_answer answer) c) ∙ p.gives)

      pub listing_goes : Clear ≡ answer (get_or list i 0) → Listing (i + 1)
      listing_goes e = record {
        within = omega arith;
        gives = ap (λ (d : DrillAnswer). or_else d (first_answer answer (drop (i + 1) (take found list)))) e ∙ next;
      }

      pub listing_touched : (k : ℕ) → Touches k ≡ answer (get_or list i 0) → Touches k ≡ first_answer answer (take found list)
      listing_touched k e = ap (λ (d : DrillAnswer). or_else d (first_answer answer (drop (i + 1) (take found list)))) e ∙ next

      pub listing_refused : (k : ℕ) → Stopped k ≡ answer (get_or list i 0) → Stopped k ≡ first_answer answer (take found list)
      listing_refused k e = ap (λ (d : DrillAnswer). or_else d (first_answer answer (drop (i + 1) (take found list)))) e ∙ next

    pub listing_ends : found ≤ i → Clear ≡ first_answer answer (take found list)
    unfolding first_answer
    listing_ends h =
        let l : length (take found list) ≡ found = length-take-le found list inside in
        let k : length (take found list) ≤ i = omega arith in
        sym (ap (first_answer answer) (drop_of_length-le (take found list) k)) ∙ p.gives

-- ---- where none of a range refuses, the first answer is the first that passes
pub first_in_range : (q p : ℕ → Bool) (f : ℕ → DrillAnswer) (start size : ℕ)
    → ((i : ℕ) → start ≤ i → i < start + size → f i ≡ cond (p i) (Touches i) Clear)
    → first_answer f (keep q (range start size)) ≡ first_of p (keep q (range start size))
unfolding first_answer first_of keep range
first_in_range q p f start zero h = refl
first_in_range q p f start (suc size) h =
    go (q start) (first_in_range q p f (suc start) size (λ i a b. h i (omega (arith, a)) (omega (arith, b))))
  where
    rest : List ℕ
    rest = keep q (range (suc start) size)

    step : (b : Bool) → first_answer f rest ≡ first_of p rest
        → or_else (cond b (Touches start) Clear) (first_answer f rest) ≡ cond b (Touches start) (first_of p rest)
    step true e = refl
    step false e = e

    go : (b : Bool) → first_answer f rest ≡ first_of p rest
        → first_answer f (cond b (start ∷ rest) rest) ≡ first_of p (cond b (start ∷ rest) rest)
    go true e = ap (λ (d : DrillAnswer). or_else d (first_answer f rest)) (h start (omega arith) (omega arith)) ∙ step (p start) e
    go false e = e
