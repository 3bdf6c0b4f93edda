-- The places of hits written one after another: each place's four numbers, its distance among them before. Assumes nothing.
use Prim.Native.Nat.{ℕ, zero, suc, ◌+◌, ◌*◌, ◌<◌, ◌≤◌}
use mathlib.Core.Path.{◌≡◌, refl, sym, ap, ◌∙◌}
use mathlib.Core.List.{List, [], ◌∷◌, ◌++◌, append-nil, append_assoc}
use native.Mathlib.Omega.{arith}
use native.Mathlib.Numerals.{add-one}
use lib.Ieee.{Float, nan}
use lib.ListN.{length, take, drop, set, length-append}
use lib.Seq.{get_or-set_other, sets, sets-eq, take-suc, take_at, drop-append-add, drop-drop, get_or-append-add, get_or-drop}
use Rattle.casts.specs.Answer.{Answer, hit, none, refused}
use Rattle.casts.specs.Reach.{At, reach_of}
use Rattle.nearest_hit.proofs.NextLaws.{miss_not_at, refused_not_at}
use Rattle.tree.specs.Layout.{number_at, word_at}
use Rattle.mesh_hits.specs.HitArea.{place_of, numbers_of}
use Rattle.mesh_hits.specs.Rows.{HitsInPlaces}

-- a triangle that is reached fills its place
pub place_of_four : (a : Answer) (d : Float) → reach_of a ≡ At d → length (place_of a) ≡ 4
unfolding reach_of place_of
place_of_four (hit normal distance) d h = refl
place_of_four none d h = absurd (miss_not_at d h)
place_of_four (refused number) d h = absurd (refused_not_at number d h)

-- it stays within its four places
pub put_before : (a : Answer) (numbers : List Float) (place j : ℕ) → place + 4 ≤ j
    → number_at (sets numbers place (place_of a)) j ≡ number_at numbers j
unfolding place_of
put_before (hit normal distance) numbers place j h =
    let one = set numbers place distance in
    let two = set one (suc place) normal.x in
    let three = set two (suc (suc place)) normal.y in
    get_or-set_other three (suc (suc (suc place))) j normal.z nan (λ e. omega arith)
    ∙ get_or-set_other two (suc (suc place)) j normal.y nan (λ e. omega arith)
    ∙ get_or-set_other one (suc place) j normal.x nan (λ e. omega arith)
    ∙ get_or-set_other numbers place j distance nan (λ e. omega arith)
put_before none numbers place j h = refl
put_before (refused number) numbers place j h = refl

pub record Putting (answer : ℕ → Answer) (indices : List ℕ) (k : ℕ) (numbers₀ numbers : List Float) (i : ℕ) : Type 0 where
  pub within : i ≤ k
  pub long : length numbers ≡ length numbers₀
  pub so_far : numbers ≡ numbers_of answer (take i indices) ++ drop (4 * i) numbers₀

module _ (answer : ℕ → Answer) where
  pub numbers_append : (l m : List ℕ) → numbers_of answer (l ++ m) ≡ numbers_of answer l ++ numbers_of answer m
  unfolding numbers_of
  numbers_append [] m = refl
  numbers_append (t ∷ l) m =
      ap (λ (z : List Float). place_of (answer t) ++ z) (numbers_append l m)
      ∙ sym (append_assoc (place_of (answer t)) (numbers_of answer l) (numbers_of answer m))

  pub numbers_one : (t : ℕ) → numbers_of answer (t ∷ []) ≡ place_of (answer t)
  unfolding numbers_of
  numbers_one t = append-nil (place_of (answer t))

  pub numbers_none : numbers_of answer [] ≡ []
  unfolding numbers_of
  numbers_none = refl

  module _ (n : ℕ) (indices : List ℕ) (k : ℕ) (numbers₀ : List Float) (s : HitsInPlaces answer n indices k numbers₀) where
    next_numbers : (i : ℕ) → i < k → numbers_of answer (take (i + 1) indices) ≡ numbers_of answer (take i indices) ++ place_of
        (answer (word_at indices i))
    next_numbers i h =
        let inside : i < length indices = omega (arith, s.inside) in
        ap (λ (j : ℕ). numbers_of answer (take j indices)) (add-one i)
        ∙ ap (numbers_of answer) (take-suc indices i 0 inside)
        ∙ numbers_append (take i indices) (word_at indices i ∷ [])
        ∙ ap (λ (z : List Float). numbers_of answer (take i indices) ++ z) (numbers_one (word_at indices i))

    four : (i : ℕ) → i < k → length (place_of (answer (word_at indices i))) ≡ 4
    four i h = place_of_four (answer (word_at indices i)) (number_at numbers₀ (4 * i)) (s.reached i h)

    numbers_long : (i : ℕ) → i ≤ k → length (numbers_of answer (take i indices)) ≡ 4 * i
    numbers_long zero h = ap length numbers_none
    numbers_long (suc i) h =
        let below : i < k = omega arith in
        let e = ap length (ap (λ (j : ℕ). numbers_of answer (take j indices)) (sym (add-one i)) ∙ next_numbers i below) in
        omega (
          arith,
          e,
          length-append (numbers_of answer (take i indices)) (place_of (answer (word_at indices i))),
          numbers_long i
              (omega arith),
          four i below,
        )

    pub putting_begins : Putting answer indices k numbers₀ numbers₀ 0
    putting_begins = record { within = omega arith; long = refl; so_far = ap (λ (z : List Float). z ++ numbers₀) (sym numbers_none) }

    -- the distance still stands at the next place
    pub distance_stands : (numbers : List Float) (i : ℕ) → Putting answer indices k numbers₀ numbers i → i < k
        → number_at numbers (4 * i) ≡ number_at numbers₀ (4 * i)
    distance_stands numbers i p h =
        let e : 4 * i ≡ length (numbers_of answer (take i indices)) + 0 = omega (arith, numbers_long i p.within) in
        let z : 4 * i + 0 ≡ 4 * i = omega arith in
        ap (λ (l : List Float). number_at l (4 * i)) p.so_far
        ∙ ap (number_at (numbers_of answer (take i indices) ++ drop (4 * i) numbers₀)) e
        ∙ get_or-append-add (numbers_of answer (take i indices)) (drop (4 * i) numbers₀) 0 nan
        ∙ get_or-drop (4 * i) numbers₀ 0 nan
        ∙ ap (number_at numbers₀) z

    pub putting_goes : (numbers : List Float) (i : ℕ) → Putting answer indices k numbers₀ numbers i → i < k → (a : Answer)
        → a ≡ answer (word_at indices i)
        → (next : List Float) → length next ≡ length numbers → next ≡ sets numbers (4 * i) (place_of a)
        → Putting answer indices k numbers₀ next (i + 1)
    putting_goes numbers i p h a e next long w = record { within = omega arith; long = long ∙ p.long; so_far = w ∙ written }
      where
        written : sets numbers (4 * i) (place_of a) ≡ numbers_of answer (take (i + 1) indices) ++ drop (4 * (i + 1)) numbers₀
        written =
            let d = numbers_of answer (take i indices) in
            let v = place_of (answer (word_at indices i)) in
            let f = four i h in
            let dl = numbers_long i p.within in
            let room : 4 * i + length v ≤ length numbers = omega (arith, f, p.long, s.fits) in
            let at : 4 * i + length v ≡ length d + 4 = omega (arith, f, dl) in
            let to : 4 * i + 4 ≡ 4 * (i + 1) = omega arith in
            ap (λ (z : Answer). sets numbers (4 * i) (place_of z)) e
            ∙ sets-eq v numbers (4 * i) room
            ∙ ap (λ (z : List Float). (z ++ v) ++ drop (4 * i + length v) numbers)
            (ap (take (4 * i)) p.so_far ∙ take_at d (drop (4 * i) numbers₀) (4 * i) dl)
            ∙ ap (λ (z : List Float). (d ++ v) ++ z)
            (ap (drop (4 * i + length v)) p.so_far
            ∙ ap (λ (j : ℕ). drop j (d ++ drop (4 * i) numbers₀)) at
            ∙ drop-append-add d (drop (4 * i) numbers₀) 4
            ∙ drop-drop 4 (4 * i) numbers₀
            ∙ ap (λ (j : ℕ). drop j numbers₀) to)
            ∙ ap (λ (z : List Float). z ++ drop (4 * (i + 1)) numbers₀) (sym (next_numbers i h))

    pub putting_ends : (numbers : List Float) (i : ℕ) → Putting answer indices k numbers₀ numbers i → k ≤ i
        → numbers ≡ numbers_of answer (take k indices) ++ drop (4 * k) numbers₀
    putting_ends numbers i p h =
        let e : i ≡ k = omega (arith, p.within) in
        p.so_far ∙ ap (λ (j : ℕ). numbers_of answer (take j indices) ++ drop (4 * j) numbers₀) e
