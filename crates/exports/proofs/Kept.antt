-- Work areas that a call leaves as they were, and a result slice that is long enough or not. Assumes nothing.
use Prim.Native.Nat.{ℕ, ◌≤◌, ◌<◌}
use mathlib.Core.Path.{◌≡◌, refl, sym}
use mathlib.Core.Bool.{Bool, true, false, ◌&&◌, true≢false}
use mathlib.Core.List.{List}
use borrow.Author.Tests.{le-leb, lt-leb}
use lib.Ieee.{Float}
use lib.ListN.{length}
use Rattle.results.specs.Results.{with_room, results_fit}

module _ (area : List Float) (place : List ℕ) where
  pub results_fit_lem : 4 ≤ length area → 1 ≤ length place → results_fit area place ≡ true
  unfolding results_fit
  results_fit_lem long there = simp (le-leb 4 (length area) long, le-leb 1 (length place) there)

  pub hit_short : length area < 4 → results_fit area place ≡ false
  unfolding results_fit
  hit_short short = simp (lt-leb 4 (length area) short)

  pub index_short : 4 ≤ length area → length place < 1 → results_fit area place ≡ false
  unfolding results_fit
  index_short long short = simp (le-leb 4 (length area) long, lt-leb 1 (length place) short)

-- where the first of two tests passed, the second one failed
pub second_failed : (first second : Bool) → first ≡ true → (first && second) ≡ false → second ≡ false
second_failed true second passed failed = failed
second_failed false second passed failed = absurd (true≢false (sym passed))

-- where the slices are long enough, what is told is told, whatever the tests of 1 and 2 say
pub room_there : {A : Type 0} (passed fits : Bool) (returned short : A) → fits ≡ true → with_room passed fits returned short ≡ returned
room_there true fits returned short h = simp h
room_there false fits returned short h = refl
