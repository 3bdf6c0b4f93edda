-- Inner contracts only: what the areas hold while the hits are gathered, as the functions promise it. Definitions only. Assumes nothing.
use Rattle.std.specs.Prelude.{ℕ, ◌+◌, ◌*◌, ◌<◌, ◌≤◌, ◌≡◌, true, false, cond, List}
use Rattle.std.specs.Prelude.{◌++◌, leb, Float, length, take, drop, set, Option, Result, Ok, Err}
use Rattle.std.specs.Float.Ieee.{is_nan}
use Rattle.vectors.specs.declared.vec3.Vec3.{Vec3}
use Rattle.casts.specs.Answer.{Answer, hit, no_room, number_of, says}
use Rattle.casts.specs.declared.answer.Hit.{Hit}
use Rattle.casts.specs.Reach.{Reach, At, reach_of, says_reach}
use Rattle.casts.specs.declared.answer.Refusal.{Refusal}
use Rattle.nearest_hit.specs.Summary.{nothing, summary_from, says_nearest_so_far}
use Rattle.lists.specs.Lists.{count, all_below}
use Rattle.tree.specs.Layout.{number_at, word_at}
use Rattle.depth_sort.specs.SortRows.{Keyed}
use Rattle.tree_query.specs.Query.{count as count_of, refused}
use Rattle.mesh_hits.specs.HitArea.{HitArea, hit_area, Outcome, is_hit, hits_of, depth_at, in_order, numbers_of, places_of, refused_at}
use Rattle.mesh_hits.specs.HitListing.{written}
use Rattle.mesh_hits.specs.declared.gathering.Gathered.{Gathered}

-- the hits of a list, as far as there are places; past them the areas are unchanged
pub record Stored (answer : ℕ → Answer) (list : List ℕ) (places : ℕ) (indices₀ : List ℕ) (numbers₀ : List Float)
    (hits : ℕ) (indices : List ℕ) (numbers : List Float) : Type 0 where
  pub counts : hits ≡ length (hits_of answer list)
  pub holds : hits ≤ places → indices ≡ hits_of answer list ++ drop hits indices₀
  pub keyed : hits ≤ places → Keyed (depth_at answer) (take hits indices) numbers
  pub rest : hits ≤ places → drop (4 * hits) numbers ≡ drop (4 * hits) numbers₀

-- what a cast may reach each triangle of a list at is what its answer says
abbrev pub Reaches : (ℕ → Result (Option Float) Refusal → Type 0) → (ℕ → Answer) → List ℕ → Type 0
Reaches cast answer list =
    (k : ℕ) → k < length list → (reach : Result (Option Float) Refusal) → cast (word_at list k) reach
    → says_reach reach ≡ reach_of (answer (word_at list k))

-- one more triangle: nothing where it is not hit; else its index and its depth at the next place, if there is one
pub record StoredNext (index : ℕ) (reach : Reach) (hits places : ℕ) (indices₀ : List ℕ) (numbers₀ : List Float)
    (next : ℕ) (indices : List ℕ) (numbers : List Float) : Type 0 where
  pub missed : ((distance : Float) → reach ≡ At distance → ⊥)
      → (next ≡ hits) × ((indices ≡ indices₀) × (numbers ≡ numbers₀))
  pub hit : (distance : Float) → reach ≡ At distance
      → (next ≡ hits + 1)
      × (hits < places → (indices ≡ set indices₀ hits index) × (numbers ≡ set numbers₀ (4 * hits) distance))

-- hits at the first places: triangles of the mesh, each hit at the first number of its place
pub record HitsInPlaces (answer : ℕ → Answer) (n : ℕ) (indices : List ℕ) (k : ℕ) (numbers : List Float) : Type 0 where
  pub inside : k ≤ length indices
  pub fits : 4 * k ≤ length numbers
  pub below : (j : ℕ) → j < k → word_at indices j < n
  pub reached : (j : ℕ) → j < k → reach_of (answer (word_at indices j)) ≡ At (number_at numbers (4 * j))

-- a cast of a hit's triangle at its distance answers what the triangle does
abbrev pub Recasts : (ℕ → Float → Result (Option Hit) Refusal → Type 0) → (ℕ → Answer) → List ℕ → ℕ → List Float → Type 0
Recasts cast answer indices k numbers =
    (j : ℕ) → j < k → (found : Result (Option Hit) Refusal) → cast (word_at indices j) (number_at numbers (4 * j)) found
    → says found ≡ answer (word_at indices j)

-- hits of a mesh of n triangles in the first k places, with room to sort them
pub record Ready (answer : ℕ → Answer) (n k : ℕ) (indices : List ℕ) (numbers : List Float) (work : ℕ) : Type 0 where
  pub inside : k ≤ length indices
  pub fits : 4 * k ≤ length numbers
  pub room : k ≤ work
  pub keyed : Keyed (depth_at answer) (take k indices) numbers
  pub hits : (x : ℕ) → 0 < count x (take k indices) → (x < n) × (is_hit (answer x) ≡ true)

-- ---- the listing of either cast, over its answers
-- room to sort so many hits
pub record SortRoom (hits indices numbers work : ℕ) : Type 0 where
  pub inside : hits ≤ indices
  pub fits : 4 * hits ≤ numbers
  pub room : hits ≤ work

-- all triangles of a list below n noted and stored, and those hit are hit at numbers
pub record HitsGathered (answer : ℕ → Answer) (n : ℕ) (list : List ℕ) (work : ℕ) (indices₀ : List ℕ) (numbers₀ : List Float)
    (gathered : Gathered) (places : ℕ) (indices : List ℕ) (numbers : List Float) : Type 0 where
  pub at_numbers : (j : ℕ) (normal : Vec3) (distance : Float) → answer j ≡ hit normal distance → is_nan distance ≡ false
  pub below : all_below n list ≡ true
  pub lent : length list ≤ work
  pub places_are : places ≡ places_of (length indices₀) (length numbers₀)
  pub long : length indices ≡ length indices₀
  pub numbers_long : length numbers ≡ length numbers₀
  pub noted : says_nearest_so_far gathered.notes ≡ summary_from answer nothing list
  pub stored : Stored answer list places indices₀ numbers₀ gathered.hits indices numbers

-- the hits in the first places of an area, in order, where there is a place for each, else 3
abbrev pub fit_rows : (ℕ → Answer) → ℕ → ℕ → HitArea → Outcome
fit_rows answer hits places area =
    cond (leb hits places) (written answer area (in_order answer (take hits area.indices))) (refused_at no_room area)

-- what an outcome still lacks: nothing if it is a refusal, else the normals of the hits, each of which stands in its place
abbrev pub ArrangedBy : (ℕ → Answer) → ℕ → Outcome → Result ℕ Refusal → List ℕ → List Float → Type 0
ArrangedBy answer n whole (Ok k) indices numbers =
    HitsInPlaces answer n indices k numbers
    × ((final : List Float) → final ≡ numbers_of answer (take k indices) ++ drop (4 * k) numbers
    → record { answer = count_of k; area = hit_area indices final } ≡ whole)
ArrangedBy answer n whole (Err refusal) indices numbers =
    record { answer = refused (number_of refusal); area = hit_area indices numbers } ≡ whole

pub record Arranged (answer : ℕ → Answer) (n : ℕ) (whole : Outcome) (r : Result ℕ Refusal) (indices : List ℕ)
    (numbers : List Float) : Type 0 where
  pub stands : ArrangedBy answer n whole r indices numbers
