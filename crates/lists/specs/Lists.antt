-- Lists of indices: ranges, counts, tests of all, those that pass a test, sorting; lists written over areas, and folds. Definitions only.
-- Assumes nothing.
use Rattle.std.specs.Prelude.{ℕ, zero, suc, ◌+◌, Bool, true, ◌&&◌, cond, List, [], ◌∷◌, ◌++◌, eqb, leb, ltb, Float, length, get_or, drop}
-- the lists that each gives, one after another
unfoldable pub use mathlib.Core.List.{flat_map}
use Rattle.std.specs.Float.{binary64}
use Rattle.std.specs.Float.Ieee.{of_bits}

-- start, start + 1, .., as many as count says
unfoldable pub range : ℕ → ℕ → List ℕ
range start zero = []
range start (suc count) = start ∷ range (suc start) count

-- how often x stands in a list
unfoldable pub count : ℕ → List ℕ → ℕ
count x [] = 0
count x (y ∷ ys) = cond (eqb x y) 1 0 + count x ys

-- those that pass a test, in their order
unfoldable pub keep : (ℕ → Bool) → List ℕ → List ℕ
keep p [] = []
keep p (x ∷ xs) = cond (p x) (x ∷ keep p xs) (keep p xs)

-- whether all pass a test
unfoldable pub every : (ℕ → Bool) → List ℕ → Bool
every p [] = true
every p (x ∷ xs) = p x && every p xs

-- whether all are below a bound
abbrev pub all_below : ℕ → List ℕ → Bool
all_below bound = every (λ (x : ℕ). ltb x bound)

-- sorted by a test for 'at or before', equal ones in their order
unfoldable pub insert_by : (ℕ → ℕ → Bool) → ℕ → List ℕ → List ℕ
insert_by le x [] = x ∷ []
insert_by le x (y ∷ ys) = cond (le x y) (x ∷ (y ∷ ys)) (y ∷ insert_by le x ys)

unfoldable pub sort_by : (ℕ → ℕ → Bool) → List ℕ → List ℕ
sort_by le [] = []
sort_by le (x ∷ xs) = insert_by le x (sort_by le xs)

-- ascending
abbrev pub sorted : List ℕ → List ℕ
sorted = sort_by leb

-- joined one after another to what is there
unfoldable pub folded : {A : Type 0} → (A → A → A) → (ℕ → A) → A → List ℕ → A
folded join value so_far [] = so_far
folded join value so_far (t ∷ ts) = folded join value (join so_far (value t)) ts

-- joined from the first one on
abbrev pub folded_all : {A : Type 0} → (A → A → A) → (ℕ → A) → List ℕ → A
folded_all join value ts = folded join value (value (get_or ts 0 0)) (drop 1 ts)

-- "entries beyond it are unchanged": a list written over the front of an area
abbrev pub over : {A : Type 0} → List A → List A → List A
over new old = new ++ drop (length new) old

-- the float 0
abbrev pub zero_number : Float
zero_number = of_bits binary64 0
