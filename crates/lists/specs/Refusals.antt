-- The order of a call's refusals: tests, each with the number that is answered where it is the first to fail. Definitions only. Assumes
-- nothing.
use Rattle.std.specs.Prelude.{ℕ, Bool, true, ◌&&◌, cond, List, [], ◌∷◌}

-- a test, and the number of its refusal
pub record Test : Type 0 where
  pub number : ℕ
  pub passes : Bool

abbrev pub refusing : ℕ → Bool → Test
refusing number passes = record { number = number; passes = passes }

-- "1 is tested before 2, 2 before 3, 3 before 4": the first refusal, or the answer past all tests
abbrev pub unless_refused : {A : Type 0} → (ℕ → A) → List Test → A → A
unless_refused refuse [] answer = answer
unless_refused refuse (t ∷ ts) answer = cond t.passes (unless_refused refuse ts answer) (refuse t.number)

-- whether the tests let the call pass
abbrev pub all_pass : List Test → Bool
all_pass [] = true
all_pass (t ∷ []) = t.passes
all_pass (t ∷ (u ∷ us)) = t.passes && all_pass (u ∷ us)
