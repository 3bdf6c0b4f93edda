-- The four samples of a cell: a value that was taken at a distance is the value at any distance with its bits, and the samples taken so far
-- give with those to come the whole. Assumes nothing.
use mathlib.Core.Path.{◌≡◌, refl, sym, ap, subst, ◌∙◌}
use mathlib.Core.Bool.{Bool, true, false, false≢true}
use mathlib.Core.List.{List}
use Prim.Native.Nat.{ℕ, zero, suc, ◌<◌}
use native.Mathlib.Omega.{arith}
use lib.Dec.{lit<}
use Rattle.std.proofs.Common.{get_or}
use lib.Ieee.{Float, nan, is_nan, of_bits, div}
use Rattle.vectors.specs.Numbers.{◌/ᶠ◌, zeroᶠ, oneᶠ}
use Rattle.geometry.specs.declared.ray.Ray.{Ray}
use Rattle.level_set.specs.Hits.{Samples, All, SamplesRefused, along, value_along, samples_of, samples_along, fraction_of, Remembered}
use Rattle.level_set.specs.Walk.{Carries, ends, goes, Kept, ended, going}
use Rattle.distance_grid.specs.Valued.{Valued, ValuedAt as At, NoValue as Refused}
use Rattle.distance_grid.specs.declared.grid.Grid.{Grid}
use Rattle.level_set.specs.declared.hits.Known.{Known}
use Rattle.level_set.specs.declared.walk.Step.{Step}
use Rattle.level_set.specs.declared.walk.Step.TheVariants.{On}

-- ---- what is remembered

pub remembered_value : (r : Ray) (g : Grid) (values : List Float) (known : Known) (distance : Float) → Remembered r g values known
    → is_nan known.distance ≡ false → known.distance ≡ distance → At known.value ≡ value_along r g values distance
remembered_value r g values known distance m n e = sym (m.holds n) ∙ ap (value_along r g values) e

not_a_number : is_nan (zeroᶠ /ᶠ zeroᶠ) ≡ true
unfolding of_bits div is_nan
not_a_number = refl

-- at the start nothing is remembered
pub nothing_remembered : (r : Ray) (g : Grid) (values : List Float) (value : Float) → Remembered r g values record
    { distance = zeroᶠ /ᶠ zeroᶠ; value = value }
nothing_remembered r g values value = record { holds = λ n. absurd (false≢true (sym n ∙ not_a_number)) }

-- ---- the samples taken so far
module _ (v : ℕ → Valued) (ys : List Float) where
  -- four values that were taken are all the samples
  pub all_taken : ((k : ℕ) → k < 4 → v k ≡ At (get_or ys k nan))
      → All (get_or ys 0 nan) (get_or ys 1 nan) (get_or ys 2 nan) (get_or ys 3 nan) ≡ samples_of (v 0) (v 1) (v 2) (v 3)
  unfolding samples_of
  all_taken h = simp (h 0 (lit< tt), h 1 (lit< tt), h 2 (lit< tt), h 3 (lit< tt))

  -- a refusal after values that were taken is the first
  pub first_refused : (n number : ℕ) → n < 4 → ((k : ℕ) → k < n → v k ≡ At (get_or ys k nan)) → v n ≡ Refused number
      → SamplesRefused number ≡ samples_of (v 0) (v 1) (v 2) (v 3)
  unfolding samples_of
  first_refused zero number l h e = simp e
  first_refused (suc zero) number l h e = simp (h 0 (lit< tt), e)
  first_refused (suc (suc zero)) number l h e = simp (h 0 (lit< tt), h 1 (lit< tt), e)
  first_refused (suc (suc (suc zero))) number l h e = simp (h 0 (lit< tt), h 1 (lit< tt), h 2 (lit< tt), e)
  first_refused (suc (suc (suc (suc n)))) number l h e = absurd (omega arith)

-- a cell's samples, by their numbers
pub sample_at : Ray → Grid → List Float → Float → Float → ℕ → Valued
sample_at r g values current end n = value_along r g values (along current end (fraction_of n))

pub sample_found : (r : Ray) (g : Grid) (values : List Float) (current end fraction distance : Float) (n : ℕ) (found : Valued)
    → fraction ≡ fraction_of n → distance ≡ along current end fraction → found ≡ value_along r g values distance
    → sample_at r g values current end n ≡ found
unfolding sample_at
sample_found r g values current end fraction distance n found f d e =
    ap (λ (x : Float). value_along r g values (along current end x)) (sym f) ∙ ap (value_along r g values) (sym d) ∙ sym e

pub samples_by : (r : Ray) (g : Grid) (values : List Float) (current end : Float) (whole : Samples)
    → whole ≡ samples_of (sample_at r g values current end 0) (sample_at r g values current end 1) (sample_at r g values current end 2)
    (sample_at r g values current end 3) → whole ≡ samples_along r g values current end
unfolding sample_at fraction_of samples_along
samples_by r g values current end whole e = e

pub fraction_last : (n : ℕ) → (n ≡ 0 → ⊥) → (n ≡ 1 → ⊥) → (n ≡ 2 → ⊥) → oneᶠ ≡ fraction_of n
unfolding fraction_of
fraction_last zero p q r = absurd (p refl)
fraction_last (suc zero) p q r = absurd (q refl)
fraction_last (suc (suc zero)) p q r = absurd (r refl)
fraction_last (suc (suc (suc n))) p q r = refl

-- ---- what the next cell may remember

no_samples : {number : ℕ} {a b c d : Float} → SamplesRefused number ≡ All a b c d → ⊥
no_samples e = false≢true (ap are_all e)
  where
    are_all : Samples → Bool
    are_all (All p q r s) = true
    are_all (SamplesRefused number) = false

-- the last of all
last : Samples → Float
last (All p q r s) = s
last (SamplesRefused number) = nan

-- where all four are there, the last is one of them
last_of : (h0 h1 h2 h3 : Valued) {y0 y1 y2 y3 : Float} → samples_of h0 h1 h2 h3 ≡ All y0 y1 y2 y3 → h3 ≡ At y3
unfolding samples_of last
last_of (At a) (At b) (At c) (At d) e = ap At (ap last e)
last_of (At a) (At b) (At c) (Refused n) e = absurd (no_samples e)
last_of (At a) (At b) (Refused n) h3 e = absurd (no_samples e)
last_of (At a) (Refused n) h2 h3 e = absurd (no_samples e)
last_of (Refused n) h1 h2 h3 e = absurd (no_samples e)

pub last_remembered : (r : Ray) (g : Grid) (values : List Float) (current end distance : Float) (samples : Samples) {y0 y1 y2 y3 : Float}
    → distance ≡ along current end oneᶠ → samples ≡ samples_along r g values current end → samples ≡ All y0 y1 y2 y3
    → Remembered r g values record { distance = distance; value = y3 }
unfolding samples_along
last_remembered r g values current end distance samples d e f =
    record { holds = λ n. ap (value_along r g values) d ∙ last_of _ _ _ _ (sym e ∙ f) }

pub carried_kept : (r : Ray) (g : Grid) (values : List Float) (known : Known) (step : Step) → Remembered r g values known → Carries known
    step → Kept r g values step
carried_kept r g values known step m ends = ended
carried_kept r g values known step m goes = going m

goes_remembered : (r : Ray) (g : Grid) (values : List Float) (next : Float) (known : Known) → Kept r g values (On next known) → Remembered r
    g values known
goes_remembered r g values next known (going m) = m

pub kept_remembered : (r : Ray) (g : Grid) (values : List Float) (step : Step) (next : Float) (known : Known)
    → Kept r g values step → step ≡ On next known → Remembered r g values known
kept_remembered r g values step next known k e = goes_remembered r g values next known (subst (Kept r g values) e k)
