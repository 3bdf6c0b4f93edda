-- The heights nearest to the box's lower side are f64 where the ray's and both slices' numbers are. Assumes nothing.
use Prim.Native.Nat.{ℕ, zero, suc}
use mathlib.Core.Path.{◌≡◌, refl, sym, subst}
use mathlib.Core.Logic.{⊎_elim}
use mathlib.Core.Bool.{Bool, true, false}
use mathlib.Core.List.{List, [], ◌∷◌}
use lib.Dec.{T}
use lib.Ieee.{Float, binary64, nan, fits}
use lib.Ieee.Fits.{nan-fits, add-fits}
use lib.ListN.{get_or}
use Rattle.arithmetic.proofs.ExtremesOrder.{minimum_one}
use Rattle.vectors.specs.Vector.{add_of, min_of}
use Rattle.geometry.specs.Segment.{segment_end, segment_box}
use Rattle.geometry.specs.declared.ray.Ray.{Ray}
use Rattle.height_ranges.specs.Ranges.{nearest_heights}
use Rattle.arithmetic.proofs.Clamps.{clamp_one}

abbrev pub Double : Float → Type 0
Double x = fits binary64 x ≡ true

-- as a slice's type says it of each number
pub double : (x : Float) → T (fits binary64 x) → Double x
double x = is_true (fits binary64 x)
  where
    is_true : (b : Bool) → T b → b ≡ true
    is_true true h = refl
    is_true false h = absurd h

abbrev pub Doubles : List Float → Type 0
Doubles xs = (node : ℕ) → Double (get_or xs node nan)

-- what the types of the ray and of both slices say
pub record Typed (r : Ray) (lows highs : List Float) : Type 0 where
  pub origin : Double r.origin.z
  pub low_doubles : Doubles lows
  pub high_doubles : Doubles highs

nearest_doubles : (z : Float) (lows highs : List Float) → Double z → Doubles lows → Doubles highs → Doubles (nearest_heights z lows highs)
unfolding nearest_heights
nearest_doubles z [] highs d l h node = double nan (nan-fits binary64)
nearest_doubles z (low ∷ lows) [] d l h node = double nan (nan-fits binary64)
nearest_doubles z (low ∷ lows) (high ∷ highs) d l h zero = clamp_one z low high Double d (l 0) (h 0)
nearest_doubles z (low ∷ lows) (high ∷ highs) d l h (suc node) =
    nearest_doubles z lows highs d (λ (n : ℕ). l (suc n)) (λ (n : ℕ). h (suc n)) node

-- the lower side is the origin's height or the end's, which is a sum
side_double : (r : Ray) → Double r.origin.z → Double (segment_box r).min.z
unfolding segment_box segment_end add_of min_of
side_double r d =
    ⊎_elim (λ e. subst Double (sym e) d) (λ e. subst Double (sym e) (double _ (add-fits binary64 _ _)))
    (minimum_one r.origin.z (segment_end r).z)

pub nearest_fits : (r : Ray) (lows highs : List Float) → Typed r lows highs → Doubles (nearest_heights (segment_box r).min.z lows highs)
nearest_fits r lows highs t =
    nearest_doubles (segment_box r).min.z lows highs (side_double r t.origin) t.low_doubles t.high_doubles
