-- `exact_triangle::cast::wide_reach` meets its contract. Assumes nothing.
use Rattle.std.specs.Prelude.{Option}
use Rattle.exact_depth.specs.declared.wide_depth.WideDepth.{WideDepth}
use Rattle.std.proofs.Common.{ℤ, pos, ◌*ℤ◌, sym, ap, ◌∙◌, subst, lit≤}
use lib.Ieee.{Float}
use Rattle.casts.specs.Reach.{At}
use Rattle.wide_integers.specs.Value.{value}
use Rattle.wide_integers.specs.Division.{fraction_of}
use Rattle.wide_integers.proofs.Reading.{plain, widen, sized_bits}
use Rattle.exact_depth.specs.Answer.{answer_of, Narrow}
use Rattle.exact_triangle.specs.Shear.{gain, in_units, depth_of}
use Rattle.exact_triangle.specs.Reach.{reach_at}
use Rattle.exact_triangle.proofs.cast.wide_reach.Goals as goal

-- a miss
pub returns-in_default : goal.returns-in_default
unfolding depth_of
returns-in_default c =
    λ l h.
    ap (λ (f : Option WideDepth). reach_at (in_units (gain l) (answer_of f))) (sym c.in_default.is)
    ∙ ap (λ z. reach_at (in_units (gain l) z)) (c.depth_of-depth.ensures.1 l h)

pub distance-requires : goal.distance-requires
distance-requires c =
    (subst Narrow c.in-Some.is c.depth_of-depth.ensures.0, sized_bits c.requires.0.gain (lit≤ tt))

-- the first point
pub returns : goal.returns
unfolding depth_of
returns c =
    let at = c.in-Some.at in
    λ l h.
    ap (λ (x : Float). At x) c.distance.ensures
    ∙ ap (λ (z : ℤ). At (fraction_of (value at.t) (value at.w *ℤ z *ℤ pos 32768)))
    (plain (widen c.requires.0.gain (lit≤ tt)) ∙ h.gain)
    ∙ ap (λ (f : Option WideDepth). reach_at (in_units (gain l) (answer_of f))) (sym c.in-Some.is)
    ∙ ap (λ z. reach_at (in_units (gain l) z)) (c.depth_of-depth.ensures.1 l h)
