-- `exact_depth::coplanar_point::entering` meets its contract. Assumes nothing.
use mathlib.Core.Path.{◌≡◌, refl}
use mathlib.Core.Bool.{Bool, true, false}
use lib.IntN.{pos}
use lib.Signed.{lt_z}
use Rattle.exact_depth.specs.FirstPoint.{enter_at, entering}
use Rattle.wide_integers.proofs.Reading.{bits, plain, below_read, taken, left}
use Rattle.exact_depth.specs.Answer.{side_as, plane_depth_of}
use borrow.Author.Rules.{rules}
use Rattle.exact_depth.proofs.coplanar_point.entering.Statement.{statement}
use Rattle.exact_depth.proofs.coplanar_point.entering.Tie as tie

falls : (s : tie.Start) (b : Bool) → lt_z (bits s.args.side.fall) (pos 0) ≡ b → lt_z s.args.side.fall (pos 0) ≡ b
falls s b h = below_read {Y = pos 0} (plain s.requires.0.fall) refl h

returns : tie.Need-returns-then-side-lt0
unfolding entering
returns c =
    let (s, e) : tie.Start × tie.Then-side-lt0 = search in
    taken (plane_depth_of s.args.at) (falls s true e.if-side-lt0.true) c.enter_at.ensures

returns-2 : tie.Need-returns
unfolding entering
returns-2 c =
    let s : tie.Start = search in
    left (enter_at (plane_depth_of s.args.at) (side_as s.args.side)) (falls s false c.if-side-lt0.false) refl

pub entering_spec : {M : Type 1} → statement M
entering_spec =
    tie.close
    (tie.spec
    (search rules)  -- enter_at-requires
    returns
    returns-2)
