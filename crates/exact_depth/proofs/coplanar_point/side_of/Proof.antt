-- `exact_depth::coplanar_point::side_of` meets its contract. Assumes nothing.
use mir.Syntax.{w64}
use mir.Val.{SFits}
use Rattle.exact_depth.specs.FirstPoint.{side_of}
use Rattle.wide_integers.proofs.Reading.{plain, fits, held_fit, sub-fits, sub_read}
use Rattle.exact_depth.proofs.Laws.{determinant_back}
use borrow.Author.Rules.{rules}
use Rattle.exact_depth.proofs.coplanar_point.side_of.Statement.{statement}
use Rattle.exact_depth.proofs.coplanar_point.side_of.Tie as tie

sub-t4 : tie.Need-overflow_sub-result
sub-t4 c =
    let s : tie.Start = search in
    let h = s.requires.0.u in
    let g = s.requires.1.u in
    sub-fits (plain (held_fit h)) (plain (held_fit g)) h g

returns : tie.Need-returns
unfolding side_of
returns c =
    let (s, t) : tie.Start × tie.After-determinant = search in
    let h = s.requires.0.u in
    let g = s.requires.1.u in
    let p : SFits w64 s.args.p.depth = search rules in
    let q : SFits w64 s.args.q.depth = search rules in
    λ i. record {
      level = determinant_back (fits (held_fit h)) p (fits (held_fit g)) q t.determinant.ensures i;
      fall = sub_read (plain (held_fit h)) (plain (held_fit g)) h g i;
    }

pub side_of_spec : {M : Type 1} → statement M
side_of_spec =
    tie.close
    (tie.spec
    (search rules)  -- determinant-requires
    sub-t4
    returns)
