-- `exact_depth::orientation::limbs_of` meets its contract. Assumes nothing.
use Rattle.exact_depth.proofs.LimbLaws.{part_fits, rest_fits, limbs_read}
use Rattle.exact_depth.proofs.orientation.limbs_of.Statement.{statement}
use Rattle.exact_depth.proofs.orientation.limbs_of.Tie as tie

mul-t3 : tie.Need-overflow_mul-result
mul-t3 c = let s : tie.Start = search in part_fits s.requires

sub-t4 : tie.Need-overflow_sub-result
sub-t4 c = let s : tie.Start = search in rest_fits s.requires

returns : tie.Need-returns
returns c = let s : tie.Start = search in limbs_read s.requires

pub limbs_of_spec : {M : Type 1} → statement M
limbs_of_spec = tie.close (tie.spec mul-t3 sub-t4 returns)
