-- `wide_integers::words::split_sign` meets its contract. Assumes nothing.
use Rattle.std.proofs.Common.{◌≡◌, sym, subst, arith, w64, SFits}
use mir.ValLaws.{to_z-of_z}
use Rattle.wide_integers.proofs.Reading.{bits}
use Rattle.wide_integers.proofs.WordLaws.{Negative, negative, other_fits, other_size, other_cast, negative_split_sign, not_negative}
use Rattle.wide_integers.proofs.WordLaws.{positive_split_sign}
use Rattle.wide_integers.proofs.words.split_sign.Statement.{statement}
use Rattle.wide_integers.proofs.words.split_sign.Tie as tie

-- what the machine reads back is the number
plain : (s : tie.Start) → bits s.args.x ≡ s.args.x
plain s = to_z-of_z w64 s.args.x s.ranges.x

plain_fits : (s : tie.Start) → SFits w64 (bits s.args.x)
plain_fits s = subst (SFits w64) (sym (plain s)) s.ranges.x

known : (t : tie.Then-x-lt0) → Negative (bits t.args.x)
known t = negative _ (plain_fits t.before) t.if-x-lt0.true

sub-t3 : tie.Need-overflow_sub-result
sub-t3 c = other_fits _ (known c)

cast-t4 : tie.Need-overflow_cast-result
cast-t4 c = other_cast _ (known c)

sub-t5 : tie.Need-overflow_sub-result-then-x-lt0
sub-t5 c = omega (arith, other_size _ (known c), (known c).small)

returns : tie.Need-returns-then-x-lt0
returns c = negative_split_sign _ (known c) _ (plain c.before)

cast-t6 : tie.Need-overflow_cast-result-2
cast-t6 c = not_negative _ (plain_fits c.before) c.if-x-lt0.false

returns-2 : tie.Need-returns
returns-2 c = positive_split_sign _ _ (plain_fits c.before) (plain c.before) c.if-x-lt0.false

pub split_sign_spec : {M : Type 1} → statement M
split_sign_spec = tie.close (tie.spec
    sub-t3
    cast-t4
    sub-t5
    returns
    cast-t6
    returns-2)
