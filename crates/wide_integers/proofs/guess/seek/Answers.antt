-- `wide_integers::guess::seek` meets its contract: what is left after the first digits, raised, is divided again, and the digits are put
-- together.
-- Assumes nothing.
use Rattle.wide_integers.specs.Division.{magnitude}
use Rattle.wide_integers.proofs.GuessLaws.{found_guess}
use Rattle.wide_integers.proofs.guess.seek.Goals as goal

pub returns : goal.returns
returns c =
    found_guess (magnitude c.args.t) (magnitude c.args.d) c.args.first c.two_to-power.result c.args.g c.in_ok-q.q c.two_to-power.ensures
    c.requires.0.1 c.in_ok-rest.ensures c.in_ok-n.ensures c.in_ok-q.ensures
    c.if-word-lt4503599627370496.false
    c.if-word-gt9007199254740991.false c.args.k c.assembled.result c.assembled.ensures
