-- `wide_integers::guess::two_to` meets its contract. Assumes nothing.
use Rattle.wide_integers.proofs.GuessLaws.{power_word}
use Rattle.wide_integers.proofs.guess.two_to.Goals as goal

pub returns : goal.returns
returns c = power_word c.args.g c.requires
