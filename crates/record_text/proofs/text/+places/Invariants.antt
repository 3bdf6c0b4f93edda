-- Each call of itself may count one digit fewer.
use Rattle.record_text.proofs.text.+places.Given as goal

abbrev pub decreases-places : goal.decreases-places
decreases-places l = l.most
