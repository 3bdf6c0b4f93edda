-- Each call of itself writes one digit fewer.
use Rattle.record_text.proofs.text.+put_digits.Given as goal

abbrev pub decreases-put_digits : goal.decreases-put_digits
decreases-put_digits l = l.k
