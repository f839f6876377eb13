-- The measure of `print::put_digits`: the digits that are left. Assumes nothing.
use Rattle.print.proofs.+put_digits.Given as goal

abbrev pub decreases-put_digits : goal.decreases-put_digits
decreases-put_digits l = l.k
