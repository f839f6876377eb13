-- `reason_search::first_helping` meets its contract: without the notes for the first edges that ask, and then with them. Assumes
-- nothing.
use native.Mathlib.Omega.{arith}
use Rattle.reason_search.proofs.Flags.{asked}
use Rattle.reason_search.proofs.first_helping.Goals as goal

pub returns-then-asked-lt8 : goal.returns-then-asked-lt8
returns-then-asked-lt8 c = record { value = c.first_unnoted.ensures; ready = asked c.args.flags.now _ (omega (arith, c.if-asked-lt8.true)) c.requires.0 }
