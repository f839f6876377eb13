-- `wkb_reader::check::order` meets its contract: 0 is big-endian. Assumes nothing.
use borrow.Author.Tests.{eq-eqb, ne_eqb}
use Rattle.wkb_reader.proofs.check.order.Goals as goal

pub returns-in-0 : goal.returns-in-0
returns-in-0 c = rw (eq-eqb _ _ c.in-0.is)

pub returns-in_default : goal.returns-in_default
returns-in_default c = rw (ne_eqb _ _ c.in_default.in_default-own.rest.1)
