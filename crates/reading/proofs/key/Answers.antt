-- `reading::key` meets its contract: the two tests of `ord`. Assumes nothing.
use borrow.Author.Rules.{rules}
use mathlib.Core.Path.{sym}
use Rattle.reading.proofs.Order.{ord_low, ord_high}
use Rattle.reading.proofs.key.Goals as goal

pub returns-then-b-lt9223372036854775808 : goal.returns-then-b-lt9223372036854775808
returns-then-b-lt9223372036854775808 c = sym (ord_low c.args.b c.if-b-lt9223372036854775808.true)

pub returns-else-b-lt9223372036854775808 : goal.returns-else-b-lt9223372036854775808
returns-else-b-lt9223372036854775808 c = sym (ord_high c.args.b c.if-b-lt9223372036854775808.false (search rules))
