-- `reading::kept_bits` meets its contract: a zero, or else its own bits. Assumes nothing.
use mathlib.Core.Path.{sym}
use Rattle.reading.proofs.KeptBits.{kept_zero, kept_own}
use Rattle.reading.proofs.kept_bits.Goals as goal

pub returns-then-x : goal.returns-then-x
returns-then-x c = sym (kept_zero c.args.x c.if-x.true)

pub returns-else-x : goal.returns-else-x
returns-else-x c = sym (kept_own c.args.x c.if-x.false)
