-- `scalar::is_minus_zero` meets its contract: of the values that equal 0.0 one has the bit pattern 0. Assumes nothing.
use mathlib.Core.Path.{sym, subst, ◌∙◌}
use lib.Dec.{T}
use Rattle.scalar.proofs.Cases.{no_nan, minus_is, no_zero}
use Rattle.scalar.proofs.is_minus_zero.Goals as goal

pub float_to_bits-result : goal.float_to_bits-result
float_to_bits-result c = no_nan _ c.if-x.true

pub returns-then-x : goal.returns-then-x
returns-then-x c = minus_is _ (subst T (sym c.well_formed.0.1) tt) c.if-x.true

pub returns-else-x : goal.returns-else-x
returns-else-x c = c.if-x.false ∙ sym (no_zero _ c.if-x.false)
