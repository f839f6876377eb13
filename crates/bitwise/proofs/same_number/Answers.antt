-- `bitwise::same_number` meets its contract: what has the same bits is the same. Assumes nothing.
use mathlib.Core.Path.{sym, subst}
use lib.Dec.{T}
use Rattle.bitwise.proofs.Bits.{same_bits, no_nan}
use Rattle.bitwise.proofs.same_number.Goals as goal

pub float_to_bits-result : goal.float_to_bits-result
float_to_bits-result c = no_nan _ c.if-a.true

pub float_to_bits-result-then-b : goal.float_to_bits-result-then-b
float_to_bits-result-then-b c = no_nan _ c.if-b.true

pub returns-then-b : goal.returns-then-b
returns-then-b c =
    same_bits _ _ (subst T (sym c.well_formed.0.1) tt) (subst T (sym c.well_formed.1.0.1) tt)

pub returns : goal.returns
returns c = λ h. cc
