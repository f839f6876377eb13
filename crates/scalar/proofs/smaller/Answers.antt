-- `scalar::smaller` meets its contract: a NaN is passed over, and else the order decides. Assumes nothing.
use Rattle.scalar.specs.Scalar.{smaller_of}
use Rattle.scalar.proofs.Cases.{first_nan, second_nan, numbers}
use Rattle.scalar.proofs.smaller.Goals as goal

pub returns-then-a : goal.returns-then-a
unfolding smaller_of
returns-then-a c = first_nan _ _ _ c.if-a.true

pub returns-then-b : goal.returns-then-b
unfolding smaller_of
returns-then-b c = second_nan _ _ _ c.if-a.false c.if-b.true

pub returns-then-is_ahead : goal.returns-then-is_ahead
unfolding smaller_of
returns-then-is_ahead c =
    rw (← c.is_ahead.ensures, c.if-is_ahead.true) (numbers _ _ _ c.if-a.false c.if-b.false)

pub returns-else-is_ahead : goal.returns-else-is_ahead
unfolding smaller_of
returns-else-is_ahead c =
    rw (← c.is_ahead.ensures, c.if-is_ahead.false) (numbers _ _ _ c.if-a.false c.if-b.false)
