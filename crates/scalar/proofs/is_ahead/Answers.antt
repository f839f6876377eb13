-- `scalar::is_ahead` meets its contract, test by test. Assumes nothing.
use mathlib.Core.Path.{sym, ◌∙◌}
use Rattle.scalar.proofs.Cases.{ahead_less, ahead_zeros, ahead_none}
use Rattle.scalar.proofs.is_ahead.Goals as goal

pub returns-then-a-b : goal.returns-then-a-b
returns-then-a-b c = c.if-a-b.true ∙ ahead_less _ _ c.if-a-b.true

pub returns-then-is_minus_zero : goal.returns-then-is_minus_zero
returns-then-is_minus_zero c =
    ahead_zeros _ _ c.if-a-b.false (sym c.if-is_minus_zero.true ∙ c.is_minus_zero.ensures) c.is_minus_zero-then-is_minus_zero.ensures

pub returns-else-is_minus_zero : goal.returns-else-is_minus_zero
returns-else-is_minus_zero c =
    c.if-is_minus_zero.false ∙ ahead_none _ _ c.if-a-b.false (sym c.if-is_minus_zero.false ∙ c.is_minus_zero.ensures)
