-- `clear_move::shared::same_line` meets its contract: four numbers, one after the other. Assumes nothing.
use Rattle.clear_move.proofs.Shares.{off, off_2, off_3, last_one}
use Rattle.clear_move.proofs.shared.same_line.Goals as goal

pub returns-then-not-is_same : goal.returns-then-not-is_same
returns-then-not-is_same c = off _ _ _ c.is_same.ensures c.if-not-is_same.true

pub returns-then-not-is_same-2 : goal.returns-then-not-is_same-2
returns-then-not-is_same-2 c = off_2 _ _ _ c.is_same.ensures c.if-not-is_same.false c.is_same-2.ensures c.if-not-is_same-2.true

pub returns-then-not-is_same-3 : goal.returns-then-not-is_same-3
returns-then-not-is_same-3 c =
    off_3 _ _ _ c.is_same.ensures c.if-not-is_same.false c.is_same-2.ensures c.if-not-is_same-2.false
    c.is_same-3.ensures c.if-not-is_same-3.true

pub returns : goal.returns
returns c =
    last_one _ _ _ c.is_same.ensures c.if-not-is_same.false c.is_same-2.ensures c.if-not-is_same-2.false
    c.is_same-3.ensures c.if-not-is_same-3.false c.is_same-4.ensures
