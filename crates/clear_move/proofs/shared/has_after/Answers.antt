-- `clear_move::shared::has_after` meets its contract: none after the last, else that one. Assumes nothing.
use Rattle.clear_move.proofs.Shares.{after_is, none_after}
use Rattle.clear_move.proofs.shared.has_after.Goals as goal

pub returns-then-k-m : goal.returns-then-k-m
returns-then-k-m c = after_is _ _ _ _ c.if-k-m.true c.has.ensures

pub returns : goal.returns
returns c = none_after _ _ _ _ c.if-k-m.false
