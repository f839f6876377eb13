-- `clear_move::shared::has_before` meets its contract: none before the first, else that one. Assumes nothing.
use Rattle.std.proofs.Common.{arith}
use Rattle.clear_move.proofs.Shares.{none_before, before_is}
use Rattle.clear_move.proofs.shared.has_before.Goals as goal

pub returns-then-k-eq0 : goal.returns-then-k-eq0
returns-then-k-eq0 c = none_before _ 0 _ _ c.if-k-eq0.true

pub returns : goal.returns
returns c = before_is _ 0 _ _ (omega (arith, c.if-k-eq0.false)) c.has.ensures
