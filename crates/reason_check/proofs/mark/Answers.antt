-- `reason_check::mark` meets its contract: the line rises, one end lies at the height or below, the other above. Assumes nothing.
use native.Mathlib.Omega.{arith}
use borrow.Author.Tests.{lt-ltb, le-ltb}
use Rattle.reasons.specs.Reason.{mark}
use Rattle.reason_check.proofs.mark.Goals as goal

pub returns-then-p-q : goal.returns-then-p-q
unfolding mark
returns-then-p-q c = (rw (le-ltb _ _ c.if-p-q.true), omega arith)

pub returns-then-s-h : goal.returns-then-s-h
unfolding mark
returns-then-s-h c = (rw (lt-ltb _ _ c.if-p-q.false, lt-ltb _ _ c.if-s-h.true), omega arith)

pub returns-then-t-h : goal.returns-then-t-h
unfolding mark
returns-then-t-h c =
    (rw (lt-ltb _ _ c.if-p-q.false, le-ltb _ _ c.if-s-h.false, lt-ltb _ _ c.if-t-h.true), omega arith)

pub returns-else-t-h : goal.returns-else-t-h
unfolding mark
returns-else-t-h c =
    (rw (lt-ltb _ _ c.if-p-q.false, le-ltb _ _ c.if-s-h.false, le-ltb _ _ c.if-t-h.false), omega arith)
