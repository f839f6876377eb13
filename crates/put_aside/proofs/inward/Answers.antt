-- `put_aside::inward` meets its contract: one comparison after the other. Assumes nothing.
use borrow.Author.Tests.{lt-ltb, le-ltb}
use Rattle.put_aside.specs.Aside.{inward}
use Rattle.put_aside.proofs.inward.Goals as goal

pub returns-then-c-w : goal.returns-then-c-w
unfolding inward
returns-then-c-w c = rw (lt-ltb _ _ c.if-c-w.true)

pub returns-then-x-w : goal.returns-then-x-w
unfolding inward
returns-then-x-w c = rw (le-ltb _ _ c.if-c-w.false, lt-ltb _ _ c.if-x-w.true)

pub returns-else-x-w : goal.returns-else-x-w
unfolding inward
returns-else-x-w c = rw (le-ltb _ _ c.if-c-w.false, le-ltb _ _ c.if-x-w.false)
