-- `put_aside::gone` meets its contract: one comparison. Assumes nothing.
use borrow.Author.Tests.{lt-ltb, le-ltb}
use Rattle.put_aside.specs.Aside.{gone}
use Rattle.put_aside.proofs.gone.Goals as goal

pub returns-then-sum-minus : goal.returns-then-sum-minus
unfolding gone
returns-then-sum-minus c = rw (lt-ltb _ _ c.if-sum-minus.true)

pub returns-else-sum-minus : goal.returns-else-sum-minus
unfolding gone
returns-else-sum-minus c = rw (le-ltb _ _ c.if-sum-minus.false)
