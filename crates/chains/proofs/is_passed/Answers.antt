-- `chains::is_passed` meets its contract: one corner's test, and then the other's. Assumes nothing.
use Rattle.chains.proofs.Table.{by_least, by_most}
use Rattle.chains.proofs.is_passed.Goals as goal

pub returns-then-aside-far : goal.returns-then-aside-far
returns-then-aside-far c =
    by_least _ _ _ _ c.point_at-far.ensures c.point_at.ensures c.aside.ensures c.if-aside-far.true

pub returns : goal.returns
returns c =
    by_most _ _ _ _ c.point_at-far.ensures c.point_at.ensures c.aside.ensures c.if-aside-far.false c.point_at-2.ensures c.aside-2.ensures
