-- `reason_search::either_way` meets its contract: case by case. Assumes nothing.
use native.Mathlib.Omega.{arith}
use Rattle.reason_search.specs.Lines.{either_way}
use Rattle.reason_search.proofs.WayLines.{turned_line}
use Rattle.reason_search.proofs.either_way.Goals as goal

pub returns-then-c-eq0 : goal.returns-then-c-eq0
unfolding either_way
returns-then-c-eq0 c = rw c.if-c-eq0.true

pub returns-else-c-eq0 : goal.returns-else-c-eq0
returns-else-c-eq0 c = turned_line _ _ _ (omega (arith, c.if-c-eq0.false))
