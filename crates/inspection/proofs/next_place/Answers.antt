-- `inspection::next_place` meets its contract: one on, or round. Assumes nothing.
use Rattle.inspection.proofs.Places.{one_on, round}
use Rattle.inspection.proofs.next_place.Goals as goal

pub returns-then-place-n : goal.returns-then-place-n
returns-then-place-n c = one_on _ _ c.if-place-n.true

pub returns-else-place-n : goal.returns-else-place-n
returns-else-place-n c = round _ _ c.if-place-n.false
