-- `ring_copies::open_count` meets its contract: the tests say which case holds. Assumes nothing.
use native.Mathlib.Omega.{arith}
use Rattle.ring_copies.proofs.Opening.{few, repeated, whole}
use Rattle.ring_copies.proofs.open_count.Goals as goal

pub returns-then-n-le3 : goal.returns-then-n-le3
returns-then-n-le3 c = few _ c.if-n-le3.true

pub returns-then-same : goal.returns-then-same
returns-then-same c =
    repeated _ (omega arith) (rw (← c.point_at.ensures, ← c.point_at-2.ensures, ← c.same.ensures) c.if-same.true)

pub returns-else-same : goal.returns-else-same
returns-else-same c =
    whole _ (omega arith) (rw (← c.point_at.ensures, ← c.point_at-2.ensures, ← c.same.ensures) c.if-same.false)
