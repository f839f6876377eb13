-- `contacts::rows::aligned` meets its contract. Assumes nothing.
use mathlib.Core.Path.{refl}
use Rattle.contacts.proofs.Rowing.{start_far, end_far, both_near}
use Rattle.contacts.proofs.rows.aligned.Goals as goal

pub returns-then-ends : goal.returns-then-ends
returns-then-ends c =
    both_near _ _ _ _ _ _ c.if-starts.true c.if-ends.true (rw (c.edges_parallel.ensures, c.minus-then-ends.ensures, c.minus.ensures) refl)

pub returns-else-ends : goal.returns-else-ends
returns-else-ends c = end_far _ _ _ _ _ _ c.if-starts.true c.if-ends.false

pub returns-else-starts : goal.returns-else-starts
returns-else-starts c = start_far _ _ _ _ _ _ c.if-starts.false
