-- `segments::sign` meets its contract: one comparison after the other. Assumes nothing.
use Rattle.segments.specs.Segments.{sign_of}
use Rattle.segments.proofs.sign.Goals as goal

pub returns-then-cross : goal.returns-then-cross
unfolding sign_of
returns-then-cross c = rw c.if-cross.true

pub returns-then-cross-2 : goal.returns-then-cross-2
unfolding sign_of
returns-then-cross-2 c = rw (c.if-cross.false, c.if-cross-2.true)

pub returns-else-cross-2 : goal.returns-else-cross-2
unfolding sign_of
returns-else-cross-2 c = rw (c.if-cross.false, c.if-cross-2.false)
