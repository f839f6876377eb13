-- `interlocking::candidate` meets its contract: one test after the other. Assumes nothing.
use Rattle.interlocking.specs.Interlocking.{candidate_of}
use Rattle.interlocking.proofs.candidate.Goals as goal

pub returns-then-opening-least : goal.returns-then-opening-least
unfolding candidate_of
returns-then-opening-least c =
    rw (← c.is_concave.ensures, c.if-is_concave.true, ← c.opening.ensures, c.if-opening-least.true, c.try_toward.ensures)

pub returns-else-opening-least : goal.returns-else-opening-least
unfolding candidate_of
returns-else-opening-least c =
    rw (← c.is_concave.ensures, c.if-is_concave.true, ← c.opening.ensures, c.if-opening-least.false)

pub returns-else-is_concave : goal.returns-else-is_concave
unfolding candidate_of
returns-else-is_concave c = rw (← c.is_concave.ensures, c.if-is_concave.false)
