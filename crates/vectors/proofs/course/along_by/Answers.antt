-- `vectors::course::along_by` meets its contract. Assumes nothing.
use borrow.Author.Tests.{eq-eqb, ne_eqb}
use Rattle.vectors.specs.Courses.{along_by}
use Rattle.vectors.proofs.course.along_by.Goals as goal

pub returns-in-1 : goal.returns-in-1
unfolding along_by
returns-in-1 c = rw (eq-eqb _ _ c.in-1.is) c.direction.ensures

pub returns-in_default : goal.returns-in_default
unfolding along_by
returns-in_default c = rw (ne_eqb _ _ c.in_default.in_default-own.rest.1) c.direction-in_default.ensures
