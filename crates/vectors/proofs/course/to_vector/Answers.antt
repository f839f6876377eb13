-- `vectors::course::to_vector` meets its contract: by how many gaps there are. Assumes nothing.
use borrow.Author.Tests.{eq-eqb, ne_eqb}
use mathlib.Core.Path.{refl}
use Rattle.vectors.specs.Courses.{vector_is}
use Rattle.vectors.proofs.course.to_vector.Goals as goal

pub returns-then-course-eq1 : goal.returns-then-course-eq1
unfolding vector_is
returns-then-course-eq1 c = rw (eq-eqb _ _ c.if-course-eq1.true, c.length-first.ensures) refl

pub returns : goal.returns
unfolding vector_is
returns c =
    rw (ne_eqb _ _ c.if-course-eq1.false, c.length-second.ensures, c.length-first.ensures) refl
