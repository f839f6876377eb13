-- `vectors::course::over` meets its contract. Assumes nothing.
use mathlib.Core.Path.{refl}
use Rattle.vectors.specs.Courses.{vector_is}
use Rattle.vectors.proofs.course.over.Goals as goal

pub returns : goal.returns
unfolding vector_is
returns c = refl
