-- `choose::along_at` meets its contract. Assumes nothing.
use borrow.Author.Tests.{eq-eqb, ne_eqb}
use mathlib.Core.Path.{ap, ◌∙◌}
use Rattle.plane.specs.Vector.{normalize_of}
use Rattle.vectors.specs.Vectors.{direction_of}
use Rattle.vectors.specs.Courses.{along_by}
use Rattle.choose.proofs.along_at.Goals as goal

pub returns-in-1 : goal.returns-in-1
unfolding along_by direction_of
returns-in-1 c = rw (eq-eqb _ _ c.in-1.is) (c.unit.ensures ∙ ap normalize_of c.minus.ensures)

pub returns-in_default : goal.returns-in_default
unfolding along_by
returns-in_default c = rw (ne_eqb _ _ c.in_default.in_default-own.rest.1) (c.point_at.ensures ∙ c.requires.stationary_value)
