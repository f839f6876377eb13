-- `vectors::course::over_both` meets its contract. Assumes nothing.
use borrow.Author.Tests.{eq-eqb, ne_eqb}
use mathlib.Core.Path.{refl, ◌∙◌}
use Rattle.plane.specs.Vector.{distance_of}
use Rattle.vectors.specs.Vectors.{edge_edge}
use Rattle.vectors.proofs.course.over_both.Goals as goal

pub returns-then-side-eq0 : goal.returns-then-side-eq0
unfolding edge_edge distance_of
returns-then-side-eq0 c =
    c.over_two.ensures ∙ rw (eq-eqb _ _ c.if-side-eq0.true, c.minus-second.ensures, c.minus-first.ensures, c.requires) refl

pub returns : goal.returns
unfolding edge_edge distance_of
returns c =
    c.over_two-2.ensures ∙ rw (ne_eqb _ _ c.if-side-eq0.false, c.opposite.ensures, c.minus-second.ensures, c.minus-first.ensures, c.requires) refl
