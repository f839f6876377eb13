-- `vectors::course::over_vertex` meets its contract. Assumes nothing.
use borrow.Author.Tests.{eq-eqb, ne_eqb}
use mathlib.Core.Path.{refl, ◌∙◌}
use Rattle.plane.specs.Vector.{distance_of}
use Rattle.vectors.specs.Vectors.{edge_vertex}
use Rattle.vectors.proofs.course.over_vertex.Goals as goal

pub returns-then-side-eq0 : goal.returns-then-side-eq0
unfolding edge_vertex distance_of
returns-then-side-eq0 c =
    c.over.ensures ∙ rw (eq-eqb _ _ c.if-side-eq0.true, c.minus.ensures, c.opposite.ensures, c.requires) refl

pub returns : goal.returns
unfolding edge_vertex distance_of
returns c =
    c.over-2.ensures ∙ rw (ne_eqb _ _ c.if-side-eq0.false, c.minus-2.ensures, c.requires) refl
