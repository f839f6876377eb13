-- `vectors::course::is_below` meets its contract: a sum is not below what its first part is not below. Assumes nothing.
use borrow.Author.Tests.{eq-eqb, ne_eqb}
use mathlib.Core.Path.{refl, sym, ◌∙◌, subst}
use lib.Dec.{T}
use Rattle.vectors.specs.Courses.{vector_is}
use Rattle.vectors.proofs.Lengths.{both_far, length_plain}
use Rattle.vectors.proofs.course.is_below.Goals as goal

pub returns-then-course-eq1 : goal.returns-then-course-eq1
unfolding vector_is
returns-then-course-eq1 c = rw (eq-eqb _ _ c.if-course-eq1.true) c.is_shorter.ensures

pub returns-then-is_shorter : goal.returns-then-is_shorter
unfolding vector_is
returns-then-is_shorter c =
    rw (ne_eqb _ _ c.if-course-eq1.false, c.length-then-is_shorter.ensures, c.length.ensures) refl

pub returns-else-is_shorter : goal.returns-else-is_shorter
unfolding vector_is
returns-else-is_shorter c =
    rw (ne_eqb _ _ c.if-course-eq1.false) (sym (both_far _ _ _ (subst T (sym c.well_formed.1.0.1) tt) (sym c.is_shorter-2.ensures ∙ c.if-is_shorter.false) (length_plain _)))
