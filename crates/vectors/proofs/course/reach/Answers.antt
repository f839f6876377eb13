-- `vectors::course::reach` meets its contract: what is 1.5 or longer reaches 1.0. Assumes nothing.
use borrow.Author.Tests.{eq-eqb, ne_eqb}
use mathlib.Core.Path.{◌≡◌, refl, sym}
use mathlib.Core.Bool.{Bool, true, false, cond}
use lib.Dec.{eqb}
use lib.Ieee.{binary64, lt}
use lib.Ieee.Bits.{of_bits-fits}
use Rattle.scalar.specs.Float.{◌⊕◌}
use Rattle.plane.specs.Vector.{length_of}
use Rattle.vectors.specs.declared.course.Course.{Course}
use Rattle.vectors.specs.Courses.{f1·5, vector_is}
use Rattle.vectors.proofs.FarOne.{far_one}
use Rattle.vectors.proofs.Lengths.{both_far, length_plain}
use Rattle.vectors.proofs.course.reach.Goals as goal

-- where the first gap is long the distance is, be it the length of one or of two
long : (k : Course) → lt (length_of k.first) f1·5 ≡ false → lt (vector_is k).distance f1·5 ≡ false
unfolding vector_is
long k h = by (eqb k.gaps 1)
  where
    by : (b : Bool) → lt (cond b (length_of k.first) (length_of k.first ⊕ length_of k.second)) f1·5 ≡ false
    by true = h
    by false = both_far f1·5 _ _ (of_bits-fits binary64 0x3ff8_0000_0000_0000) h (length_plain k.second)

pub returns-then-is_long : goal.returns-then-is_long
returns-then-is_long c = sym (far_one _ (long _ (c.is_long.ensures c.if-is_long.true)))

pub returns-then-course-eq1 : goal.returns-then-course-eq1
unfolding vector_is
returns-then-course-eq1 c = rw (c.smaller.ensures, c.length.ensures, eq-eqb _ _ c.if-course-eq1.true) refl

pub returns : goal.returns
unfolding vector_is
returns c =
    rw (c.smaller-2.ensures, c.length-3.ensures, c.length-2.ensures, ne_eqb _ _ c.if-course-eq1.false) refl
