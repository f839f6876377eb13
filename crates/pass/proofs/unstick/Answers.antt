-- `pass::unstick` meets its contract: fewer than three times before is not more than three with this. Assumes nothing.
use native.Mathlib.Omega.{arith}
use mathlib.Core.Path.{refl}
use Rattle.pass.specs.Pass.{unstick_of, interlocked}
use Rattle.pass.proofs.Cases.{few, often}
use Rattle.pass.proofs.unstick.Goals as goal

pub overflow_add-result : goal.overflow_add-result
overflow_add-result c = omega (arith, c.if-stuck-lt3.true)

pub returns-in-None : goal.returns-in-None
unfolding unstick_of interlocked
returns-in-None c =
    rw (few _ c.if-stuck-lt3.true, ← c.detect_interlocking_opportunity.ensures, c.in-None.is) refl

pub returns-then-is_far : goal.returns-then-is_far
unfolding unstick_of interlocked
returns-then-is_far c =
    rw (few _ c.if-stuck-lt3.true, ← c.detect_interlocking_opportunity.ensures, c.in-Some.is, ← c.is_far.ensures, c.if-is_far.true) refl

pub returns-else-is_far : goal.returns-else-is_far
unfolding unstick_of interlocked
returns-else-is_far c =
    rw (few _ c.if-stuck-lt3.true, ← c.detect_interlocking_opportunity.ensures, c.in-Some.is, ← c.is_far.ensures, c.if-is_far.false) refl

pub returns-else-stuck-lt3 : goal.returns-else-stuck-lt3
unfolding unstick_of
returns-else-stuck-lt3 c = rw (often _ c.if-stuck-lt3.false) refl
