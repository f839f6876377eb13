-- `ring_distance::far::is_chained` meets its contract. Assumes nothing.
use native.Mathlib.Omega.{arith}
use mathlib.Core.Path.{sym}
use mathlib.Core.Bool.{true≢false}
use borrow.Author.Tests.{leb-true}
use Rattle.ring_distance.proofs.far.is_chained.Goals as goal

pub returns-then-m-lt3 : goal.returns-then-m-lt3
returns-then-m-lt3 c = λ h. absurd (true≢false (sym h))

pub returns-then-n-lt16 : goal.returns-then-n-lt16
returns-then-n-lt16 c = λ h. absurd (true≢false (sym h))

pub returns : goal.returns
returns c = λ h. (omega (arith, c.if-n-lt16.false), leb-true _ _ h)
