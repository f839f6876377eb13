-- `mending::fate_at` meets its contract: one test after the other. Assumes nothing.
use mathlib.Core.Path.{◌∙◌}
use native.Mathlib.Omega.{arith}
use borrow.Author.Tests.{le-leb, lt-leb}
use Rattle.mending.proofs.Fates.{fate_first, fate_run, fate_trailing, fate_stays}
use Rattle.mending.proofs.fate_at.Goals as goal

pub returns-then-i-eq0 : goal.returns-then-i-eq0
returns-then-i-eq0 c = fate_first _ _ c.if-i-eq0.true

pub returns-then-same : goal.returns-then-same
returns-then-same c =
    fate_run _ _ c.if-i-eq0.false (rw (← c.point_at.ensures, ← c.point_at-2.ensures, ← c.same.ensures) c.if-same.true)

pub returns-then-end-i : goal.returns-then-end-i
returns-then-end-i c =
    let n = c.if-i-eq0.false in
    fate_trailing _ _ n (rw (← c.point_at.ensures, ← c.point_at-2.ensures, ← c.same.ensures) c.if-same.false) (c.requires.by_index _ (omega arith) ∙ le-leb _ _ c.if-end-i.true)

pub returns-else-end-i : goal.returns-else-end-i
returns-else-end-i c =
    let n = c.if-i-eq0.false in
    fate_stays _ _ n (rw (← c.point_at.ensures, ← c.point_at-2.ensures, ← c.same.ensures) c.if-same.false) (c.requires.by_index _ (omega arith) ∙ lt-leb _ _ c.if-end-i.false)
