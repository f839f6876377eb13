-- `grounds::one_more` meets its contract: by the test. Assumes nothing.
use native.Mathlib.Nat.{add-zero}
use Rattle.grounds.proofs.one_more.Goals as goal

pub returns-then-passes : goal.returns-then-passes
returns-then-passes c = rw c.if-passes.true

pub returns-else-passes : goal.returns-else-passes
returns-else-passes c = rw (c.if-passes.false, add-zero)
