-- `reason_search::first_unnoted` meets its contract. The invariant: the lines from c on decide. Assumes nothing.
use native.Mathlib.Omega.{arith}
use Rattle.reasons.proofs.First.{start, turn, here, end}
use Rattle.reason_search.proofs.Below.{some_is, none_is}
use Rattle.reason_search.proofs.first_unnoted.Goals as goal

pub loop-c-init : goal.loop-c-init
loop-c-init c = start _ _

pub returns-then-helps_unnoted : goal.returns-then-helps_unnoted
returns-then-helps_unnoted c =
    some_is _ _ c.loop-c-test.true (here _ _ c.loop-c.invariant c.loop-c-test.true c.helps_unnoted.ensures c.if-helps_unnoted.true)

pub loop-c-preserved : goal.loop-c-preserved
loop-c-preserved c =
    turn _ _ c.loop-c.invariant c.loop-c-test.true c.helps_unnoted.ensures c.if-helps_unnoted.false

pub returns : goal.returns
returns c = none_is _ _ (omega (arith, end _ _ c.loop-c.invariant c.loop-c-test.false))
