-- `reason_search::first_of_way` meets its contract. The invariant: the lines from c on decide. Assumes nothing.
use native.Mathlib.Omega.{arith}
use Rattle.reasons.proofs.First.{start, turn, here, end}
use Rattle.reason_search.proofs.Below.{some_is, none_is}
use Rattle.reason_search.proofs.first_of_way.Goals as goal

pub loop-c-init : goal.loop-c-init
loop-c-init c = start _ _

pub returns-then-helps : goal.returns-then-helps
returns-then-helps c =
    some_is _ _ c.loop-c-test.true (here _ _ c.loop-c.invariant c.loop-c-test.true c.helps.ensures c.if-helps.true)

pub loop-c-preserved : goal.loop-c-preserved
loop-c-preserved c =
    turn _ _ c.loop-c.invariant c.loop-c-test.true c.helps.ensures c.if-helps.false

pub returns : goal.returns
returns c = none_is _ _ (omega (arith, end _ _ c.loop-c.invariant c.loop-c-test.false))
