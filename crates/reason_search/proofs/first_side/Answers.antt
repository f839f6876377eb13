-- `reason_search::first_side` meets its contract. The invariant: the sides from c on decide. Assumes nothing.
use native.Mathlib.Omega.{arith}
use Rattle.reasons.proofs.First.{start, turn, here, end}
use Rattle.reason_search.proofs.Boxes.{made_small, beside_is}
use Rattle.reason_search.proofs.Below.{some_is, none_is}
use Rattle.reason_search.proofs.first_side.Goals as goal

pub loop-c-init : goal.loop-c-init
loop-c-init c = start _ _

pub edge_right-requires : goal.edge_right-requires
edge_right-requires c =
    let p = c.requires in
    let f = made_small _ _ _ p.0 p.1 c.side-k.ensures in
    (f.0, f.1, p.2, p.3)

pub returns-then-edge_right : goal.returns-then-edge_right
returns-then-edge_right c =
    let e = beside_is _ _ _ _ _ c.side-k.ensures c.edge_right.ensures in
    some_is _ _ c.loop-c-test.true (here _ _ c.loop-c.invariant c.loop-c-test.true e c.if-edge_right.true)

pub loop-c-preserved : goal.loop-c-preserved
loop-c-preserved c =
    let e = beside_is _ _ _ _ _ c.side-k.ensures c.edge_right.ensures in
    turn _ _ c.loop-c.invariant c.loop-c-test.true e c.if-edge_right.false

pub returns : goal.returns
returns c = none_is _ _ (omega (arith, end _ _ c.loop-c.invariant c.loop-c-test.false))
