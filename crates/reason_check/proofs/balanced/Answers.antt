-- `reason_check::balanced` meets its contract. The invariant: the marks of the first j edges are counted. Assumes nothing.
use Rattle.reason_check.proofs.Marks.{start, turn, done}
use Rattle.reason_check.proofs.Corners.{first_end, second_end}
use Rattle.reason_check.proofs.balanced.Goals as goal

pub loop-j-init : goal.loop-j-init
loop-j-init c = start _ _ _ _ _

pub loop-j-preserved : goal.loop-j-preserved
loop-j-preserved c =
    let st = c.args.st.now in
    turn _ _ _ _ _ c.loop-j.invariant c.loop-j-test.true c.spot_at-p.ensures c.spot_at-q.ensures
    (first_end st _ c.loop-j-test.true c.spot_at-s.ensures)
    (second_end st _ c.next.ensures.0 c.spot_at-t.ensures) c.mark-up.ensures c.mark-down.ensures

pub returns : goal.returns
returns c = done _ _ _ _ _ c.loop-j.invariant c.loop-j-test.false
