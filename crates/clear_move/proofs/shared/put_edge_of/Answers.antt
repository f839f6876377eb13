-- `clear_move::shared::put_edge_of` meets its contract: a run begins, goes on, or ends. Assumes nothing.
use Rattle.std.proofs.Common.{arith}
use Rattle.print.proofs.Puts.{empty, reads}
use Rattle.clear_move.proofs.Runs.{run_starts, run_goes, run_ends}
use Rattle.clear_move.proofs.shared.put_edge_of.Goals as goal

pub returns-then-not-has_before : goal.returns-then-not-has_before
returns-then-not-has_before c =
    (reads (run_starts _ _ _ _ c.has_before.ensures c.if-not-has_before.true) c.put_start.ensures.0, c.put_start.ensures.1)

pub returns-then-has_after : goal.returns-then-has_after
returns-then-has_after c =
    let e = run_goes _ _ _ _ c.has_before.ensures c.if-not-has_before.false c.has_after.ensures c.if-has_after.true in
    (reads e (empty _ _), omega arith)

pub returns : goal.returns
returns c =
    let e = run_ends _ _ _ _ c.has_before.ensures c.if-not-has_before.false c.has_after.ensures c.if-has_after.false in
    (reads e c.put_end.ensures.0, c.put_end.ensures.1)
