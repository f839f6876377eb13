-- `nfp_sliding::calls::compute_nfp_sliding` meets its contract: the tests, then the trace and what it came to. Assumes nothing.
use native.Mathlib.Omega.{arith}
use lib.ListN.{length}
use Rattle.std.proofs.lemmas.Result.{err_from_is_err_and}
use Rattle.nfp_sliding.proofs.Traced.{stored_fit, lent_ready, goes, stops}
use Rattle.nfp_sliding.proofs.calls.compute_nfp_sliding.Goals as goal

pub trace-end-requires : goal.trace-end-requires
trace-end-requires c =
    let a = c.args in
    (lent_ready a.stationary.now a.orbiting.now a.settings (length a.work.now) (length a.res.now) (rw (← c.in_ok-tracing.ensures))).0

pub finish-requires : goal.finish-requires
finish-requires c =
    let a = c.args in
    let r = lent_ready a.stationary.now a.orbiting.now a.settings (length a.work.now) (length a.res.now) (rw (← c.in_ok-tracing.ensures)) in
    record { stored_in_bounds = stored_fit _ _ _ a.work.now r.0.room c.trace-end.ensures.value c.trace-end.ensures.work_after; work_in_bounds = omega (arith, r.1, c.trace-end.auto.work) }

pub returns-in_err-tracing : goal.returns-in_err-tracing
returns-in_err-tracing c =
    let a = c.args in
    let p = err_from_is_err_and c.from_residual.result c.from_residual.ensures.1 in
    rw (p.1, p.2) (stops a.stationary.now a.orbiting.now a.settings a.work.now a.res.now c.in_err-tracing.field-0.0 c.in_err-tracing.ensures)

pub returns : goal.returns
returns c =
    let a = c.args in
    goes a.stationary.now a.orbiting.now a.settings a.work.now a.res.now c.finish.result c.in_ok-tracing.ensures c.trace-end.ensures.value c.trace-end.ensures.work_after c.finish.ensures.result_value c.finish.ensures.res_after
