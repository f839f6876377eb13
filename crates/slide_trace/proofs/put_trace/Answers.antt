-- `slide_trace::put_trace` meets its contract. Assumes nothing.
use Rattle.std.proofs.Common.{refl}
use Rattle.print.proofs.Puts.{reads}
use Rattle.slide_trace.proofs.Traces.{points_inside, trace_said}
use Rattle.slide_trace.proofs.put_trace.Goals as goal

pub put_answer-requires-clause-in_list : goal.put_answer-requires-clause-in_list
put_answer-requires-clause-in_list c =
    let t = c.compute_nfp_sliding-traced in
    points_inside _ _ _ _ _ t.result _ t.ensures.0 t.ensures.2

pub returns : goal.returns
returns c =
    let t = c.compute_nfp_sliding-traced in
    reads (trace_said _ _ _ _ _ t.result _ t.ensures.0 t.ensures.2 refl refl) c.put_answer.ensures
