-- `nfp_sliding::trace::follow` meets its contract: the run from the start is the trace. Assumes nothing.
use native.Mathlib.Omega.{arith}
use Rattle.nfp_sliding.proofs.Traced.{sides, followed}
use Rattle.nfp_sliding.proofs.trace.follow.Goals as goal

pub find_start_position-start-requires : goal.find_start_position-start-requires
find_start_position-start-requires c =
    let r = c.requires in
    (omega (arith, r.st_least), omega (arith, r.orb_least))

pub put-requires : goal.put-requires
put-requires c = omega (arith, c.requires.room)

pub fill-requires : goal.fill-requires
fill-requires c = omega (arith, c.requires.st_most)

pub fill-requires-2 : goal.fill-requires-2
fill-requires-2 c = omega (arith, c.requires.orb_most)

pub slice_bounds-run-end : goal.slice_bounds-run-end
slice_bounds-run-end c = omega (arith, c.fill.auto.room)

pub slice_bounds-run-end-2 : goal.slice_bounds-run-end-2
slice_bounds-run-end-2 c = omega (arith, c.fill-2.auto.room)

pub run-requires : goal.run-requires
run-requires c =
    let r = c.requires in
    record { orbiting_len = r.orb_even; orbiting_len_bound = (r.orb_most, omega (arith, r.orb_most)); sides = sides r; directed = (c.fill.ensures, c.fill-2.ensures); stored_in_bounds = omega (arith, r.room, c.put.auto.room); limit_bound = r.limit }

pub returns : goal.returns
returns c = record { value = (followed _ _ _ _ c.requires.room c.find_start_position-start.ensures c.centroid-middle.ensures c.put.ensures c.run.ensures.value c.run.ensures.room_after).0; work_after = (followed _ _ _ _ c.requires.room c.find_start_position-start.ensures c.centroid-middle.ensures c.put.ensures c.run.ensures.value c.run.ensures.room_after).1 }
