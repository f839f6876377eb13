-- `byrlygent::sliding::byr_compute_nfp_sliding` meets its contract: the call's answer, handed over. Assumes nothing.
use Rattle.byrlygent.proofs.sliding.byr_compute_nfp_sliding.Goals as goal

pub returns : goal.returns
returns c =
    let e = c.compute_nfp_sliding-traced.ensures in
    let h = c.hand_traced.ensures in
    record { value = rw (← e.0, ← h.0) c.hand_refusal.ensures.value; points_after = rw (← e.0) h.1; stored_after = rw (← e.0) h.2; passes_after = rw (← e.0) h.3; stop_after = rw (← e.0) h.4; place_after = rw (← e.0, ← h.0) c.hand_refusal.ensures.place_after; work_after = e.1; res_after = e.2 }
