-- `wkb_writer::calls::write_wkb` meets its contract: the drawing, or the refusal. Assumes nothing.
use lib.ListN.{length}
use Rattle.wkb_writer.proofs.Screened.{takes}
use Rattle.wkb_writer.proofs.calls.write_wkb.Goals as goal

pub put_drawing-requires : goal.put_drawing-requires
put_drawing-requires c =
    let a = c.args in
    let h = takes a.ring.now (length a.room.now) (rw (← c.in_ok-refusal.ensures)) in
    record { xs_len = (h.0.even, h.0.least, h.0.most); xs_in_bounds = h.1 }
