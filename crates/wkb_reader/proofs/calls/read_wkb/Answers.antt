-- `wkb_reader::calls::read_wkb` meets its contract: the ring, or the refusal. Assumes nothing.
use lib.ListN.{length}
use Rattle.wkb_reader.proofs.Checked.{reads}
use Rattle.wkb_reader.proofs.calls.read_wkb.Goals as goal

pub load-requires : goal.load-requires
load-requires c =
    let a = c.args in
    let h = reads a.wkb.now (length a.room.now) (rw (← c.in_ok-refusal.ensures)) in
    record { f_value = h.0; f_in_bounds = h.1 }
