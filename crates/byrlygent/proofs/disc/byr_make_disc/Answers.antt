-- `byrlygent::disc::byr_make_disc` meets its contract: the call's answer, handed over. Assumes nothing.
use Rattle.handed.proofs.Told.{number_told}
use Rattle.byrlygent.proofs.disc.byr_make_disc.Goals as goal

pub returns : goal.returns
returns c =
    let h = c.hand_count.ensures in
    record { value = number_told c.make_disc.ensures.result_value h.0 c.refusal_number.ensures; vertices_after = rw (← c.make_disc.ensures.result_value) h.1; room_after = c.make_disc.ensures.room_after }
