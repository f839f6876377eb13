-- `byrlygent::grid::byr_to_grid` meets its contract: the call's answer, handed over. Assumes nothing.
use Rattle.handed.proofs.Told.{number_told, place_told}
use Rattle.byrlygent.proofs.grid.byr_to_grid.Goals as goal

pub returns : goal.returns
returns c =
    let h = c.hand_count.ensures in
    record { fact = (number_told c.to_grid.ensures.result_value h.0 c.hand_refusal.ensures.value, rw (← c.to_grid.ensures.result_value) h.1, place_told c.to_grid.ensures.result_value h.0 _ c.hand_refusal.ensures.place_after); room_after = c.to_grid.ensures.room_after }
