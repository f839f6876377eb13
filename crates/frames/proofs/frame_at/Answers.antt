-- `frames::frame_at` meets its contract. Assumes nothing.
use Rattle.laws.proofs.Order.{lt_irrefl}
use Rattle.frames.proofs.frame_at.Goals as goal

pub returns : goal.returns
returns c = record { not_left = lt_irrefl _; not_right = lt_irrefl _; not_below = lt_irrefl _; not_above = lt_irrefl _ }
