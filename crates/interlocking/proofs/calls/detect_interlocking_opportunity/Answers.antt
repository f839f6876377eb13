-- `interlocking::calls::detect_interlocking_opportunity` meets its contract: what the search requires of the orbiting polygon. Assumes nothing.
use mathlib.Core.Path.{refl}
use Rattle.refusals.proofs.Sized.{moving_polygons}
use Rattle.interlocking.proofs.calls.detect_interlocking_opportunity.Goals as goal

pub detect_interlocking_opportunity-requires : goal.detect_interlocking_opportunity-requires
detect_interlocking_opportunity-requires c =
    let p = moving_polygons _ _ _ _ c.in_ok-moving.ensures refl refl in
    record { orbiting_len = p.1.even; orbiting_len_bound = p.1.most }
