use mathlib.Core.Path.{◌≡◌}
use Rattle.shifted.specs.Shifted.{spot_at}
use Rattle.reason_search.specs.Lines.{box_low, box_high}
use Rattle.reason_search.proofs.box_of.Given as goal

abbrev pub invariant-loop-i : goal.invariant-loop-i
invariant-loop-i l =
    (l.low ≡ box_low (spot_at l.a) (spot_at l.b) l.i) × (l.high ≡ box_high (spot_at l.a) (spot_at l.b) l.i)
