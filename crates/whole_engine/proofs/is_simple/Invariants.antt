use Prim.Native.Nat.{◌-◌}
use mathlib.Core.Path.{◌≡◌}
use Rattle.ring.specs.Each.{each}
use Rattle.shifted.specs.Shifted.{spot_at}
use Rattle.whole_rules.specs.Simple.{whole_clear_row, whole_simple}
use Rattle.whole_engine.proofs.is_simple.Given as goal

abbrev pub invariant-loop-i : goal.invariant-loop-i
invariant-loop-i l = whole_simple (spot_at l.list) l.n ≡ each (whole_clear_row (spot_at l.list) l.n) l.i (l.n - l.i)
