use Prim.Native.Nat.{ℕ, ◌<◌}
use mathlib.Core.Path.{◌≡◌}
use lib.Ieee.{nan}
use lib.ListN.{length, get_or}
use Rattle.reading.specs.Reading.{ord}
use Rattle.reading.specs.Lent.{kept}
use Rattle.reading.proofs.fill.Given as goal

abbrev pub invariant-loop-i : goal.invariant-loop-i
invariant-loop-i l =
    (length l.room ≡ length l.initial.room) × ((m : ℕ) → m < l.i → get_or l.room m 0 ≡ ord (kept (get_or l.ring m nan)))
