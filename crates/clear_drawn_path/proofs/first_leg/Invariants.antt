use Prim.Native.Nat.{◌-◌}
use mathlib.Core.Path.{◌≡◌}
use Rattle.clear_drawn_path.specs.Path.{deepened, legs_from}
use Rattle.clear_drawn_path.specs.Lent.{leg_at}
use Rattle.clear_drawn_path.proofs.first_leg.Given as goal

abbrev pub invariant-loop-i : goal.invariant-loop-i
invariant-loop-i l =
    legs_from (leg_at l.st l.disc l.path) 0 l.legs ≡ deepened l.depth (legs_from (leg_at l.st l.disc l.path) l.i (l.legs - l.i))
