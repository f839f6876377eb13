use Rattle.shifted.specs.Shifted.{spot_at}
use Rattle.put_aside.specs.Middle.{level}
use Rattle.put_aside.proofs.Leasts.{Between}
use Rattle.put_aside.proofs.middle_of.Given as goal

abbrev pub invariant-loop-i : goal.invariant-loop-i
invariant-loop-i l =
    Between (λ j. level l.axis l.from l.to (spot_at l.list j)) 16000000000000 l.low l.high l.i
