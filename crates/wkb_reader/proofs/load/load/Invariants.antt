use Prim.Native.Nat.{◌*◌, ◌-◌}
use mathlib.Core.Path.{◌≡◌}
use lib.ListN.{length}
use lib.Seq.{sets}
use Rattle.wkb_reader.proofs.Numbers.{numbers_from}
use Rattle.wkb_reader.proofs.load.load.Given as goal

abbrev pub invariant-loop-j : goal.invariant-loop-j
invariant-loop-j l =
    (length l.room ≡ length l.initial.room)
    × (sets l.initial.room 0 (numbers_from l.f (2 * l.n) 0) ≡ sets l.room l.j (numbers_from l.f (2 * l.n - l.j) l.j))
