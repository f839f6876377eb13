use Prim.Native.Nat.{◌+◌, ◌*◌}
use mathlib.Core.Path.{◌≡◌}
use lib.ListN.{length, drop}
use lib.Seq.{sets}
use Rattle.wkb_layout.specs.Layout.{number_bytes}
use Rattle.wkb_writer.proofs.Storing.{numbers}
use Rattle.wkb_writer.proofs.store.put_numbers.Given as goal

abbrev pub invariant-loop-j : goal.invariant-loop-j
invariant-loop-j l =
    (length l.room ≡ length l.initial.room)
    × (sets l.initial.room l.at (numbers l.xs) ≡ sets l.room (l.at + number_bytes * l.j) (numbers (drop l.j l.xs)))
