use Prim.Native.Nat.{◌+◌, ◌-◌}
use mathlib.Core.Path.{◌≡◌}
use lib.ListN.{length}
use lib.Seq.{sets}
use Rattle.number_bytes.specs.Bytes.{bytes_of}
use Rattle.number_bytes.proofs.put.Given as goal

abbrev pub invariant-loop-i : goal.invariant-loop-i
invariant-loop-i l =
    (length l.room ≡ length l.initial.room) × (sets l.initial.room l.at (bytes_of l.k l.n) ≡ sets l.room (l.at + l.i) (bytes_of (l.k - l.i) l.rest))
