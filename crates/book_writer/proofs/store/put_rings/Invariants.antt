use Prim.Native.Nat.{◌+◌, ◌*◌}
use mathlib.Core.Path.{◌≡◌}
use mathlib.Core.Bool.{true}
use lib.ListN.{length, drop}
use lib.Seq.{sets}
use Rattle.refusals.specs.Rings.{total, sized_all}
use Rattle.book_layout.specs.Layout.{coordinate_bytes}
use Rattle.book_writer.proofs.Storing.{stored}
use Rattle.book_writer.proofs.store.put_rings.Given as goal

abbrev pub invariant-loop-n : goal.invariant-loop-n
invariant-loop-n l =
    (length l.room ≡ length l.initial.room) × (l.at + 2 * total (drop l.n-index l.counts) ≡ length l.xs)
    × (sized_all (drop l.n-index l.counts) ≡ true)
    × (sets l.initial.room 0 (stored l.counts l.xs) ≡ sets l.room (coordinate_bytes * l.at) (stored (drop l.n-index l.counts) (drop l.at l.xs)))
