-- The ranges of the first k edges follow what the room held.
use Rattle.std.proofs.Common.{◌≡◌, ◌+◌, ◌*◌, ◌-◌, ◌≤◌, length}
use Rattle.laws.specs.Turns.{tally}
use Rattle.print.specs.Text.{Put}
use Rattle.clear_move.specs.Shared.{has, ranges_to}
use Rattle.clear_move.specs.Owned.{first}
use Rattle.clear_move.proofs.shared.put_ranges.Given as goal

abbrev pub invariant-loop-k : goal.invariant-loop-k
invariant-loop-k l =
    (length l.out ≡ length l.initial.out) × (l.next ≤ l.at + 22 * tally (has (first l.owners) l.j) l.k)
    × Put l.initial.out l.at (ranges_to (first l.owners) l.m l.j l.k) l.out l.next
