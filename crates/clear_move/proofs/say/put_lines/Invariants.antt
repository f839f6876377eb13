-- The lines of the first j edges follow what the room held.
use Rattle.std.proofs.Common.{◌≡◌, ◌+◌, ◌*◌, ◌-◌, ◌≤◌, length}
use Rattle.print.specs.Text.{Put}
use Rattle.clear_move.specs.Lines.{shared_lines}
use Rattle.clear_move.specs.Owned.{first}
use Rattle.clear_move.proofs.Shares.{told}
use Rattle.clear_move.proofs.say.put_lines.Given as goal

abbrev pub invariant-loop-j : goal.invariant-loop-j
invariant-loop-j l =
    (length l.out ≡ length l.initial.out) × (l.next ≤ l.at + 96 * l.j + 22 * told (first l.owners) l.j l.m)
    × Put l.initial.out l.at (shared_lines (first l.owners) l.ls l.m l.j) l.out l.next
