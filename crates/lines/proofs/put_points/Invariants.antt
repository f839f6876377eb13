use Prim.Native.Nat.{◌+◌, ◌*◌}
use mathlib.Core.Path.{◌≡◌}
use lib.ListN.{length}
use Rattle.print.specs.Text.{Put}
use Rattle.lines.specs.Lines.{point_lines}
use Rattle.lines.proofs.put_points.Given as goal

abbrev pub invariant-loop-i : goal.invariant-loop-i
invariant-loop-i l = (length l.out ≡ length l.initial.out) × (l.next ≡ l.at + 34 * l.i) × Put l.initial.out l.at (point_lines l.xs l.i) l.out l.next
