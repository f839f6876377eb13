use Prim.Native.Nat.{◌*◌, ◌≤◌}
use mathlib.Core.Path.{◌≡◌}
use lib.ListN.{length}
use Rattle.simplify.specs.Simplify.{survivors}
use Rattle.simplify.proofs.staying.Given as goal

abbrev pub invariant-loop-i : goal.invariant-loop-i
invariant-loop-i l = (l.kept ≤ l.i) × (2 * l.kept ≡ length (survivors l.list l.tolerance l.i))
