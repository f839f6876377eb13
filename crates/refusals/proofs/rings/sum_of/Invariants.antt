use Prim.Native.Nat.{◌+◌, ◌*◌, ◌≤◌}
use mathlib.Core.Path.{◌≡◌}
use lib.ListN.{drop}
use Rattle.refusals.specs.Rings.{total}
use Rattle.refusals.proofs.rings.sum_of.Given as goal

abbrev pub invariant-loop-n : goal.invariant-loop-n
invariant-loop-n l = (l.sum ≤ 4294967295 * l.n-index) × (total l.counts ≡ l.sum + total (drop l.n-index l.counts))
