use mathlib.Core.Path.{◌≡◌}
use lib.ListN.{drop}
use Rattle.refusals.proofs.Faults.{counts_from}
use Rattle.refusals.proofs.lists.counts.Given as goal

abbrev pub invariant-loop-i : goal.invariant-loop-i
invariant-loop-i l = counts_from 0 l.counts ≡ counts_from l.i (drop l.i l.counts)
