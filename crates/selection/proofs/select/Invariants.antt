use mathlib.Core.Path.{◌≡◌}
use Rattle.laws.specs.FirstBest.{over}
use Rattle.selection.specs.Select.{scored_at, above, unscored}
use Rattle.selection.proofs.select.Given as goal

abbrev pub invariant-loop-i : goal.invariant-loop-i
invariant-loop-i l = l.best ≡ over above (scored_at l.vectors l.previous l.ccw) unscored l.i
