-- Those of the first k edges stand.
use Rattle.std.proofs.Common.{◌-◌, ◌≤◌}
use Rattle.clear_move.proofs.Shares.{Noting}
use Rattle.clear_move.proofs.shared.note_owners.Given as goal

abbrev pub invariant-loop-k : goal.invariant-loop-k
invariant-loop-k l = Noting l.ls l.initial.owners l.owners l.k
