-- How many of the first k edges are the first with their line.
use Rattle.std.proofs.Common.{◌≡◌, ◌-◌, ◌≤◌}
use Rattle.clear_move.specs.Shared.{line_count}
use Rattle.clear_move.specs.Owned.{first}
use Rattle.clear_move.proofs.shared.count_lines.Given as goal

abbrev pub invariant-loop-k : goal.invariant-loop-k
invariant-loop-k l = l.count ≡ line_count (first l.owners) l.k
