use Prim.Native.Nat.{◌-◌}
use mathlib.Core.Path.{◌≡◌}
use lib.ListN.{length}
use Rattle.drawn_aside.specs.Found.{found_by, edge_first, least_from}
use Rattle.clear_aside.proofs.search_on.Given as goal

abbrev pub invariant-loop-how : goal.invariant-loop-how
invariant-loop-how l =
    (least_from (found_by l.st l.a l.b l.from l.to) 1 20 (edge_first l.j) ≡ least_from (found_by l.st l.a l.b l.from l.to) l.how (21 - l.how) (edge_first l.j))
    × (length l.lines ≡ length l.initial.lines)
