-- `simple_polygon::clear_row` meets its contract. The invariant: the row from j on decides, and the edge j starts at b1. Assumes nothing.
use mathlib.Core.Path.{sym, ap, ◌∙◌}
use Rattle.ring.specs.Ring.{point_at}
use Rattle.simple_polygon.proofs.Row.{first_edge, next_edge, edge_off, no_more}
use Rattle.simple_polygon.proofs.clear_row.Goals as goal

pub loop-j-init : goal.loop-j-init
loop-j-init c =
    first_edge _ _ c.requires (c.point_at-a2.ensures ∙ ap (point_at _) c.next.ensures.0) c.turn-d3.ensures

pub adjacent-requires : goal.adjacent-requires
adjacent-requires c = (c.loop-j.invariant.past, c.loop-j-test.true)

pub clear_pair-requires : goal.clear_pair-requires
clear_pair-requires c = (c.loop-j.invariant.side, c.turn-d4.ensures)

pub loop-j-preserved : goal.loop-j-preserved
loop-j-preserved c =
    next_edge _ _ c.loop-j.invariant c.loop-j-test.true c.point_at-a1.ensures (c.point_at-a2.ensures ∙ ap (point_at _) c.next.ensures.0) (c.point_at-b2.ensures ∙ ap (point_at _) c.next-in-loop-j.ensures.0) c.adjacent.ensures
    c.clear_pair.ensures c.turn-d4.ensures c.if-clear_pair.true

pub returns-else-clear_pair : goal.returns-else-clear_pair
returns-else-clear_pair c =
    sym
    (edge_off _ _ c.loop-j.invariant c.loop-j-test.true c.point_at-a1.ensures (c.point_at-a2.ensures ∙ ap (point_at _) c.next.ensures.0) (c.point_at-b2.ensures ∙ ap (point_at _) c.next-in-loop-j.ensures.0) c.adjacent.ensures
    c.clear_pair.ensures c.if-clear_pair.false)

pub returns : goal.returns
returns c = sym (no_more _ _ c.loop-j.invariant c.loop-j-test.false)
