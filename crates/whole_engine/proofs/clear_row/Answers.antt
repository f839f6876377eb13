-- `whole_engine::clear_row` meets its contract. The invariant: the row from j on decides, and the edge j starts at b1. Assumes nothing.
use mathlib.Core.Path.{sym, ap, ◌∙◌}
use Rattle.shifted.specs.Shifted.{spot_at, Small}
use Rattle.whole_engine.proofs.Edges.{first_edge, next_edge, edge_off, no_more}
use Rattle.whole_engine.proofs.Within.{small_at}
use Rattle.whole_engine.proofs.clear_row.Goals as goal
use Rattle.whole_engine.proofs.clear_row.Goals.{After-spot_at-a2, After-spot_at-b2}
use Rattle.whole_engine.proofs.clear_row.Lts.View.{up-After-spot_at-a2, up-After-spot_at-b2}

small2 : (c : After-spot_at-a2) → Small c.spot_at-a2.result
small2 c =
    small_at c.args.list.now c.requires.1 _ c.next.ensures.1 c.spot_at-a2.ensures

small3 : (c : After-spot_at-b2) → Small c.spot_at-b2.result
small3 c =
    small_at c.args.list.now c.requires.1 _ c.next-in-loop-j.ensures.1 c.spot_at-b2.ensures

pub loop-j-init : goal.loop-j-init
loop-j-init c =
    let at = spot_at c.args.list.now in
    first_edge _ _ _ c.requires.0 (small2 (up-After-spot_at-a2 _ _ _ _ _ _ c.before.before)) (c.spot_at-a2.ensures ∙ ap at c.next.ensures.0) c.turn-d3.ensures

pub loop-j-preserved : goal.loop-j-preserved
loop-j-preserved c =
    let at = spot_at c.args.list.now in
    next_edge _ _ _ c.loop-j.invariant c.loop-j-test.true c.spot_at-a1.ensures (c.spot_at-a2.ensures ∙ ap at c.next.ensures.0) (c.spot_at-b2.ensures ∙ ap at c.next-in-loop-j.ensures.0) c.adjacent.ensures
    c.clear_pair.ensures (small3 (up-After-spot_at-b2 _ _ _ _ _ _ c.before.before.before.before.before)) c.turn-d4.ensures c.if-not-clear_pair.false

pub returns-then-not-clear_pair : goal.returns-then-not-clear_pair
returns-then-not-clear_pair c =
    let at = spot_at c.args.list.now in
    sym
    (edge_off _ _ _ c.loop-j.invariant c.loop-j-test.true c.spot_at-a1.ensures (c.spot_at-a2.ensures ∙ ap at c.next.ensures.0) (c.spot_at-b2.ensures ∙ ap at c.next-in-loop-j.ensures.0) c.adjacent.ensures
    c.clear_pair.ensures c.if-not-clear_pair.true)

pub returns : goal.returns
returns c = sym (no_more _ _ _ c.loop-j.invariant c.loop-j-test.false)
