-- `whole_engine::meet` meets its contract: the two other turns, and then one test after the other. Assumes nothing.
use mathlib.Core.Path.{◌≡◌}
use mathlib.Core.Bool.{◌||◌}
use Rattle.plane.specs.Orientation.{turn_number}
use Rattle.segments.specs.Segments.{crosses_of}
use Rattle.whole_rules.specs.Segments.{whole_touches, whole_intersect}
use Rattle.whole_engine.proofs.Meeting.{by_turns}
use Rattle.whole_engine.proofs.meet.Goals as goal
use Rattle.whole_engine.proofs.meet.Goals.{After-turn-d2}

-- what is asked, by the turns at hand
turns : (c : After-turn-d2)
    → (let d1 = turn_number c.turn-d1.result in
    let d2 = turn_number c.turn-d2.result in
    let a = c.args in
    let d3 = turn_number a.d3 in
    let d4 = turn_number a.d4 in
    whole_intersect a.p1 a.p2 a.p3 a.p4
    ≡ crosses_of d1 d2 d3 d4 || (whole_touches d1 a.p3 a.p4 a.p1 || (whole_touches d2 a.p3 a.p4 a.p2 || (whole_touches d3 a.p1 a.p2 a.p3 || whole_touches d4 a.p1 a.p2 a.p4))))
turns c =
    let q = c.requires.d3_value in
    by_turns _ _ _ _ _ _ _ _ c.turn-d1.ensures c.turn-d2.ensures q.0 q.1

pub returns-then-crosses : goal.returns-then-crosses
returns-then-crosses c = rw (turns c.before.before, ← c.crosses.ensures, c.if-crosses.true)

pub returns-then-touches : goal.returns-then-touches
returns-then-touches c =
    rw (turns c.before.before.before.before, ← c.crosses.ensures, c.if-crosses.false, ← c.touches.ensures, c.if-touches.true)

pub returns-then-touches-2 : goal.returns-then-touches-2
returns-then-touches-2 c =
    rw (turns c.before.before.before.before.before.before, ← c.crosses.ensures, c.if-crosses.false, ← c.touches.ensures, c.if-touches.false, ← c.touches-2.ensures, c.if-touches-2.true)

pub returns-then-touches-3 : goal.returns-then-touches-3
returns-then-touches-3 c =
    rw (turns c.before.before.before.before.before.before.before.before, ← c.crosses.ensures, c.if-crosses.false, ← c.touches.ensures, c.if-touches.false, ← c.touches-2.ensures, c.if-touches-2.false, ← c.touches-3.ensures, c.if-touches-3.true)

pub returns : goal.returns
returns c =
    rw (turns c.before.before.before.before.before.before.before.before.before, ← c.crosses.ensures, c.if-crosses.false, ← c.touches.ensures, c.if-touches.false, ← c.touches-2.ensures, c.if-touches-2.false, ← c.touches-3.ensures, c.if-touches-3.false, c.touches-4.ensures)
