-- `segments::segments_intersect` meets its contract: the four turns, and then one test after the other. Assumes nothing.
use mathlib.Core.Path.{◌≡◌}
use mathlib.Core.Bool.{◌||◌}
use Rattle.plane.specs.Orientation.{turn_number}
use Rattle.segments.specs.Segments.{crosses_of, touches_of, intersect_of}
use Rattle.segments.proofs.segments_intersect.Goals as goal
use Rattle.segments.proofs.segments_intersect.Goals.{After-orientation-d4}

-- what is asked, by the four turns that the code worked out
turns : (c : After-orientation-d4)
    → (let d1 = turn_number c.orientation-d1.result in
    let d2 = turn_number c.orientation-d2.result in
    let d3 = turn_number c.orientation-d3.result in
    let d4 = turn_number c.orientation-d4.result in
    let a = c.args in
    intersect_of a.p1 a.p2 a.p3 a.p4
    ≡ crosses_of d1 d2 d3 d4 || (touches_of d1 a.p3 a.p4 a.p1 || (touches_of d2 a.p3 a.p4 a.p2 || (touches_of d3 a.p1 a.p2 a.p3 || touches_of d4 a.p1 a.p2 a.p4))))
unfolding intersect_of
turns c = rw (c.orientation-d1.ensures, c.orientation-d2.ensures, c.orientation-d3.ensures, c.orientation-d4.ensures)

pub returns-then-crosses : goal.returns-then-crosses
returns-then-crosses c = rw (turns c.before.before, ← c.crosses.ensures, c.if-crosses.true)

pub returns-then-touches : goal.returns-then-touches
returns-then-touches c =
    rw (turns c.before.before.before.before, ← c.crosses.ensures, c.if-crosses.false, ← c.touches.ensures, c.if-touches.true)

pub returns-then-touches-2 : goal.returns-then-touches-2
returns-then-touches-2 c =
    rw (turns c.before.before.before.before.before.before, ← c.crosses.ensures, c.if-crosses.false, ← c.touches.ensures, c.if-touches.false, ← c.touches-2.ensures, c.if-touches-2.true)

pub returns-then-touches-3 : goal.returns-then-touches-3
returns-then-touches-3 c =
    rw (turns c.before.before.before.before.before.before.before.before, ← c.crosses.ensures, c.if-crosses.false, ← c.touches.ensures, c.if-touches.false, ← c.touches-2.ensures, c.if-touches-2.false, ← c.touches-3.ensures, c.if-touches-3.true)

pub returns : goal.returns
returns c =
    rw (turns c.before.before.before.before.before.before.before.before.before, ← c.crosses.ensures, c.if-crosses.false, ← c.touches.ensures, c.if-touches.false, ← c.touches-2.ensures, c.if-touches-2.false, ← c.touches-3.ensures, c.if-touches-3.false, c.touches-4.ensures)
