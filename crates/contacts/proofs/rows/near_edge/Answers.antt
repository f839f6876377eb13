-- `contacts::rows::near_edge` meets its contract: `proofs/Rowing.antt` has the invariant, and a is the start of the edge i. Assumes nothing.
use native.Mathlib.Omega.{arith}
use mathlib.Core.Path.{ap, ◌∙◌}
use Rattle.ring.specs.Ring.{point_at}
use Rattle.frames.proofs.Widened.{next_start}
use Rattle.contacts.proofs.Rowing.{begun, onward, found, none_found, on_edge_lem}
use Rattle.contacts.proofs.rows.near_edge.Goals as goal

pub loop-i-init : goal.loop-i-init
loop-i-init c = (begun _ _ _ (omega (arith, c.requires)), λ h. c.point_at-a.ensures)

pub returns-then-is_on : goal.returns-then-is_on
returns-then-is_on c =
    found _ _ _ c.loop-i.invariant.0 c.loop-i-test.true (on_edge_lem _ _ _ _ (c.loop-i.invariant.1 c.loop-i-test.true) (c.point_at-b.ensures ∙ ap (point_at _) c.next.ensures.0) c.is_on.ensures ∙ c.if-is_on.true)

pub loop-i-preserved : goal.loop-i-preserved
loop-i-preserved c =
    let t = c.loop-i-test.true in
    let b = c.point_at-b.ensures ∙ ap (point_at _) c.next.ensures.0 in
    (onward _ _ _ c.loop-i.invariant.0 t (on_edge_lem _ _ _ _ (c.loop-i.invariant.1 t) b c.is_on.ensures ∙ c.if-is_on.false), λ h. next_start _ _ _ b h)

pub returns : goal.returns
returns c = none_found _ _ _ c.loop-i.invariant.0 c.loop-i-test.false
