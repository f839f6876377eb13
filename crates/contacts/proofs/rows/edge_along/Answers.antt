-- `contacts::rows::edge_along` meets its contract: `proofs/Rowing.antt` has the invariant; c is the start of the edge i, and starts whether it is near. Assumes nothing.
use native.Mathlib.Omega.{arith}
use mathlib.Core.Path.{refl, ap, ◌∙◌}
use Rattle.ring.specs.Ring.{point_at}
use Rattle.frames.proofs.Widened.{next_start}
use Rattle.contacts.proofs.Rowing.{begun, onward, found, none_found, is_along}
use Rattle.contacts.proofs.rows.edge_along.Goals as goal

pub loop-i-init : goal.loop-i-init
loop-i-init c = (begun _ _ _ (omega (arith, c.requires)), λ h. c.point_at-c.ensures, λ h. c.is_on-starts.ensures ∙ (rw c.point_at-c.ensures refl))

pub returns-then-aligned : goal.returns-then-aligned
returns-then-aligned c =
    let t = c.loop-i-test.true in
    let d = c.point_at-d.ensures ∙ ap (point_at _) c.next.ensures.0 in
    found _ _ _ c.loop-i.invariant.0 t (is_along _ _ _ _ _ (c.loop-i.invariant.1 t) d (c.loop-i.invariant.2 t) c.is_on-ends.ensures c.aligned.ensures ∙ c.if-aligned.true)

pub loop-i-preserved : goal.loop-i-preserved
loop-i-preserved c =
    let t = c.loop-i-test.true in
    let d = c.point_at-d.ensures ∙ ap (point_at _) c.next.ensures.0 in
    (onward _ _ _ c.loop-i.invariant.0 t (is_along _ _ _ _ _ (c.loop-i.invariant.1 t) d (c.loop-i.invariant.2 t) c.is_on-ends.ensures c.aligned.ensures ∙ c.if-aligned.false), λ h. next_start _ _ _ d h, λ h. c.is_on-ends.ensures ∙ (rw (next_start _ _ _ d h) refl))

pub returns : goal.returns
returns c = none_found _ _ _ c.loop-i.invariant.0 c.loop-i-test.false
