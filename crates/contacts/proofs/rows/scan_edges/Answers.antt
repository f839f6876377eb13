-- `contacts::rows::scan_edges` meets its contract: row by row, as `proofs/Rowing.antt` has it. Assumes nothing.
use native.Mathlib.Omega.{arith}
use Prim.Native.Nat.{◌≤◌}
use mathlib.Core.Path.{ap, ◌∙◌}
use Rattle.ring.specs.Ring.{point_at}
use Rattle.contacts.proofs.Rowing.{begun, none_found, in_row, next_row, along_rows, within_rows, past_rows, small, edged}
use Rattle.contacts.proofs.rows.scan_edges.Goals as goal

pub loop-i-init : goal.loop-i-init
loop-i-init c =
    (begun _ _ _ (within_rows _ _ _ _ c.requires.s_bound.0 c.requires.s_bound.1), λ h. c.requires.s_bound.1)

pub edge_along_within-j-requires : goal.edge_along_within-j-requires
edge_along_within-j-requires c = record { from_bound = c.loop-i.invariant.1 c.loop-i-test.true; around = c.requires.around }

pub overflow_mul-result : goal.overflow_mul-result
overflow_mul-result c =
    let h : c.loop-i.i ≤ 256 = omega (arith, c.loop-i-test.true, c.requires.stationary_bound.0) in
    let m = small c.loop-i.i _ h c.requires.stationary_bound.1 in
    omega (arith, m)

pub overflow_add-result : goal.overflow_add-result
overflow_add-result c =
    let h : c.loop-i.i ≤ 256 = omega (arith, c.loop-i-test.true, c.requires.stationary_bound.0) in
    let m = small c.loop-i.i _ h c.requires.stationary_bound.1 in
    omega (arith, m, c.edge_along_within-j.ensures.most, c.requires.stationary_bound.1)

pub returns-then-j-on : goal.returns-then-j-on
returns-then-j-on c = in_row _ _ _ _ _ (along_rows _ _ _) _ _ c.loop-i.invariant.0 c.loop-i-test.true (edged _ _ _ _ c.point_at-a.ensures (c.point_at-b.ensures ∙ ap (point_at _) c.next.ensures.0) c.edge_along_within-j.ensures) c.if-j-on.true

pub loop-i-preserved : goal.loop-i-preserved
loop-i-preserved c = (next_row _ _ _ _ _ (along_rows _ _ _) _ _ c.loop-i.invariant.0 c.loop-i-test.true (edged _ _ _ _ c.point_at-a.ensures (c.point_at-b.ensures ∙ ap (point_at _) c.next.ensures.0) c.edge_along_within-j.ensures) c.if-j-on.false, λ h. omega (arith, c.requires.s_bound.1))

pub overflow_mul-result-2 : goal.overflow_mul-result-2
overflow_mul-result-2 c = omega (arith, small _ _ c.requires.stationary_bound.0 c.requires.stationary_bound.1)

pub returns : goal.returns
returns c = none_found _ _ _ c.loop-i.invariant.0 (past_rows _ _ _ _ c.loop-i-test.false)
