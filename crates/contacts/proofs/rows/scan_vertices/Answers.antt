-- `contacts::rows::scan_vertices` meets its contract: row by row, as `proofs/Rowing.antt` has it. Assumes nothing.
use native.Mathlib.Omega.{arith}
use Prim.Native.Nat.{◌≤◌}
use Rattle.contacts.proofs.Rowing.{begun, none_found, in_row, next_row, on_rows, within_rows, past_rows, small}
use Rattle.contacts.proofs.rows.scan_vertices.Goals as goal

pub loop-i-init : goal.loop-i-init
loop-i-init c =
    (begun _ _ _ (within_rows _ _ _ _ c.requires.v_bound.0 c.requires.v_bound.1), λ h. c.requires.v_bound.1)

pub near_edge_within-j-requires : goal.near_edge_within-j-requires
near_edge_within-j-requires c = record { from_bound = c.loop-i.invariant.1 c.loop-i-test.true; around = c.requires.around }

pub overflow_mul-result : goal.overflow_mul-result
overflow_mul-result c =
    let h : c.loop-i.i ≤ 256 = omega (arith, c.loop-i-test.true, c.requires.points_bound.0) in
    let m = small c.loop-i.i _ h c.requires.points_bound.1 in
    omega (arith, m)

pub overflow_add-result : goal.overflow_add-result
overflow_add-result c =
    let h : c.loop-i.i ≤ 256 = omega (arith, c.loop-i-test.true, c.requires.points_bound.0) in
    let m = small c.loop-i.i _ h c.requires.points_bound.1 in
    omega (arith, m, c.near_edge_within-j.ensures.most, c.requires.points_bound.1)

pub returns-then-j-en : goal.returns-then-j-en
returns-then-j-en c = in_row _ _ _ _ _ (on_rows _ _ _) _ _ c.loop-i.invariant.0 c.loop-i-test.true (rw c.point_at.ensures at c.near_edge_within-j.ensures) c.if-j-en.true

pub loop-i-preserved : goal.loop-i-preserved
loop-i-preserved c = (next_row _ _ _ _ _ (on_rows _ _ _) _ _ c.loop-i.invariant.0 c.loop-i-test.true (rw c.point_at.ensures at c.near_edge_within-j.ensures) c.if-j-en.false, λ h. omega (arith, c.requires.v_bound.1))

pub overflow_mul-result-2 : goal.overflow_mul-result-2
overflow_mul-result-2 c = omega (arith, small _ _ c.requires.points_bound.0 c.requires.points_bound.1)

pub returns : goal.returns
returns c = none_found _ _ _ c.loop-i.invariant.0 (past_rows _ _ _ _ c.loop-i-test.false)
