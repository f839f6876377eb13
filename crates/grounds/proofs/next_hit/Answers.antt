-- `grounds::next_hit` meets its contract: `proofs/Missed.antt` has the laws. The invariant: the edges below e are missed. Assumes nothing.
use native.Mathlib.Omega.{arith}
use Rattle.collision.specs.Chained.{Ready}
use Rattle.collision.proofs.Passed.{chain_passed}
use Rattle.grounds.proofs.Missed.{none_missed, more_missed}
use Rattle.grounds.proofs.next_hit.Goals as goal
use Rattle.grounds.proofs.next_hit.Goals.{At-loop-e}
use Rattle.grounds.proofs.next_hit.Lts.View.{up-At-loop-e}

ready : (c : At-loop-e) →
    Ready c.args.table.now c.args.edges.now c.args.sweep
ready c = c.requires.ready (omega arith)

pub returns-then-table-eq0 : goal.returns-then-table-eq0
returns-then-table-eq0 c = c.first_hit.ensures

pub loop-e-init : goal.loop-e-init
loop-e-init c = (omega arith, omega arith, none_missed _ _ _ _ _)

pub is_passed-requires : goal.is_passed-requires
is_passed-requires c = let r = ready (up-At-loop-e _ _ _ _ _ _ c.before.before.before.before) in omega (arith, r.room, r.few.edges)

pub first_hit-requires-then-not-is_passed : goal.first_hit-requires-then-not-is_passed
first_hit-requires-then-not-is_passed c = let end = c.chain_end-to.ensures in (omega (arith, end.0), end.1)

pub returns-in-Some : goal.returns-in-Some
returns-in-Some c =
    let i = c.loop-e.invariant in
    let h = rw c.in-Some.is at c.first_hit-then-not-is_passed.ensures in
    record { not_before = omega (arith, i.0, h.not_before); below = omega (arith, h.below, c.chain_end-to.ensures.1); misses = more_missed _ _ _ _ _ _ _ i.2 h.misses; hits = h.hits }

pub loop-e-smaller-in_default : goal.loop-e-smaller-in_default
loop-e-smaller-in_default c = omega (arith, c.chain_end-to.ensures.0)

pub loop-e-preserved-in_default : goal.loop-e-preserved-in_default
loop-e-preserved-in_default c =
    let i = c.loop-e.invariant in
    let end = c.chain_end-to.ensures in
    (omega (arith, i.0, end.0), end.1, more_missed _ _ _ _ _ _ _ i.2 (rw c.in_default.is at c.first_hit-then-not-is_passed.ensures))

pub loop-e-smaller : goal.loop-e-smaller
loop-e-smaller c = omega (arith, c.chain_end-to.ensures.0)

pub loop-e-preserved : goal.loop-e-preserved
loop-e-preserved c =
    let end = c.chain_end-to.ensures in
    (omega (arith, c.loop-e.invariant.0, end.0), end.1, more_missed _ _ _ _ _ _ _ c.loop-e.invariant.2 (chain_passed _ _ _ _ _ _ (ready (up-At-loop-e _ _ _ _ _ _ c.before.before.before.before.before.before)) c.is_passed.ensures c.if-not-is_passed.false end.2 end.1))

pub returns : goal.returns
returns c = λ k l h. c.loop-e.invariant.2 k l (omega (arith, h, c.loop-e-test.false))
