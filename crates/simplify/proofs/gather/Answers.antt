-- `simplify::gather` meets its contract: `proofs/Survive.antt` has the invariant; the measure is what is left of the list. Assumes nothing.
use native.Mathlib.Omega.{arith}
use Prim.Native.Nat.{◌+◌, ◌≤◌}
use lib.ListN.{length, length-set}
use Rattle.simplify.proofs.Survive.{start, room_left, put, skip, done}
use Rattle.simplify.proofs.gather.Goals as goal
use Rattle.simplify.proofs.gather.Goals.{Then-stays, then-stays, else-stays}
use Rattle.simplify.proofs.gather.Lts.View.{up-Then-stays}

-- there is room for a point that stays
free : (c : Then-stays) → c.loop-i.k + 2 ≤ length c.loop-i.room
free c =
    room_left _ _ c.loop-i.invariant c.loop-i-test.true c.stays.ensures c.if-stays.true c.requires

pub loop-i-init : goal.loop-i-init
loop-i-init c = start _ _ _

pub offset_bounds-room-k : goal.offset_bounds-room-k
offset_bounds-room-k c = omega (arith, free (up-Then-stays _ _ _ _ _ c.before.before))

pub bounds-room-k : goal.bounds-room-k
bounds-room-k c = omega (arith, free (up-Then-stays _ _ _ _ _ c.before.before))

pub overflow_add-room-then-stays : goal.overflow_add-room-then-stays
overflow_add-room-then-stays c = omega (arith, free (up-Then-stays _ _ _ _ _ c.before.before.before))

pub offset_bounds-room-k-then-stays : goal.offset_bounds-room-k-then-stays
offset_bounds-room-k-then-stays c = omega (arith, free (up-Then-stays _ _ _ _ _ c.before.before.before))

pub bounds-room-k-then-stays : goal.bounds-room-k-then-stays
bounds-room-k-then-stays c = simp length-set (omega (arith, free (up-Then-stays _ _ _ _ _ c.before.before.before)))

pub overflow_add-k : goal.overflow_add-k
overflow_add-k c = omega (arith, free (up-Then-stays _ _ _ _ _ c.before.before.before))

pub loop-i-preserved : goal.loop-i-preserved
loop-i-preserved c =
    elim c.if-stays.branch [
      | then-stays w ↦ rw (w.k-is, w.room-is) (put _ _ c.loop-i.invariant c.loop-i-test.true c.stays.ensures w.if-stays.true c.requires)
      | else-stays w ↦ rw (w.k-is, w.room-is) (skip _ _ c.loop-i.invariant c.loop-i-test.true c.stays.ensures w.if-stays.false)
    ]

pub returns : goal.returns
returns c = done _ _ c.loop-i.invariant c.loop-i-test.false
