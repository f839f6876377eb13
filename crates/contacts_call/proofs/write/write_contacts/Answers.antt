-- `contacts_call::write::write_contacts` meets its contract: `proofs/Writing.antt` has the invariant; the measure is what is left of the pairs. Assumes nothing.
use native.Mathlib.Omega.{arith}
use Prim.Native.Nat.{◌≤◌, ◌<◌}
use Rattle.pairs.proofs.Numbers.{most, within}
use Rattle.contacts.proofs.Following.{FoundAt, next_at, next_none}
use Rattle.contacts_call.proofs.Writing.{start, which_fits, points_fit, turn, done}
use Rattle.contacts_call.proofs.write.write_contacts.Goals as goal
use Rattle.contacts_call.proofs.write.write_contacts.Goals.{In-Some}
use Rattle.contacts_call.proofs.write.write_contacts.Lts.View.{up-In-Some}

-- the contact found
at : (c : In-Some) → FoundAt c.args.stationary.now c.args.orbiting.now c.args.tol c.loop-j.k c.in-Some.j
at c = next_at _ _ _ c.next_within.ensures c.in-Some.is

-- what is known of the pairs, and of n
bounds : (c : In-Some) → (c.loop-j.n ≤ 196608) × (c.in-Some.j < 196608)
bounds c =
    let m = most _ _ c.requires.sides in
    let i = c.loop-j.invariant in
    (omega (arith, i.few, i.most), omega (arith, (at c).below))

pub loop-j-init : goal.loop-j-init
loop-j-init c = start _ _ _ _ _

pub next_within-requires : goal.next_within-requires
next_within-requires c = record { sides = c.requires.sides; from_bound = c.loop-j.invariant.most; framed = c.frames_of-frames.ensures }

pub shape_of-which : goal.shape_of-which
shape_of-which c = c.loop-j.invariant.which.same

pub shape_of-points : goal.shape_of-points
shape_of-points c = c.loop-j.invariant.points.same

pub returns : goal.returns
returns c = record { which_after = (done _ _ _ _ _ c.requires.tol_in_bounds c.requires.tol_in_bounds_2 c.loop-j.invariant (next_none _ _ _ _ c.next_within.ensures c.in_default.is)).0; points_after = (done _ _ _ _ _ c.requires.tol_in_bounds c.requires.tol_in_bounds_2 c.loop-j.invariant (next_none _ _ _ _ c.next_within.ensures c.in_default.is)).1 }

pub pair_at-pair-requires : goal.pair_at-pair-requires
pair_at-pair-requires c = record { sides = c.requires.sides; k_bound = omega (arith, (at c).below) }

pub contact_foot-foot-requires : goal.contact_foot-foot-requires
contact_foot-foot-requires c =
    rw c.pair_at-pair.ensures (within _ _ c.requires.sides _ (at (up-In-Some _ _ _ _ _ _ c.before.before)).below)

pub overflow_mul-n : goal.overflow_mul-n
overflow_mul-n c = omega (arith, bounds (up-In-Some _ _ _ _ _ _ c.before.before.before.before))

pub put_pair-requires : goal.put_pair-requires
put_pair-requires c =
    which_fits _ _ _ _ _ c.requires.tol_in_bounds c.requires.tol_in_bounds_2 c.loop-j.invariant (at (up-In-Some _ _ _ _ _ _ c.before.before.before.before))

pub overflow_mul-n-in-Some : goal.overflow_mul-n-in-Some
overflow_mul-n-in-Some c = omega (arith, bounds (up-In-Some _ _ _ _ _ _ c.before.before.before.before.before.before.before.before))

pub contact_point-requires : goal.contact_point-requires
contact_point-requires c =
    rw c.pair_at-pair.ensures (within _ _ c.requires.sides _ (at (up-In-Some _ _ _ _ _ _ c.before.before.before.before.before.before.before.before)).below)

pub put_point-requires : goal.put_point-requires
put_point-requires c =
    points_fit _ _ _ _ _ c.requires.tol_in_bounds c.requires.tol_in_bounds_2 c.loop-j.invariant (at (up-In-Some _ _ _ _ _ _ c.before.before.before.before.before.before.before.before.before))

pub overflow_add-n : goal.overflow_add-n
overflow_add-n c = omega (arith, bounds (up-In-Some _ _ _ _ _ _ c.before.before.before.before.before.before.before.before.before.before.before.before))

pub overflow_add-k : goal.overflow_add-k
overflow_add-k c = omega (arith, bounds (up-In-Some _ _ _ _ _ _ c.before.before.before.before.before.before.before.before.before.before.before.before))

pub loop-j-smaller : goal.loop-j-smaller
loop-j-smaller c =
    let here = up-In-Some _ _ _ _ _ _ c.before.before.before.before.before.before.before.before.before.before.before.before in
    omega (arith, (at here).least, (at here).below)

pub loop-j-preserved : goal.loop-j-preserved
loop-j-preserved c =
    turn _ _ _ _ _ c.requires.tol_in_bounds c.requires.tol_in_bounds_2 c.loop-j.invariant (at (up-In-Some _ _ _ _ _ _ c.before.before.before.before.before.before.before.before.before.before.before.before)) c.pair_at-pair.ensures c.contact_foot-foot.ensures c.contact_point.ensures c.put_pair.ensures c.put_point.ensures
