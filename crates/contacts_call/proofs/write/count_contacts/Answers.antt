-- `contacts_call::write::count_contacts` meets its contract: `proofs/Counting.antt` has the invariant; the measure is what is left of the pairs. Assumes nothing.
use native.Mathlib.Omega.{arith}
use Rattle.pairs.proofs.Numbers.{most}
use Rattle.contacts.proofs.Following.{FoundAt, next_at, next_none}
use Rattle.contacts_call.proofs.Counting.{start, one_more, all}
use Rattle.contacts_call.proofs.write.count_contacts.Goals as goal
use Rattle.contacts_call.proofs.write.count_contacts.Goals.{In-Some}

-- the contact found
at : (c : In-Some) → FoundAt c.args.stationary.now c.args.orbiting.now c.args.tol c.loop-j.k c.in-Some.j
at c = next_at _ _ _ c.next_within.ensures c.in-Some.is

pub loop-j-init : goal.loop-j-init
loop-j-init c = start _ _ _

pub next_within-requires : goal.next_within-requires
next_within-requires c =
    let d = c.requires in
    record { sides = d; from_bound = c.loop-j.invariant.most; framed = c.frames_of-frames.ensures }

pub returns : goal.returns
returns c =
    let i = c.loop-j.invariant in
    (all _ _ _ i (next_none _ _ _ _ c.next_within.ensures c.in_default.is), omega (arith, i.few, i.most, most _ _ c.requires))

pub overflow_add-n : goal.overflow_add-n
overflow_add-n c =
    omega (arith, c.loop-j.invariant.few, c.loop-j.invariant.most, most _ _ c.requires)

pub overflow_add-k : goal.overflow_add-k
overflow_add-k c =
    omega (arith, (at c).below, most _ _ c.requires)

pub loop-j-smaller : goal.loop-j-smaller
loop-j-smaller c = omega (arith, (at c).least, (at c).below)

pub loop-j-preserved : goal.loop-j-preserved
loop-j-preserved c =
    one_more _ _ _ (at c) c.loop-j.invariant
