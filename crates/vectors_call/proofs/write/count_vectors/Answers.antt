-- `vectors_call::write::count_vectors` meets its contract: `proofs/Passing.antt` has the invariant; the measure is how far the end is. Assumes nothing.
use native.Mathlib.Omega.{arith}
use Rattle.vectors.proofs.Steps.{nearer}
use Rattle.vectors_call.proofs.Passing.{count_none, count_one, count_all, small}
use Rattle.vectors_call.proofs.write.count_vectors.Goals as goal

pub loop-step-init : goal.loop-step-init
loop-step-init c = count_none _ _ _ _

pub next_kept-requires : goal.next_kept-requires
next_kept-requires c = record { sides = c.requires; ready = c.loop-step.invariant.passing.ready }

pub returns : goal.returns
returns c =
    let i = c.loop-step.invariant in
    record { value = count_all _ _ _ _ i (rw c.in_default.is at c.next_kept.ensures); upper_bound = small _ _ _ _ c.requires i.passing }

pub overflow_add-n : goal.overflow_add-n
overflow_add-n c =
    omega (arith, small _ _ _ _ c.requires c.loop-step.invariant.passing)

pub loop-step-smaller : goal.loop-step-smaller
loop-step-smaller c = nearer _ _ (rw c.in-Some.is at c.next_kept.ensures)

pub loop-step-preserved : goal.loop-step-preserved
loop-step-preserved c = count_one _ _ _ _ c.loop-step.invariant (rw c.in-Some.is at c.next_kept.ensures)
