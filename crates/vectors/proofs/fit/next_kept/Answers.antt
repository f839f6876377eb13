-- `vectors::fit::next_kept` meets its contract: `proofs/Steps.antt` has the invariant; the measure is how far the end is. Assumes nothing.
use Rattle.vectors.proofs.Steps.{seek, drops, keeps_it, ends, nearer}
use Rattle.vectors.proofs.fit.next_kept.Goals as goal

pub loop-step-init : goal.loop-step-init
loop-step-init c = seek _ _ _ _ _ c.requires.ready

pub next_vector-requires : goal.next_vector-requires
next_vector-requires c = record { sides = c.requires.sides; ready = c.loop-step.invariant.ready }

pub returns : goal.returns
returns c =
    ends _ _ _ _ c.loop-step.invariant (rw c.in_default.is at c.next_vector.ensures)

pub returns-then-is_kept : goal.returns-then-is_kept
returns-then-is_kept c =
    keeps_it _ _ _ _ c.loop-step.invariant (rw c.in-Some.is at c.next_vector.ensures) c.is_kept.ensures c.if-is_kept.true

pub loop-step-smaller : goal.loop-step-smaller
loop-step-smaller c = nearer _ _ (rw c.in-Some.is at c.next_vector.ensures)

pub loop-step-preserved : goal.loop-step-preserved
loop-step-preserved c =
    drops _ _ _ _ c.loop-step.invariant (rw c.in-Some.is at c.next_vector.ensures) c.is_kept.ensures c.if-is_kept.false
