-- `vectors_call::write::write_vectors` meets its contract: `proofs/Passing.antt` has the invariant; the measure is how far the end is. Assumes nothing.
use native.Mathlib.Omega.{arith}
use Rattle.vectors.proofs.Steps.{nearer}
use Rattle.vectors_call.proofs.Passing.{start, vectors_fit, sources_fit, turn, done, small}
use Rattle.vectors_call.proofs.write.write_vectors.Goals as goal

pub loop-step-init : goal.loop-step-init
loop-step-init c = start _ _ _ _ _ _

pub next_kept-requires : goal.next_kept-requires
next_kept-requires c = record { sides = c.requires.sides; ready = c.loop-step.invariant.passing.ready }

pub shape_of-vectors : goal.shape_of-vectors
shape_of-vectors c = c.loop-step.invariant.vectors.same

pub shape_of-sources : goal.shape_of-sources
shape_of-sources c = c.loop-step.invariant.sources.same

pub returns : goal.returns
returns c = record { vectors_after = (done _ _ _ _ _ _ c.requires.tol_in_bounds c.requires.tol_in_bounds_2 c.loop-step.invariant (rw c.in_default.is at c.next_kept.ensures)).0; sources_after = (done _ _ _ _ _ _ c.requires.tol_in_bounds c.requires.tol_in_bounds_2 c.loop-step.invariant (rw c.in_default.is at c.next_kept.ensures)).1 }

pub overflow_mul-n : goal.overflow_mul-n
overflow_mul-n c =
    omega (arith, small _ _ _ _ c.requires.sides c.loop-step.invariant.passing)

pub put_vector-requires : goal.put_vector-requires
put_vector-requires c =
    vectors_fit _ _ _ _ _ _ c.requires.tol_in_bounds c.requires.tol_in_bounds_2 c.loop-step.invariant (rw c.in-Some.is at c.next_kept.ensures)

pub offset_bounds-sources-n : goal.offset_bounds-sources-n
offset_bounds-sources-n c =
    omega (arith, small _ _ _ _ c.requires.sides c.loop-step.invariant.passing)

pub bounds-sources-n : goal.bounds-sources-n
bounds-sources-n c =
    sources_fit _ _ _ _ _ _ c.requires.tol_in_bounds c.requires.tol_in_bounds_2 c.loop-step.invariant (rw c.in-Some.is at c.next_kept.ensures)

pub overflow_add-n : goal.overflow_add-n
overflow_add-n c =
    omega (arith, small _ _ _ _ c.requires.sides c.loop-step.invariant.passing)

pub loop-step-smaller : goal.loop-step-smaller
loop-step-smaller c = nearer _ _ (rw c.in-Some.is at c.next_kept.ensures)

pub loop-step-preserved : goal.loop-step-preserved
loop-step-preserved c =
    turn _ _ _ _ _ _ c.requires.tol_in_bounds c.requires.tol_in_bounds_2 c.loop-step.invariant (rw c.in-Some.is at c.next_kept.ensures) c.put_vector.ensures
