-- `vectors::next_vector` meets its contract: each step is one of the three laws. Assumes nothing.
use native.Mathlib.Omega.{arith}
use Rattle.pairs.proofs.Numbers.{most}
use Rattle.contacts.proofs.Following.{FoundAt, next_at, next_none}
use Rattle.vectors.proofs.Steps.{first_step, second_step, no_step, second_below}
use Rattle.vectors.proofs.next_vector.Goals as goal
use Rattle.vectors.proofs.next_vector.Goals.{In_ok-k}
use Rattle.vectors.proofs.next_vector.Lts.View.{up-In_ok-k}

-- the contact found
at : (c : In_ok-k) → FoundAt c.args.stationary.now c.args.orbiting.now c.args.tol c.args.place.contact c.in_ok-k.k
at c = next_at _ _ _ c.next_contact.ensures c.in_ok-k.was

pub next_contact-requires : goal.next_contact-requires
next_contact-requires c = record { sides = c.requires.sides; from_bound = omega (arith, c.requires.ready.contact_most) }

pub vector_of-requires : goal.vector_of-requires
vector_of-requires c = record { sides = c.requires.sides; k_bound = (at c).below }

pub vector_of-requires-else-place-eq0 : goal.vector_of-requires-else-place-eq0
vector_of-requires-else-place-eq0 c = record { sides = c.requires.sides; k_bound = second_below _ _ c.args.tol _ c.requires.ready c.if-place-eq0.false }

pub overflow_add-result : goal.overflow_add-result
overflow_add-result c =
    omega (arith, c.requires.ready.contact_most, most _ _ c.requires.sides)

pub overflow_add-result-else-place-eq0 : goal.overflow_add-result-else-place-eq0
overflow_add-result-else-place-eq0 c =
    omega (arith, c.requires.ready.contact_most, c.requires.ready.source_most, most _ _ c.requires.sides)

pub returns-in_err-k : goal.returns-in_err-k
returns-in_err-k c =
    rw c.from_residual.ensures (no_step _ _ _ _ c.requires.ready c.if-place-eq0.true (next_none _ _ _ _ c.next_contact.ensures c.in_err-k.was))

pub returns-in_ok-k : goal.returns-in_ok-k
returns-in_ok-k c =
    first_step _ _ _ _ c.requires.ready c.if-place-eq0.true (at (up-In_ok-k _ _ _ _ c.before.before)) c.vector_of.ensures

pub returns-else-place-eq0 : goal.returns-else-place-eq0
returns-else-place-eq0 c =
    second_step _ _ _ _ c.requires.ready c.if-place-eq0.false c.vector_of-else-place-eq0.ensures
