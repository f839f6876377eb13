-- `choose::choose` meets its contract. Assumes nothing.
use borrow.Author.Tests.{eq-eqb, ne_eqb}
use Rattle.choose.proofs.Climbing.{some_vector, no_vector}
use Rattle.choose.proofs.choose.Goals as goal

pub returns-then-best-eq1 : goal.returns-then-best-eq1
returns-then-best-eq1 c =
    let k = c.climb-best in
    some_vector _ _ _ k.result k.ensures (eq-eqb _ _ c.if-best-eq1.true) c.to_vector.ensures

pub returns-else-best-eq1 : goal.returns-else-best-eq1
returns-else-best-eq1 c = let k = c.climb-best in no_vector _ _ _ k.result k.ensures (ne_eqb _ _ c.if-best-eq1.false)
