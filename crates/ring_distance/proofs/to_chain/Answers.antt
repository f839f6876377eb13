-- `ring_distance::to_chain` meets its contract: the edges are passed over, or taken. Assumes nothing.
use native.Mathlib.Omega.{arith}
use Rattle.ring_distance.proofs.Turns.{passed}
use Rattle.ring_distance.proofs.to_chain.Goals as goal

pub returns-then-is_far : goal.returns-then-is_far
returns-then-is_far c =
    let bounds = c.requires.bounds_edges in
    passed _ _ _ _ _ (omega arith) (λ e l h. c.is_far.ensures c.if-is_far.true _ _ (bounds e l h))
