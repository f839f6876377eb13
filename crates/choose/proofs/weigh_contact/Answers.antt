-- `choose::weigh_contact` meets its contract. Assumes nothing.
use mathlib.Core.Path.{refl, ◌∙◌}
use Rattle.pairs.proofs.Numbers.{within}
use Rattle.vectors.specs.Vectors.{vector_of}
use Rattle.choose.proofs.AtHand.{at_hand}
use Rattle.choose.proofs.weigh_contact.Goals as goal

pub edges_of-e-requires : goal.edges_of-e-requires
edges_of-e-requires c =
    rw c.pair_at-pair.ensures (within _ _ c.requires.sides _ c.requires.k_bound)

pub along_at-along-requires : goal.along_at-along-requires
along_at-along-requires c = record { stationary_bound = (at_hand _ _ _ _ _ _ c.requires.sides c.requires.k_bound c.requires.directed c.requires.orbiting_value c.pair_at-pair.ensures c.edges_of-e.ensures).0; stationary_value = (at_hand _ _ _ _ _ _ c.requires.sides c.requires.k_bound c.requires.directed c.requires.orbiting_value c.pair_at-pair.ensures c.edges_of-e.ensures).1.0; orbiting_bound = (at_hand _ _ _ _ _ _ c.requires.sides c.requires.k_bound c.requires.directed c.requires.orbiting_value c.pair_at-pair.ensures c.edges_of-e.ensures).1.1.0; directed = (at_hand _ _ _ _ _ _ c.requires.sides c.requires.k_bound c.requires.directed c.requires.orbiting_value c.pair_at-pair.ensures c.edges_of-e.ensures).1.1.1 }

pub weigh_both-requires : goal.weigh_both-requires
weigh_both-requires c = c.along_at-along.ensures

pub returns : goal.returns
unfolding vector_of
returns c =
    c.weigh_both.ensures ∙ (rw (c.edges_of-e.ensures, c.pair_at-pair.ensures) refl)
