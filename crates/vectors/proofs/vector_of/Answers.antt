-- `vectors::vector_of` meets its contract: the pair, its edges, and then the course of its kind. Assumes nothing.
use Rattle.pairs.proofs.Numbers.{within}
use Rattle.vectors.specs.Vectors.{vector_of}
use Rattle.vectors.proofs.vector_of.Goals as goal

pub edges_of-e-requires : goal.edges_of-e-requires
edges_of-e-requires c =
    rw c.pair_at-pair.ensures (within _ _ c.requires.sides _ c.requires.k_bound)

pub course_by-requires : goal.course_by-requires
course_by-requires c = c.along_by.ensures

pub returns : goal.returns
unfolding vector_of
returns c =
    rw (c.to_vector.ensures, c.course_by.ensures, c.edges_of-e.ensures, c.pair_at-pair.ensures)
