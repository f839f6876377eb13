-- `selection::score` meets its contract: the bonus, and then the test of the length. Assumes nothing.
use Rattle.selection.specs.Score.{score_of}
use Rattle.selection.proofs.score.Goals as goal

pub returns-then-vector : goal.returns-then-vector
unfolding score_of
returns-then-vector c = rw (c.continued-s.ensures, c.dot.ensures, c.if-vector.true)

pub returns-else-vector : goal.returns-else-vector
unfolding score_of
returns-else-vector c = rw (c.continued-s.ensures, c.dot.ensures, c.if-vector.false)
