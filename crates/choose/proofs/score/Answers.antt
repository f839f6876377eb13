-- `choose::score` meets its contract. Assumes nothing.
use mathlib.Core.Path.{refl}
use Rattle.selection.specs.Score.{score_of}
use Rattle.choose.proofs.score.Goals as goal

pub returns-then-is_below : goal.returns-then-is_below
unfolding score_of
returns-then-is_below c =
    rw (← c.is_below.ensures, c.if-is_below.true, c.continued-s.ensures, c.dot.ensures, c.direction_of-dir.ensures) refl

pub returns-else-is_below : goal.returns-else-is_below
unfolding score_of
returns-else-is_below c =
    rw (← c.is_below.ensures, c.if-is_below.false, c.continued-s.ensures, c.dot.ensures, c.direction_of-dir.ensures) refl
