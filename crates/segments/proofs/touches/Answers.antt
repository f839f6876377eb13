-- `segments::touches` meets its contract: case by case. Assumes nothing.
use Rattle.segments.specs.Segments.{touches_of}
use Rattle.segments.proofs.touches.Goals as goal

pub returns-in-CounterClockwise : goal.returns-in-CounterClockwise
unfolding touches_of
returns-in-CounterClockwise c = cc

pub returns-in-Clockwise : goal.returns-in-Clockwise
unfolding touches_of
returns-in-Clockwise c = cc

pub returns-in-Collinear : goal.returns-in-Collinear
unfolding touches_of
returns-in-Collinear c = cc
