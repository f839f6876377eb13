-- `whole_engine::touches` meets its contract: case by case. Assumes nothing.
use Rattle.whole_rules.specs.Segments.{whole_touches}
use Rattle.whole_engine.proofs.touches.Goals as goal

pub returns-in-CounterClockwise : goal.returns-in-CounterClockwise
unfolding whole_touches
returns-in-CounterClockwise c = cc

pub returns-in-Clockwise : goal.returns-in-Clockwise
unfolding whole_touches
returns-in-Clockwise c = cc

pub returns-in-Collinear : goal.returns-in-Collinear
unfolding whole_touches
returns-in-Collinear c = cc
