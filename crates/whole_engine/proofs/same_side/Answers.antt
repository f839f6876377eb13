-- `whole_engine::same_side` meets its contract: case by case. Assumes nothing.
use Rattle.whole_engine.specs.Sides.{same_side}
use Rattle.whole_engine.proofs.same_side.Goals as goal

pub returns-in-CounterClockwise-e : goal.returns-in-CounterClockwise-e
unfolding same_side
returns-in-CounterClockwise-e c = cc

pub returns-in-Clockwise-e : goal.returns-in-Clockwise-e
unfolding same_side
returns-in-Clockwise-e c = cc

pub returns-in-Collinear-e : goal.returns-in-Collinear-e
unfolding same_side
returns-in-Collinear-e c = cc

pub returns-in-CounterClockwise-e-2 : goal.returns-in-CounterClockwise-e-2
unfolding same_side
returns-in-CounterClockwise-e-2 c = cc

pub returns-in-Clockwise-e-2 : goal.returns-in-Clockwise-e-2
unfolding same_side
returns-in-Clockwise-e-2 c = cc

pub returns-in-Collinear-e-2 : goal.returns-in-Collinear-e-2
unfolding same_side
returns-in-Collinear-e-2 c = cc

pub returns-in-Collinear : goal.returns-in-Collinear
unfolding same_side
returns-in-Collinear c = cc
