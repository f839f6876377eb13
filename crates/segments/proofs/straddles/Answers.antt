-- `segments::straddles` meets its contract: case by case. Assumes nothing.
use Rattle.segments.specs.Segments.{straddles_of}
use Rattle.segments.proofs.straddles.Goals as goal

pub returns-in-CounterClockwise-e : goal.returns-in-CounterClockwise-e
unfolding straddles_of
returns-in-CounterClockwise-e c = cc

pub returns-in-Clockwise-e : goal.returns-in-Clockwise-e
unfolding straddles_of
returns-in-Clockwise-e c = cc

pub returns-in-Collinear-e : goal.returns-in-Collinear-e
unfolding straddles_of
returns-in-Collinear-e c = cc

pub returns-in-CounterClockwise-e-2 : goal.returns-in-CounterClockwise-e-2
unfolding straddles_of
returns-in-CounterClockwise-e-2 c = cc

pub returns-in-Clockwise-e-2 : goal.returns-in-Clockwise-e-2
unfolding straddles_of
returns-in-Clockwise-e-2 c = cc

pub returns-in-Collinear-e-2 : goal.returns-in-Collinear-e-2
unfolding straddles_of
returns-in-Collinear-e-2 c = cc

pub returns-in-Collinear : goal.returns-in-Collinear
unfolding straddles_of
returns-in-Collinear c = cc
