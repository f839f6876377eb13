-- `clear_drawn::with_how` meets its contract: by what the ground is. Assumes nothing.
use mathlib.Core.Path.{refl}
use Rattle.clear_drawn.proofs.with_how.Goals as goal

pub returns-in-Clear : goal.returns-in-Clear
returns-in-Clear c = rw c.in-Clear.is refl

pub returns-in-Edge : goal.returns-in-Edge
returns-in-Edge c = rw c.in-Edge.is refl

pub returns-in-Enclosed : goal.returns-in-Enclosed
returns-in-Enclosed c = rw c.in-Enclosed.is refl
