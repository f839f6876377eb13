-- `collision::back` meets its contract: each number of the direction negated. Assumes nothing.
use mathlib.Core.Path.{refl}
use Rattle.collision.specs.Check.{back_of}
use Rattle.collision.proofs.back.Goals as goal

pub returns : goal.returns
unfolding back_of
returns c = refl
