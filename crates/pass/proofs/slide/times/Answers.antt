-- `pass::slide::times` meets its contract. Assumes nothing.
use mathlib.Core.Path.{refl}
use Rattle.pass.specs.Slide.{times_of}
use Rattle.pass.proofs.slide.times.Goals as goal

pub returns : goal.returns
unfolding times_of
returns c = refl
