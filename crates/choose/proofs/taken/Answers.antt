-- `choose::taken` meets its contract. Assumes nothing.
use mathlib.Core.Path.{refl}
use Rattle.choose.specs.Choose.{taken_by}
use Rattle.choose.proofs.taken.Goals as goal

pub returns-in-None : goal.returns-in-None
unfolding taken_by
returns-in-None c = rw c.in-None.is refl

pub returns-in-Some : goal.returns-in-Some
unfolding taken_by
returns-in-Some c = rw c.in-Some.is refl
