-- `pass::regain` meets its contract. Assumes nothing.
use mathlib.Core.Path.{refl}
use Rattle.pass.specs.Pass.{regain_of, regained}
use Rattle.pass.proofs.regain.Goals as goal

pub returns-in-None : goal.returns-in-None
unfolding regain_of regained
returns-in-None c = rw (← c.recover_contact.ensures, c.in-None.is) refl

pub returns-in-Some : goal.returns-in-Some
unfolding regain_of regained
returns-in-Some c = rw (← c.recover_contact.ensures, c.in-Some.is) refl
