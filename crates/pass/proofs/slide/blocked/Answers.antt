-- `pass::slide::blocked` meets its contract: the hit taken apart. Assumes nothing.
use mathlib.Core.Path.{refl}
use Rattle.pass.specs.Slide.{made_of, blocked_of}
use Rattle.pass.proofs.slide.blocked.Goals as goal

pub returns-in-None : goal.returns-in-None
unfolding blocked_of made_of
returns-in-None c =
    rw (← c.times-full.ensures, ← c.check_translation_collision.ensures, c.in-None.is, c.times-full.ensures) refl

pub returns-in-Some : goal.returns-in-Some
unfolding blocked_of made_of
returns-in-Some c =
    rw (← c.times-full.ensures, ← c.check_translation_collision.ensures, c.in-Some.is, c.times.ensures, c.larger.ensures) refl
