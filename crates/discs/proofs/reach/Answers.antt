-- `discs::reach` meets its contract: the entry is read back as it is, and each step is the definition's. Assumes nothing.
use mathlib.Core.Path.{ap}
use lib.IntN.{ℤ}
use mir.Syntax.{w32}
use mir.ValLaws.{to_z-of_z}
use Rattle.discs.specs.Disc.{reach_of}
use Rattle.discs.proofs.reach.Goals as goal

pub returns : goal.returns
unfolding reach_of
returns c = let a = c.args in ap (λ (z : ℤ). reach_of a.centre a.radius z) (to_z-of_z w32 a.entry c.ranges.entry)
