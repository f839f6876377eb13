-- `selection::start` meets its contract: by computation. Assumes nothing.
use mathlib.Core.Path.{refl}
use lib.Ieee.{div, neg, of_bits}
use Rattle.selection.specs.Select.{unscored}
use Rattle.selection.proofs.start.Goals as goal

pub returns : goal.returns
unfolding unscored div neg of_bits
returns c = refl
