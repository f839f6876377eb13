-- `put_aside::put` meets its contract: two stores. Assumes nothing.
use mathlib.Core.Path.{refl}
use Rattle.put_aside.specs.Aside.{put_spot}
use Rattle.put_aside.proofs.put.Goals as goal

pub returns : goal.returns
unfolding put_spot
returns c = refl
