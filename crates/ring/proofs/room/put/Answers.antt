-- `ring::room::put` meets its contract: two stores. Assumes nothing.
use mathlib.Core.Path.{refl}
use Rattle.ring.specs.Room.{put_at}
use Rattle.ring.proofs.room.put.Goals as goal

pub returns : goal.returns
unfolding put_at
returns c = refl
