-- `reading::key_at` meets its contract: the key at hand is that of the coordinate. Assumes nothing.
use Prim.Native.Nat.{◌+◌, ◌*◌, ◌%◌}
use mathlib.Core.Path.{ap, ◌∙◌}
use native.Mathlib.Omega.{arith}
use Rattle.reading.specs.Reading.{ord}
use Rattle.reading.proofs.Places.{coord_at}
use Rattle.reading.proofs.key_at.Goals as goal

pub returns : goal.returns
returns c =
    let v = c.vertex-v in
    let a = c.args in
    let h = c.requires.c_in_bounds in
    c.requires.lent.1.each (2 * v.result + a.j % 2) (omega (arith, v.ensures.1))
    ∙ ap ord (coord_at a.ring.now c.requires.lent.0.even a.c a.j v.result h.0 h.1 v.ensures.0 v.ensures.1)
