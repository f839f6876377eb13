-- `reading::coordinate` meets its contract: the vertex that the coordinate belongs to, and x or y of it. Assumes nothing.
use Prim.Native.Nat.{◌+◌, ◌*◌, ◌%◌}
use mathlib.Core.Path.{◌∙◌}
use native.Mathlib.Omega.{arith}
use Rattle.reading.proofs.Places.{coord_at}
use Rattle.reading.proofs.coordinate.Goals as goal

pub kept_bits-requires : goal.kept_bits-requires
kept_bits-requires c =
    c.requires.lent.numbers (2 * c.vertex-v.result + c.args.j % 2) (omega (arith, c.vertex-v.ensures.1))

pub returns : goal.returns
returns c =
    let v = c.vertex-v in
    c.kept_bits.ensures
    ∙ coord_at c.args.ring.now c.requires.lent.even c.args.c c.args.j v.result c.requires.c_in_bounds.0 c.requires.c_in_bounds.1 v.ensures.0 v.ensures.1
