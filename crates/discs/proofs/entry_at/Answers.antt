-- `discs::entry_at` meets its contract: the place in the table, and the quarter. Assumes nothing.
use Prim.Native.Nat.{◌%◌, ◌<◌}
use native.Mathlib.Omega.{arith}
use native.Mathlib.Nat.{mod-lt}
use Rattle.discs.specs.Disc.{entry_at}
use Rattle.discs.proofs.Turned.{entry_narrow, place_most, quarter_below}
use Rattle.discs.proofs.entry_at.Goals as goal
use Rattle.discs.proofs.entry_at.Goals.{Start}

-- the vertex within its quarter
within : (c : Start) → c.args.i % c.args.m < c.args.m
within c = mod-lt c.args.i (omega arith)

pub overflow_mul-i : goal.overflow_mul-i
overflow_mul-i c = omega (arith, within c)

pub point_of-requires : goal.point_of-requires
point_of-requires c = place_most _ _ (within c)

pub turned_by-requires : goal.turned_by-requires
turned_by-requires c =
    (quarter_below _ _ c.requires.1, entry_narrow _ c.point_of.ensures (place_most _ _ (within c.before)))

pub returns : goal.returns
unfolding entry_at
returns c = rw (c.turned_by.ensures, c.point_of.ensures)
