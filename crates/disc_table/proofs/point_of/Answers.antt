-- `disc_table::point_of` meets its contract: the constants at 2k and 2k + 1 are right. Assumes nothing.
use Prim.Native.Nat.{ℕ}
use mathlib.Core.Path.{◌≡◌}
use native.Mathlib.Omega.{arith}
use lib.IntN.{pos}
use mir.Syntax.{w32}
use mir.Val.{SFits, to_z}
use mir.Facts.{to_z_pos}
use Rattle.disc_table.specs.Table.{entry_of}
use Rattle.disc_table.specs.declared.Entry.{Entry}
use Rattle.disc_table.proofs.Rule.{Right, table, entry_right}
use Rattle.disc_table.proofs.point_of.Goals as goal

-- the numbers fit an i32
x_fits : {k x y : ℕ} → Right k x y → SFits w32 (pos x)
x_fits r = record { sfits = omega (arith, r.most_x) }

y_fits : {k x y : ℕ} → Right k x y → SFits w32 (pos y)
y_fits r = record { sfits = omega (arith, r.most_y) }

-- and are read as they are
read : {k x y : ℕ} → Right k x y → ◌≡◌ {A = Entry} (record { x = to_z w32 x; y = to_z w32 y }) (entry_of k)
unfolding entry_of
read r = rw (to_z_pos w32 (x_fits r).sfits, to_z_pos w32 (y_fits r).sfits, r.is_x, r.is_y)

-- LEFT array-read-t7 : tie.Need-array-read-t7
-- array-read-t7 c = search rules

-- LEFT array-read-t15 : tie.Need-array-read-t15
-- array-read-t15 c = search rules

pub overflow_cast-result : goal.overflow_cast-result
unfolding table
overflow_cast-result c = x_fits (entry_right c.args.k c.requires)

pub overflow_cast-result-2 : goal.overflow_cast-result-2
unfolding table
overflow_cast-result-2 c = y_fits (entry_right c.args.k c.requires)

pub returns : goal.returns
unfolding table
returns c = read (entry_right c.args.k c.requires)
