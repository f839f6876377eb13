-- `to_grid::on_grid` meets its contract. Assumes nothing.
use Prim.Native.Nat.{◌≤◌}
use native.Mathlib.Omega.{arith}
use mathlib.Core.Path.{sym, subst, ◌∙◌}
use lib.Dec.{T}
use lib.Ieee.{binary64, fits}
use mir.Syntax.{w32}
use mir.ValLaws.{to_z_pos, to_z-of_z}
use Rattle.refusals.proofs.Coordinate.{coordinate_number}
use Rattle.to_grid.proofs.Sized.{fits_coordinate, nearest_small, pattern_small, plus, minus, on_grid, taken_off, off_fits}
use Rattle.to_grid.proofs.on_grid.Goals as goal
use Rattle.to_grid.proofs.on_grid.Goals.{After-steps-size, Start}

-- what owning an `f64` tells: the format holds it
held : (c : Start) → T (fits binary64 c.args.x)
held c = subst T (sym c.well_formed.0.1) tt

small : (c : After-steps-size) → c.steps-size.result ≤ 1000000
small c = rw c.steps-size.ensures.0 (nearest_small _ _ (held c.before) c.requires.0)

pub float_to_bits-b : goal.float_to_bits-b
float_to_bits-b c = coordinate_number _ (fits_coordinate _ _ c.requires.1 c.requires.0)

pub steps-size-requires : goal.steps-size-requires
steps-size-requires c = (pattern_small _ _ (held c) c.requires.0 c.requires.1, c.requires.2)

pub overflow_cast-size : goal.overflow_cast-size
overflow_cast-size c = record { sfits = omega (arith, small c) }

pub overflow_sub-result : goal.overflow_sub-result
overflow_sub-result c = off_fits _ (small c.before)

pub returns-then-b-lt9223372036854775808 : goal.returns-then-b-lt9223372036854775808
returns-then-b-lt9223372036854775808 c =
    on_grid
    (to_z_pos w32 _ (overflow_cast-size c.before).sfits ∙ plus _ _ (held c.before.before) c.requires.0 c.if-b-lt9223372036854775808.true c.steps-size.ensures.0)

pub returns-else-b-lt9223372036854775808 : goal.returns-else-b-lt9223372036854775808
returns-else-b-lt9223372036854775808 c =
    on_grid
    (to_z-of_z w32 _ (overflow_sub-result c) ∙ taken_off _ (small c.before)
    ∙ minus _ _ (held c.before.before) c.requires.0 c.if-b-lt9223372036854775808.false c.steps-size.ensures.0)
