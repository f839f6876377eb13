-- `clear_move::put_two` meets its contract: two parts of the list. Assumes nothing.
use Rattle.std.proofs.Common.{◌≡◌, ℕ, ◌+◌, ◌*◌, ◌-◌, take, drop, refl, ap, w32, arith, length-drop}
use lib.Seq.{length-take-le}
use mir.ValLaws.{to_z-of_z}
use Rattle.refusals.specs.Bounds.{coordinate}
use Rattle.whole_input.specs.Whole.{wholes}
use Rattle.print.proofs.Puts.{reads}
use Rattle.clear_move.proofs.Tests.{every_take, every_drop}
use Rattle.clear_move.proofs.Inputs.{same_pair}
use Rattle.clear_move.proofs.put_two.Goals as goal

pub put_polygons-requires-clause-stationary_len_bound : goal.put_polygons-requires-clause-stationary_len_bound
put_polygons-requires-clause-stationary_len_bound c =
    let a = c.args in
    (omega (arith, length-take-le (2 * a.n) a.xs.now (omega arith)), every_take coordinate (2 * a.n) a.xs.now c.requires.xs_value.0)

pub put_polygons-requires-clause-orbiting_len_bound : goal.put_polygons-requires-clause-orbiting_len_bound
put_polygons-requires-clause-orbiting_len_bound c =
    let xs = c.args.xs.now in
    let n = 2 * c.args.n in
    let m = 2 * c.args.m in (
      omega (arith, length-take-le ((n + m) - n) (drop n xs) (omega (arith, length-drop n xs))),
      every_take coordinate ((n + m) - n) (drop n xs) (every_drop coordinate n xs c.requires.xs_value.0),
    )

pub returns : goal.returns
returns c =
    let a = c.args in
    let e : (2 * a.n + 2 * a.m) - 2 * a.n ≡ 2 * a.m = omega arith in
    reads
    (same_pair refl (ap (λ (k : ℕ). wholes (take k (drop (2 * a.n) a.xs.now))) e)
    (to_z-of_z w32 _ c.ranges.dx) (to_z-of_z w32 _ c.ranges.dy))
    c.put_polygons.ensures
