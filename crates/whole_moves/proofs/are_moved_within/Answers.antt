-- `whole_moves::are_moved_within` meets its contract. The invariant: what is left of the list, moved by d first, decides.
-- Assumes nothing.
use mathlib.Core.Path.{◌≡◌, sym}
use lib.ListN.{get_or}
use mir.Syntax.{w32}
use mir.Val.{to_z}
use mir.ValLaws.{to_z-of_z}
use lib.IntN.{pos, ◌+ℤ◌}
use Rattle.std.proofs.Common.{rules}
use Rattle.shifted.specs.Shifted.{in_bounds}
use Rattle.whole_moves.proofs.Turns.{rest_off, rest_turn, rest_end}
use Rattle.whole_moves.proofs.are_moved_within.Goals as goal
use Rattle.whole_moves.proofs.are_moved_within.Goals.{After-is_moved_within}

-- the test of number i
is : (c : After-is_moved_within)
    → (c.is_moved_within.result ≡ in_bounds (get_or c.args.list.now c.loop-z.z-index (pos 0) +ℤ to_z w32 c.loop-z.d-bits))
is c = search rules

pub returns-then-not-is_moved_within : goal.returns-then-not-is_moved_within
returns-then-not-is_moved_within c =
    let more = c.loop-z-test.true in
    rw (← to_z-of_z w32 _ c.ranges.dx, ← to_z-of_z w32 _ c.ranges.dy)
    (sym (rest_off _ _ _ more (is c.before) c.loop-z.invariant c.if-not-is_moved_within.true))

pub loop-z-preserved : goal.loop-z-preserved
loop-z-preserved c =
    rest_turn _ _ _ c.loop-z-test.true (is c.before) c.loop-z.invariant c.if-not-is_moved_within.false

pub returns : goal.returns
returns c =
    rw (← to_z-of_z w32 _ c.ranges.dx, ← to_z-of_z w32 _ c.ranges.dy)
    (sym (rest_end _ _ _ c.loop-z-test.false c.loop-z.invariant))
