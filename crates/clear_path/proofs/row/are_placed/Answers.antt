-- `clear_path::row::are_placed` meets its contract. The invariant: the points from i on decide. Assumes nothing.
use Prim.Native.Nat.{◌+◌, ◌*◌}
use mathlib.Core.Path.{◌≡◌, sym, ◌∙◌}
use lib.ListN.{get_or}
use lib.IntN.{ℤ, pos}
use Rattle.ring.proofs.Each.{each_on, each_off, each_end}
use Rattle.whole_engine.specs.Rows.{all_in_bounds}
use Rattle.whole_moves.specs.Moved.{moved_by}
use Rattle.clear_calls.proofs.Passed.{as_lent}
use Rattle.clear_path.specs.Rows.{is_placed}
use Rattle.clear_path.proofs.Placed.{all_left}
use Rattle.clear_path.proofs.row.are_placed.Goals as goal
use Rattle.clear_path.proofs.row.are_placed.Goals.{After-are_moved_within}

-- the test of the point i
is : (c : After-are_moved_within)
    → (c.are_moved_within.result ≡ is_placed c.args.orbiting.now c.args.path.now c.loop-i.i)
is c =
    let path = c.args.path.now in
    c.are_moved_within.ensures
    ∙ as_lent {dx = get_or path (2 * c.loop-i.i) (pos 0)} {dy = get_or path (2 * c.loop-i.i + 1) (pos 0)}
    (λ (x y : ℤ). all_in_bounds (moved_by x y c.args.orbiting.now))
    (record { sfits = c.are_moved_within-arg-1.given }) (record { sfits = c.are_moved_within-arg-in-loop-i-1.given })

pub loop-i-init : goal.loop-i-init
loop-i-init c = all_left _ _

pub loop-i-preserved : goal.loop-i-preserved
loop-i-preserved c =
    let t = c.if-not-are_moved_within.false in
    c.loop-i.invariant ∙ each_on _ _ _ c.loop-i-test.true (sym (is c.before) ∙ t)

pub returns-then-not-are_moved_within : goal.returns-then-not-are_moved_within
returns-then-not-are_moved_within c =
    sym (c.loop-i.invariant ∙ each_off _ _ _ c.loop-i-test.true (sym (is c.before) ∙ c.if-not-are_moved_within.true))

pub returns : goal.returns
returns c = sym (c.loop-i.invariant ∙ each_end _ _ _ c.loop-i-test.false)
