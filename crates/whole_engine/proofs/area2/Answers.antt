-- `whole_engine::area2` meets its contract. The invariant: the two sums are those of the first i vertices. Assumes nothing.
use native.Mathlib.Omega.{arith}
use borrow.Author.Rules.{sfits_of}
use mir.Syntax.{w64}
use mir.ValLaws.{to_z-of_z}
use Prim.Native.Nat.{◌/◌}
use mathlib.Core.Path.{ap, ◌∙◌}
use lib.ListN.{length}
use Rattle.shifted.specs.Shifted.{spot_at, Small}
use Rattle.whole_engine.proofs.Sums.{start, term_most, turn, done}
use Rattle.whole_engine.proofs.Within.{small_at}
use Rattle.whole_engine.proofs.area2.Goals as goal
use Rattle.whole_engine.proofs.area2.Goals.{After-spot_at-q}
use Rattle.whole_engine.proofs.area2.Lts.View.{up-After-spot_at-q}

-- both points are small
small1 : (c : After-spot_at-q) → Small c.spot_at-p.result
small1 c =
    small_at c.args.list.now c.requires.1 _ c.loop-i-test.true c.spot_at-p.ensures

small2 : (c : After-spot_at-q) → Small c.spot_at-q.result
small2 c =
    small_at c.args.list.now c.requires.1 _ c.next.ensures.1 c.spot_at-q.ensures

pub loop-i-init : goal.loop-i-init
loop-i-init c = start _ _

pub overflow_add-left : goal.overflow_add-left
overflow_add-left c =
    let here = up-After-spot_at-q _ _ _ _ _ c.before.before.before in
    omega (arith, c.requires.0, c.loop-i.invariant.left_most, c.loop-i.invariant.most, term_most (small1 here).width (small2 here).height)

pub overflow_add-right : goal.overflow_add-right
overflow_add-right c =
    let here = up-After-spot_at-q _ _ _ _ _ c.before.before.before.before.before in
    omega (arith, c.requires.0, c.loop-i.invariant.right_most, c.loop-i.invariant.most, term_most (small2 here).width (small1 here).height)

pub loop-i-preserved : goal.loop-i-preserved
loop-i-preserved c =
    let here = up-After-spot_at-q _ _ _ _ _ c.before.before.before.before.before in
    let list = c.args.list.now in
    turn (spot_at list) (length list / 2) c.loop-i-test.true c.spot_at-p.ensures (c.spot_at-q.ensures ∙ ap (spot_at list) c.next.ensures.0) (small1 here) (small2 here) c.loop-i.invariant

pub returns : goal.returns
returns c =
    let list = c.args.list.now in
    to_z-of_z w64 _ (sfits_of c.difference.type_inv) ∙ done (spot_at list) (length list / 2) c.loop-i-test.false c.loop-i.invariant c.difference.ensures
