-- `reason_check::way_left` meets its contract. The invariant: the corners from i on decide. Assumes nothing.
use native.Mathlib.Omega.{arith}
use mathlib.Core.Path.{sym}
use Rattle.reason_check.proofs.Small.{small_at}
use Rattle.reason_check.proofs.Way.{start, start_off, end_off, turn, done}
use Rattle.reason_check.proofs.way_left.Goals as goal

pub loop-i-init : goal.loop-i-init
loop-i-init c = start _ _ _ _ _

pub left_on-requires : goal.left_on-requires
left_on-requires c = (
  c.requires.1,
  c.requires.2,
  small_at c.args.a.now c.requires.0.starts_small _ c.loop-i-test.true c.spot_at.ensures,
)

pub returns-then-not-left_on : goal.returns-then-not-left_on
returns-then-not-left_on c =
    sym
    (start_off _ _ _ _ _ c.loop-i.invariant c.loop-i-test.true c.spot_at.ensures c.left_on.ensures
    c.if-not-left_on.true)

pub spot_at-requires-in-loop-i : goal.spot_at-requires-in-loop-i
spot_at-requires-in-loop-i c =
    omega (arith, c.loop-i-test.true, c.requires.0.same)

pub left_on-requires-in-loop-i : goal.left_on-requires-in-loop-i
left_on-requires-in-loop-i c =
    let i = c.loop-i.i in (
      c.requires.1,
      c.requires.2,
      small_at c.args.b.now c.requires.0.ends_small i (omega (arith, c.loop-i-test.true, c.requires.0.same))
          c.spot_at-in-loop-i.ensures,
    )

pub returns-then-not-left_on-2 : goal.returns-then-not-left_on-2
returns-then-not-left_on-2 c =
    sym
    (end_off _ _ _ _ _ c.loop-i.invariant c.loop-i-test.true c.spot_at.ensures c.left_on.ensures
    c.spot_at-in-loop-i.ensures c.left_on-in-loop-i.ensures c.if-not-left_on.false c.if-not-left_on-2.true)

pub loop-i-preserved : goal.loop-i-preserved
loop-i-preserved c =
    turn _ _ _ _ _ c.loop-i.invariant c.loop-i-test.true c.spot_at.ensures c.left_on.ensures
    c.spot_at-in-loop-i.ensures c.left_on-in-loop-i.ensures c.if-not-left_on.false c.if-not-left_on-2.false

pub returns : goal.returns
returns c = sym (done _ _ _ _ _ c.loop-i.invariant c.loop-i-test.false)
