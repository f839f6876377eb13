-- `ring_distance::to_ring` meets its contract. The invariant: the edges before vertex i are taken, and the next starts at a. Assumes nothing.
use native.Mathlib.Omega.{arith}
use Prim.Native.Nat.{◌+◌, ◌-◌, ◌≤◌}
use mathlib.Core.Path.{◌≡◌, sym, ap, ◌∙◌}
use native.Mathlib.Nat.{mod-eq_of_lt}
use Rattle.ring.specs.Ring.{count, point_at, next_of}
use Rattle.ring_distance.specs.Squared.{squared_to}
use Rattle.ring_distance.proofs.Turns.{none_taken, one_taken, last_taken}
use Rattle.ring_distance.proofs.to_ring.Goals as goal

pub returns-then-n-eq0 : goal.returns-then-n-eq0
unfolding squared_to
returns-then-n-eq0 c = rw c.if-n-eq0.true

pub loop-i-init : goal.loop-i-init
loop-i-init c = (c.point_at-first.ensures, none_taken _ _ _ _)

pub loop-i-preserved : goal.loop-i-preserved
loop-i-preserved c =
    let i = c.loop-i.i in
    let l = c.loop-i.invariant in
    let b = c.point_at-b.ensures in
    let z : i + 1 - 1 ≡ i = omega arith in
    let y : i - 1 + 1 ≡ i = omega (arith, c.loop-i.auto.i) in
    let n : next_of (i - 1) (count c.args.ring.now) ≡ i = rw y (mod-eq_of_lt c.loop-i-test.true) in
    let t = one_taken _ _ _ _ _ l.1 l.0 (b ∙ ap (point_at _) (sym n)) c.to_edge-least.ensures in
    rw z (b, rw y at t)

pub returns : goal.returns
returns c =
    let some : 1 ≤ count c.args.ring.now = omega (arith, c.if-n-eq0.false) in
    let l = c.loop-i.invariant in
    let end = c.loop-i.auto.i-end some in
    last_taken _ _ _ _ (omega (arith, c.loop-i.auto.i, end)) (omega (arith, c.loop-i-test.false)) l.1 l.0 c.point_at-first.ensures c.to_edge.ensures
