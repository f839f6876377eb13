-- `ring_distance::to_chains` meets its contract. The invariant: the chains before c are taken. Assumes nothing.
use Prim.Native.Nat.{◌*◌, min}
use native.Mathlib.Omega.{arith}
use mathlib.Core.Path.{◌≡◌, refl}
use Rattle.ring.specs.Ring.{count}
use Rattle.chains.proofs.Table.{chain_to}
use Rattle.ring_distance.specs.Squared.{squared_to}
use Rattle.ring_distance.proofs.Turns.{passed, at_end}
use Rattle.ring_distance.proofs.to_chains.Goals as goal

pub returns-then-is_far : goal.returns-then-is_far
unfolding squared_to
returns-then-is_far c =
    let bounds = c.requires.whole in
    passed _ _ _ _ _ (omega arith) (λ e l h. c.is_far.ensures c.if-is_far.true _ _ (bounds e l h)) _ refl

pub loop-c-init : goal.loop-c-init
unfolding squared_to
loop-c-init c = let z : min 0 (count c.args.ring.now) ≡ 0 = omega arith in rw z refl

pub to_chain-least-requires : goal.to_chain-least-requires
to_chain-least-requires c =
    let end = c.chain_end.ensures in
    let r = c.requires in record { from_lt_to = (end.0, end.1); c_in_bounds = omega (arith, end.0, end.1, r.few, r.room); bounds_edges = λ e a b. r.chains _ e (record { not_before = a; not_after = omega (arith, b, end.2) }) (omega (arith, b, end.1)) }

pub loop-c-preserved : goal.loop-c-preserved
loop-c-preserved c =
    let k = c.loop-c.c in
    let n = count c.args.ring.now in
    let end = c.chain_end.ensures in
    let e : min (8 * k) n ≡ 8 * k = omega (arith, end.0, end.1) in
    let f = chain_to k n _ end.1 end.2 end.3 in
    rw f at (c.to_chain-least.ensures _ (rw e at c.loop-c.invariant))

pub returns : goal.returns
returns c = at_end (squared_to _ _ _) c.loop-c.invariant (omega arith) (omega (arith, c.div_ceil-c-end.ensures, c.loop-c-test.false))
