-- `collision::chained_row` meets its contract: `proofs/Passed.antt` has the laws. The invariant: the chains before c are taken. Assumes nothing.
use Prim.Native.Nat.{◌+◌, ◌*◌, ◌/◌, ◌<◌, ◌≤◌, min}
use mathlib.Core.Path.{◌≡◌}
use native.Mathlib.Omega.{arith}
use Rattle.ring.specs.Ring.{count}
use Rattle.chains.proofs.Table.{chain_to}
use Rattle.collision.proofs.Rows.{at_first, and_then, all_of}
use Rattle.collision.proofs.Passed.{chain_passed, onward_missed}
use Rattle.collision.proofs.chained_row.Goals as goal
use Rattle.collision.proofs.chained_row.Goals.{then-not-is_passed, else-not-is_passed}

pub loop-c-init : goal.loop-c-init
loop-c-init c = let z : min 0 (count c.args.edges.now) ≡ 0 = omega arith in rw z (at_first _ _ _)

pub is_passed-requires : goal.is_passed-requires
is_passed-requires c =
    let r = c.requires in
    omega (arith, r.room, r.few.edges, c.div_ceil-c-end.ensures, c.loop-c-test.true)

pub row-best-requires : goal.row-best-requires
row-best-requires c = let end = c.chain_end-to.ensures in (omega (arith, end.0), end.1)

pub loop-c-preserved : goal.loop-c-preserved
loop-c-preserved c =
    let k = c.loop-c.c in
    let n = count c.args.edges.now in
    let b : 8 * k < n = omega (arith, c.div_ceil-c-end.ensures, c.loop-c-test.true) in
    let d : 8 * k / 8 ≡ k = omega arith in
    let e : min (8 * k) n ≡ 8 * k = omega (arith, b) in
    let i = rw e at c.loop-c.invariant in
    elim c.if-not-is_passed.branch [
      | then-not-is_passed w ↦
          let end = w.chain_end-to.ensures in
          let f = chain_to k n _ end.1 end.2 end.3 in
          rw (w.best-is, ← f) (and_then i w.row-best.ensures)
      | else-not-is_passed w ↦
          let l : 8 * k ≤ min (8 * (k + 1)) n = omega (arith, b) in
          let m = chain_passed _ _ _ _ (8 * k) (min (8 * (k + 1)) n) c.requires (rw d c.is_passed.ensures) w.if-not-is_passed.false (omega arith) (omega arith) in
          rw w.best-is (and_then i (onward_missed _ _ _ _ _ _ _ _ l m))
    ]

pub returns : goal.returns
returns c = all_of (omega (arith, c.div_ceil-c-end.ensures, c.loop-c-test.false)) c.loop-c.invariant
