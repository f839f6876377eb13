-- `clear_move::shared::put_ranges` meets its contract: the part of each edge follows those before it. Assumes nothing.
use Rattle.std.proofs.Common.{◌+◌, refl, ◌∙◌, arith}
use Rattle.clear_move.specs.Shared.{has}
use Rattle.clear_move.specs.Owned.{first}
use Rattle.clear_move.proofs.Shares.{tally_more, tally_up}
use Rattle.clear_move.proofs.Runs.{no_range, range_more}
use Rattle.clear_move.proofs.shared.put_ranges.Goals as goal

pub loop-k-init : goal.loop-k-init
loop-k-init c =
    let a = c.args in
    (refl, omega arith, no_range (first a.owners.now) a.m a.j a.out.now a.at)

pub put_part-next-requires : goal.put_part-next-requires
put_part-next-requires c =
    let a = c.args in
    let p = has (first a.owners.now) a.j in
    let k = c.loop-k.k in
    let v = c.loop-k.invariant in (
      c.loop-k-test.true,
      c.requires.0,
      omega (arith, v.0, v.1, c.requires.1, tally_more p k refl refl, tally_up p (k + 1) a.m (omega (arith, c.loop-k-test.true))),
    )

pub loop-k-preserved : goal.loop-k-preserved
loop-k-preserved c =
    let a = c.args in
    let o = first a.owners.now in
    let v = c.loop-k.invariant in
    let q = c.put_part-next in (
      q.auto.out ∙ v.0,
      omega (arith, v.1, q.ensures.upper_bound, tally_more (has o a.j) c.loop-k.k refl refl),
      range_more o a.m a.j c.loop-k.k v.2 q.ensures.put,
    )
