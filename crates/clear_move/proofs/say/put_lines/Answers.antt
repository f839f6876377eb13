-- `clear_move::say::put_lines` meets its contract: the lines of each edge follow those of the edges before it. Assumes nothing.
use Rattle.std.proofs.Common.{ℕ, ◌+◌, refl, ◌∙◌, ltb, arith}
use Rattle.clear_move.specs.Owned.{first}
use Rattle.clear_move.proofs.Shares.{told_more, tally_most}
use Rattle.clear_move.proofs.Reasons.{no_line, line_more}
use Rattle.clear_move.proofs.say.put_lines.Goals as goal

pub loop-j-init : goal.loop-j-init
loop-j-init c =
    let a = c.args in
    (refl, omega arith, no_line (first a.owners.now) a.ls.now a.m a.out.now a.at)

pub put_first-next-requires-clause-m_in_bounds : goal.put_first-next-requires-clause-m_in_bounds
put_first-next-requires-clause-m_in_bounds c =
    let a = c.args in
    let o = first a.owners.now in
    let j = c.loop-j.j in
    let v = c.loop-j.invariant in
    omega (arith, c.loop-j-test.true, v.0, v.1, c.requires.2, told_more o j a.m, tally_most (λ (k : ℕ). ltb (o k) (j + 1)) a.m)

pub loop-j-preserved : goal.loop-j-preserved
loop-j-preserved c =
    let a = c.args in
    let o = first a.owners.now in
    let v = c.loop-j.invariant in
    let q = c.put_first-next in (
      q.auto.out ∙ v.0,
      omega (arith, v.1, q.ensures.upper_bound, told_more o c.loop-j.j a.m),
      line_more o a.ls.now a.m c.loop-j.j v.2 q.ensures.put,
    )
