-- `clear_move::shared::first_with` meets its contract: the edges one after the other. Assumes nothing.
use Rattle.std.proofs.Common.{◌≡◌, ◌∙◌, arith}
use Rattle.reasons.proofs.First.{turn, here, end}
use Rattle.clear_move.specs.Shared.{owner}
use Rattle.clear_move.proofs.shared.first_with.Goals as goal

pub returns-then-same_line : goal.returns-then-same_line
unfolding owner
returns-then-same_line c = here _ _ c.loop-i.invariant c.loop-i-test.true c.same_line.ensures c.if-same_line.true

pub loop-i-preserved : goal.loop-i-preserved
loop-i-preserved c = turn _ _ c.loop-i.invariant c.loop-i-test.true c.same_line.ensures c.if-same_line.false

pub returns : goal.returns
unfolding owner
returns c = let e : c.args.j ≡ c.loop-i.i = omega arith in e ∙ end _ _ c.loop-i.invariant c.loop-i-test.false
