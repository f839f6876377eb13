-- `clear_move::shared::count_lines` meets its contract: edge by edge. Assumes nothing.
use Rattle.std.proofs.Common.{Bool, cond, refl, ap, ◌∙◌, arith}
use Rattle.laws.specs.Turns.{tally}
use Rattle.clear_move.specs.Shared.{has}
use Rattle.clear_move.specs.Owned.{first}
use Rattle.clear_move.proofs.Shares.{tally_more, tally_most}
use Rattle.clear_move.proofs.shared.count_lines.Goals as goal

pub loop-k-init : goal.loop-k-init
unfolding tally
loop-k-init c = refl

pub overflow_add-count : goal.overflow_add-count
overflow_add-count c =
    omega (arith, c.loop-k.invariant, c.flag-count.ensures.1, tally_most (λ k. has (first c.args.owners.now) k k) c.loop-k.k)

pub loop-k-preserved : goal.loop-k-preserved
loop-k-preserved c =
    let o = first c.args.owners.now in
    let f = c.flag-count.ensures.0 ∙ ap (λ (x : Bool). cond x 1 0) c.has.ensures in
    tally_more (λ k. has o k k) c.loop-k.k c.loop-k.invariant f
