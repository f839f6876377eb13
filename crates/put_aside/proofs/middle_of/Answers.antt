-- `put_aside::middle_of` meets its contract. The invariant: the least and the greatest of the first i corners. Assumes nothing.
use Prim.Native.Nat.{min, max}
use Rattle.std.proofs.Common.{rules}
use mathlib.Core.Path.{◌≡◌, ap, ◌∙◌}
use Rattle.put_aside.specs.Middle.{level}
use Rattle.put_aside.proofs.Leasts.{start, turn}
use Rattle.put_aside.proofs.middle_of.Goals as goal

pub loop-i-init : goal.loop-i-init
loop-i-init c =
    let e = ap (level c.args.axis c.args.from c.args.to) c.spot_at.ensures in
    start _ _ (c.level-low.ensures.0 ∙ e) c.level-low.ensures.1

pub loop-i-preserved : goal.loop-i-preserved
loop-i-preserved c =
    let e = ap (level c.args.axis c.args.from c.args.to) c.spot_at-in-loop-i.ensures in
    let v = c.loop-i.invariant in
    let low : c.min-low.result ≡ min c.loop-i.low c.level-k.result = search rules in
    let high : c.max-high.result ≡ max c.loop-i.high c.level-k.result = search rules in
    turn _ _ v (c.level-k.ensures.0 ∙ e) c.level-k.ensures.1 low high
