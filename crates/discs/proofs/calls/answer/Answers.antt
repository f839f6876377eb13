-- `discs::calls::answer` meets its contract: what is tested is the front of the array. Assumes nothing.
use mathlib.Core.Path.{sym}
use native.Mathlib.Omega.{arith}
use lib.Seq.{length-take-le}
use Rattle.discs.proofs.Seven.{quarter_most}
use Rattle.discs.proofs.calls.answer.Goals as goal

pub slice_bounds-numbers-end : goal.slice_bounds-numbers-end
slice_bounds-numbers-end c =
    sym (length-take-le _ _ (omega (arith, quarter_most c.args.m c.requires, c.draw.auto.room)))
