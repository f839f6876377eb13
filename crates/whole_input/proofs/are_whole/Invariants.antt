use Rattle.std.proofs.Common.{◌≡◌, drop}
use Rattle.refusals.specs.Bounds.{every}
use Rattle.whole_input.specs.Whole.{is_whole}
use Rattle.whole_input.proofs.are_whole.Given as goal

abbrev pub invariant-loop-x : goal.invariant-loop-x
invariant-loop-x l = every is_whole l.list ≡ every is_whole (drop l.x-index l.list)
