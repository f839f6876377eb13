-- `pairs::pair_at` meets its contract: a number below those of kind 0, or a later one. Assumes nothing.
use native.Mathlib.Omega.{arith}
use Rattle.pairs.proofs.Numbers.{some, most, kind_most, at_first, at_later}
use Rattle.pairs.proofs.pair_at.Goals as goal

pub overflow_mul-m : goal.overflow_mul-m
overflow_mul-m c = omega (arith, most _ _ c.requires.sides)

pub nonzero_rem-r : goal.nonzero_rem-r
nonzero_rem-r c = omega (arith, some _ _ c.requires.sides)

pub returns-then-k-m : goal.returns-then-k-m
returns-then-k-m c = at_first _ _ c.requires.sides _ c.if-k-m.true

pub nonzero_div-result-2 : goal.nonzero_div-result-2
nonzero_div-result-2 c = omega (arith, some _ _ c.requires.sides)

pub overflow_cast-result : goal.overflow_cast-result
overflow_cast-result c = omega (arith, kind_most _ _ c.requires.sides _ c.requires.k_bound)

pub returns : goal.returns
returns c = at_later _ _ c.requires.sides _ c.if-k-m.false
