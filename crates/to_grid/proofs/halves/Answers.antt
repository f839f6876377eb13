-- `to_grid::halves` meets its contract. Assumes nothing.
use native.Mathlib.Omega.{arith}
use Rattle.to_grid.proofs.Digits.{taken_apart, upper_small, lower_small}
use Rattle.to_grid.proofs.halves.Goals as goal

pub overflow_mul-result : goal.overflow_mul-result
overflow_mul-result c = omega (arith, upper_small _ _ c.requires.0 c.requires.1)

pub overflow_mul-result-2 : goal.overflow_mul-result-2
overflow_mul-result-2 c = omega (arith, lower_small _ _ c.requires.0 c.requires.1)

pub overflow_add-result : goal.overflow_add-result
overflow_add-result c = omega (arith, upper_small _ _ c.requires.0 c.requires.1, lower_small _ _ c.requires.0 c.requires.1)

pub returns : goal.returns
returns c = taken_apart _ _
