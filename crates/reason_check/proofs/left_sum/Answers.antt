-- `reason_check::left_sum` meets its contract: the products fit, and so do their sums. Assumes nothing.
use native.Mathlib.Omega.{arith}
use Rattle.reason_check.proofs.Small.{product}
use Rattle.reason_check.proofs.left_sum.Goals as goal

pub overflow_mul-result : goal.overflow_mul-result
overflow_mul-result c = omega (arith, product c.requires.1.width c.requires.2.height)

pub overflow_mul-result-2 : goal.overflow_mul-result-2
overflow_mul-result-2 c =
    omega (arith, product c.requires.0.height c.requires.2.width)

pub overflow_add-result : goal.overflow_add-result
overflow_add-result c =
    omega (arith, product c.requires.1.width c.requires.2.height, product c.requires.0.height c.requires.2.width)

pub overflow_mul-result-3 : goal.overflow_mul-result-3
overflow_mul-result-3 c =
    omega (arith, product c.requires.0.width c.requires.1.height)

pub overflow_add-result-2 : goal.overflow_add-result-2
overflow_add-result-2 c =
    omega (
      arith,
      product c.requires.1.width c.requires.2.height,
      product c.requires.0.height c.requires.2.width,
      product c.requires.0.width c.requires.1.height,
    )
