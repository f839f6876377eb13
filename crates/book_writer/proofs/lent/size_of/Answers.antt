-- `book_writer::lent::size_of` meets its contract. Assumes nothing.
use Prim.Native.Nat.{◌≤◌, ◌*◌}
use mathlib.Core.Path.{◌≡◌}
use native.Mathlib.Omega.{arith}
use lib.ListN.{length}
use Rattle.refusals.specs.Rings.{vertices_most, total}
use Rattle.refusals.proofs.Counts.{total_bounds}
use Rattle.book_writer.proofs.lent.size_of.Goals as goal
use Rattle.book_writer.proofs.lent.size_of.Goals.{After-sum_of}

-- the sum, and that it is small
small : (c : After-sum_of) → (c.sum_of.result ≡ total c.args.counts.now) × (total c.args.counts.now ≤ vertices_most * length c.args.counts.now)
small c =
    (c.sum_of.ensures.value, (total_bounds c.args.counts.now c.requires.1).1)

pub overflow_mul-result : goal.overflow_mul-result
overflow_mul-result c = omega (arith, small c)

pub overflow_add-result : goal.overflow_add-result
overflow_add-result c = omega (arith, small c)

pub overflow_add-result-2 : goal.overflow_add-result-2
overflow_add-result-2 c = omega (arith, small c)

pub returns : goal.returns
returns c = omega (arith, small c)
