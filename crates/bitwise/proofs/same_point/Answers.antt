-- `bitwise::same_point` meets its contract. Assumes nothing.
use Rattle.bitwise.proofs.Bits.{one_point}
use Rattle.bitwise.proofs.same_point.Goals as goal

pub returns-then-same_number : goal.returns-then-same_number
returns-then-same_number c = λ h. one_point _ _ (c.same_number.ensures c.if-same_number.true) (c.same_number-then-same_number.ensures h)

pub returns-else-same_number : goal.returns-else-same_number
returns-else-same_number c = λ h. cc
