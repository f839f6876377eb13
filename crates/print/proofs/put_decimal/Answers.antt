-- `print::put_decimal` meets its contract. Assumes nothing.
use native.Mathlib.Omega.{arith}
use Rattle.print.specs.Digits.{width}
use Rattle.print.proofs.Puts.{digits_put}
use Rattle.print.proofs.put_decimal.Goals as goal

pub returns : goal.returns
returns c = let a = c.args in (digits_put a.room.now c.put_digits.new.room 10 a.at c.width_of-k.result (width a.n) a.n c.width_of-k.ensures.0 c.put_digits.ensures, (omega (arith, c.width_of-k.ensures.1)))
