-- `print::put_hex` meets its contract. Assumes nothing.
use mathlib.Core.Path.{refl}
use Rattle.print.proofs.Puts.{digits_put}
use Rattle.print.proofs.put_hex.Goals as goal

pub returns : goal.returns
returns c = let a = c.args in (digits_put a.room.now c.put_digits.new.room 16 a.at 16 16 a.n refl c.put_digits.ensures, refl)
