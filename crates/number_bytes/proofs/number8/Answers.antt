-- `number_bytes::number8` meets its contract: the low half and the high half. Assumes nothing.
use native.Mathlib.Omega.{arith}
use Rattle.number_bytes.proofs.Places.{eight}
use Rattle.number_bytes.proofs.number8.Goals as goal

pub returns : goal.returns
returns c =
    omega (arith, eight c.args.f.now c.args.at c.requires, c.number4-low.ensures.0, c.number4-high.ensures.0)
