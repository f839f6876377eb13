-- `number_bytes::big8` meets its contract: the low half and the high half. Assumes nothing.
use native.Mathlib.Omega.{arith}
use Rattle.number_bytes.proofs.Places.{big_eight}
use Rattle.number_bytes.proofs.big8.Goals as goal

pub returns : goal.returns
returns c =
    omega (arith, big_eight c.args.f.now c.args.at c.requires, c.big4-high.ensures.0, c.big4-low.ensures.0)
