-- `number_bytes::number4` meets its contract: the four bytes, weighed. Assumes nothing.
use native.Mathlib.Omega.{arith}
use Rattle.number_bytes.proofs.Places.{four}
use Rattle.number_bytes.proofs.number4.Goals as goal

pub returns : goal.returns
returns c =
    let f = c.args.f.now in
    ((omega (arith, four f c.args.at c.requires, c.wide-a.ensures.0, c.wide-b.ensures.0, c.wide-c.ensures.0, c.wide-d.ensures.0)), (omega arith))
