-- `number_bytes::big4` meets its contract: the four bytes, weighed. Assumes nothing.
use native.Mathlib.Omega.{arith}
use Rattle.number_bytes.proofs.Places.{big_four}
use Rattle.number_bytes.proofs.big4.Goals as goal

pub returns : goal.returns
returns c =
    let f = c.args.f.now in
    ((omega (arith, big_four f c.args.at c.requires, c.wide-a.ensures.0, c.wide-b.ensures.0, c.wide-c.ensures.0, c.wide-d.ensures.0)), (omega arith))
