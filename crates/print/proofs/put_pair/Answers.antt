-- `print::put_pair` meets its contract: four texts one after the other. Assumes nothing.
use native.Mathlib.Omega.{arith}
use Rattle.print.proofs.Puts.{then}
use Rattle.print.proofs.put_pair.Goals as goal

-- LEFT slice-aggregate-put-text : tie.Need-slice-aggregate-put-text
-- slice-aggregate-put-text c = search rules

-- LEFT slice-aggregate-put-text-2 : tie.Need-slice-aggregate-put-text-2
-- slice-aggregate-put-text-2 c = search rules

pub returns : goal.returns
returns c =
    let p = then c.put_hex-space.ensures.0 (then c.put_text-second.ensures (then c.put_hex-end.ensures.0 c.put_text.ensures)) in
    (p, (omega (arith, c.put_hex-space.ensures.1, c.put_text-second.ensures.ends, c.put_hex-end.ensures.1, c.put_text.ensures.ends)))
