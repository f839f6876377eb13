-- `explain_move::say::put_hit` meets its contract: the front and four texts, one after the other. Assumes nothing.
use Rattle.std.proofs.Common.{ap}
use Rattle.print.specs.Digits.{hex}
use Rattle.print.proofs.Puts.{then, reads}
use Rattle.explain_move.specs.Lines.{hit_line}
use Rattle.explain_move.proofs.say.put_hit.Goals as goal

pub returns : goal.returns
unfolding hit_line
returns c =
    let d = reads (ap hex c.bits_of.ensures) c.put_hex-b.ensures.0 in
    let o = then c.put_text-c.ensures (then c.put_decimal-d.ensures.0 c.put_text.ensures) in
    then c.put_front-a.ensures.0 (then d o)
