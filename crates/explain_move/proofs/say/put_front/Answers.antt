-- `explain_move::say::put_front` meets its contract: seven texts, one after the other. Assumes nothing.
use Rattle.std.proofs.Common.{arith}
use Rattle.print.proofs.Puts.{then}
use Rattle.explain_move.specs.Lines.{hit_front}
use Rattle.explain_move.proofs.say.put_front.Goals as goal

pub returns : goal.returns
unfolding hit_front
returns c = (
  then c.put_text-a.ensures
      (then c.put_decimal-b.ensures.0 (then c.put_text-c.ensures (then c.put_decimal-d.ensures.0 (then c.put_text-e.ensures (then c.put_decimal-f.ensures.0 c.put_text.ensures))))),
  omega (arith, c.put_text-a.ensures.ends, c.put_decimal-b.ensures.1, c.put_text-c.ensures.ends, c.put_decimal-d.ensures.1, c.put_text-e.ensures.ends, c.put_decimal-f.ensures.1, c.put_text.ensures.ends),
)
