-- `clear_move::say::put_reason_line` meets its contract: four numbers, a byte after each. Assumes nothing.
use Rattle.std.proofs.Common.{arith}
use Rattle.clear_move.proofs.Reasons.{line_put}
use Rattle.clear_move.proofs.say.put_reason_line.Goals as goal

pub returns : goal.returns
returns c = (
  line_put c.args.ls.now c.args.j c.put_field-a.ensures.0 c.put_field-b.ensures.0 c.put_field-c.ensures.0 c.put_field.ensures.0,
  omega (arith, c.put_field-a.ensures.1, c.put_field-b.ensures.1, c.put_field-c.ensures.1, c.put_field.ensures.1),
)
