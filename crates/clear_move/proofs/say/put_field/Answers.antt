-- `clear_move::say::put_field` meets its contract: the number and the byte, one after the other. Assumes nothing.
use Rattle.std.proofs.Common.{get_or, pos, ap, w32, SFits, rules, arith}
use mir.ValLaws.{to_z-of_z}
use Rattle.print.proofs.Puts.{then, reads}
use Rattle.clear_move.specs.Lines.{signed}
use Rattle.clear_move.proofs.say.put_field.Goals as goal

pub returns : goal.returns
returns c =
    let f : SFits w32 (get_or c.args.ls.now c.args.i (pos 0)) = search rules in (
      then (reads (ap signed (to_z-of_z w32 _ f)) c.put_signed-end.ensures.0) c.put_text.ensures,
      omega (arith, c.put_signed-end.ensures.1, c.put_text.ensures.ends),
    )
