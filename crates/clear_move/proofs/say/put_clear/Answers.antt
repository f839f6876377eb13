-- `clear_move::say::put_clear` meets its contract: how many lines there are, and each. Assumes nothing.
use Rattle.std.proofs.Common.{refl, ap}
use Rattle.print.specs.Digits.{decimal}
use Rattle.print.proofs.Puts.{reads}
use Rattle.clear_move.specs.Shared.{owner}
use Rattle.clear_move.specs.Owned.{first}
use Rattle.clear_move.proofs.Reasons.{text_put}
use Rattle.clear_move.proofs.Alike.{text_same}
use Rattle.clear_move.proofs.say.put_clear.Goals as goal

pub returns : goal.returns
returns c =
    let a = c.args in
    let o = first c.note_owners.new.owners in
    let count = reads (ap decimal c.count_lines.ensures) c.put_decimal-b.ensures.0 in
    reads (text_same o (owner a.ls.now) a.m c.note_owners.ensures a.ls.now a.ls.now (λ j l. refl))
    (text_put o a.ls.now a.m c.put_text-a.ensures count c.put_text-c.ensures c.put_lines.ensures)
