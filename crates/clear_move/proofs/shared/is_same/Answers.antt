-- `clear_move::shared::is_same` meets its contract: the numbers as the machine holds them. Assumes nothing.
use Rattle.std.proofs.Common.{get_or, pos, w32, SFits, rules}
use Rattle.clear_move.proofs.Shares.{same_held}
use Rattle.clear_move.proofs.shared.is_same.Goals as goal

pub returns : goal.returns
returns c =
    let f : SFits w32 (get_or c.args.ls.now c.args.i (pos 0)) = search rules in
    let g : SFits w32 (get_or c.args.ls.now c.args.j (pos 0)) = search rules in
    same_held _ _ f g
