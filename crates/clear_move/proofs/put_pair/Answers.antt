-- `clear_move::put_pair` meets its contract: the call, and the text of its answer. Assumes nothing.
use Rattle.std.proofs.Common.{refl, ◌∙◌, w32}
use mir.ValLaws.{to_z-of_z}
use Rattle.print.proofs.Puts.{reads}
use Rattle.clear_move.proofs.Inputs.{same_pair}
use Rattle.clear_move.proofs.Answers.{pair_said}
use Rattle.clear_move.proofs.put_pair.Goals as goal

pub returns : goal.returns
returns c =
    reads
    (pair_said c.args.stationary.now c.args.orbiting.now _ _ c.clear_move-answer.ensures.0 c.clear_move-answer.ensures.1
    ∙ same_pair refl refl (to_z-of_z w32 _ c.ranges.dx) (to_z-of_z w32 _ c.ranges.dy))
    c.put_judged.ensures
