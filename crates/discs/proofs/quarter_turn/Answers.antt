-- `discs::quarter_turn` meets its contract: the negated number, and the other. Assumes nothing.
use Rattle.discs.proofs.Turned.{turn_is}
use Rattle.discs.proofs.quarter_turn.Goals as goal

pub returns : goal.returns
returns c = turn_is _ c.negated.ensures c.requires
