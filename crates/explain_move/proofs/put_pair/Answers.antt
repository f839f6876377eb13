-- `explain_move::put_pair` meets its contract. Assumes nothing.
use Rattle.std.proofs.Common.{ap}
use Rattle.print.proofs.Puts.{reads}
use Rattle.explain_move.specs.Lines.{outcome_line}
use Rattle.explain_move.specs.Said.{explained_text}
use Rattle.explain_move.proofs.put_pair.Goals as goal

pub returns : goal.returns
unfolding explained_text
returns c = reads (ap outcome_line c.explain_collision.ensures) c.put_explained.ensures
