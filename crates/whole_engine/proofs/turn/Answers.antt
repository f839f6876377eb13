-- `whole_engine::turn` meets its contract: the vectors from a, and then their turn. Assumes nothing.
use mathlib.Core.Path.{◌∙◌}
use Rattle.whole_engine.proofs.Turning.{side_is}
use Rattle.whole_engine.proofs.turn.Goals as goal

pub returns : goal.returns
returns c =
    c.side.ensures ∙ side_is _ _ _ _ _ _ _ c.away-p.ensures.0 c.away-q.ensures.0 c.away-r.ensures.0 c.away-s.ensures.0
