-- `whole_engine::clear_pair` meets its contract: what is told, then the sides, then the test. Assumes nothing.
use mathlib.Core.Path.{sym, ◌∙◌}
use Rattle.whole_engine.proofs.Meeting.{by_side}
use Rattle.whole_engine.proofs.clear_pair.Goals as goal

pub returns-then-same_side : goal.returns-then-same_side
returns-then-same_side c =
    let side = by_side c.args.a1 c.args.a2 c.args.b1 c.args.b2 _ _ c.requires.d3_value.0 c.requires.d3_value.1 (sym c.same_side.ensures ∙ c.if-same_side.true) in
    rw (c.if-shared.false, side)
