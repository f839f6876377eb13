-- `simple_polygon::clear` meets its contract: three turns tell, or all four are asked. Assumes nothing.
use mathlib.Core.Path.{sym, ap, ◌∙◌}
use mathlib.Core.Bool.{not}
use Rattle.simple_polygon.proofs.Apart.{clear_of}
use Rattle.simple_polygon.proofs.clear.Goals as goal

pub returns-then-is_aside-2 : goal.returns-then-is_aside-2
returns-then-is_aside-2 c =
    clear_of _ _ _ _ c.requires.0 c.requires.1 (sym c.same_side.ensures ∙ c.if-same_side.true)
    (rw c.turn.ensures at (sym c.is_aside.ensures ∙ c.if-is_aside.true))
    (rw c.turn-then-is_aside.ensures at (sym c.is_aside-then-is_aside.ensures ∙ c.if-is_aside-2.true))

pub returns : goal.returns
returns c = ap not c.segments_intersect.ensures
