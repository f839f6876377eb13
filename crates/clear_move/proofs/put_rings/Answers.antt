-- `clear_move::put_rings` meets its contract: one ring, coordinates that are not whole, or two polygons. Assumes nothing.
use Rattle.std.proofs.Common.{refl, sym, ap, ◌∙◌, w32}
use mir.ValLaws.{to_z-of_z}
use Rattle.lines.specs.Lines.{refusal_line}
use Rattle.print.proofs.Puts.{reads}
use Rattle.clear_move.proofs.Inputs.{same_pair, one_ring, not_whole, whole_rings}
use Rattle.clear_move.proofs.put_rings.Goals as goal

pub returns-then-rings-eq1 : goal.returns-then-rings-eq1
returns-then-rings-eq1 c =
    let a = c.args in
    reads (one_ring a.rings a.xs.now _ _ a.dx a.dy c.if-rings-eq1.true) c.put_refusal.ensures

pub returns-then-are_whole : goal.returns-then-are_whole
returns-then-are_whole c =
    let a = c.args in
    reads
    (same_pair refl refl (to_z-of_z w32 _ c.ranges.dx) (to_z-of_z w32 _ c.ranges.dy)
    ∙ whole_rings a.rings a.xs.now _ _ a.dx a.dy c.if-rings-eq1.false (sym c.are_whole.ensures ∙ c.if-are_whole.true))
    c.put_two.ensures

pub returns-else-are_whole : goal.returns-else-are_whole
returns-else-are_whole c =
    let a = c.args in
    reads
    (not_whole a.rings a.xs.now _ _ a.dx a.dy c.if-rings-eq1.false (sym c.are_whole.ensures ∙ c.if-are_whole.false))
    c.put_refusal-else-are_whole.ensures
