-- `reason_search::helps_unnoted` meets its contract: the line, and whether it parts. Assumes nothing.
use Rattle.reason_search.proofs.Firsts.{unnoted}
use Rattle.reason_search.proofs.helps_unnoted.Goals as goal

pub parts-requires : goal.parts-requires
parts-requires c =
    let p = c.requires in
    (p.0, p.1, p.2, c.way_line-l.ensures.1, c.way_line-l.ensures.2)

pub returns : goal.returns
returns c =
    let a = c.args in
    unnoted a.a.now a.b.now _ _ _ c.way_line-l.ensures.0 c.parts.ensures
