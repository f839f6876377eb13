-- `reason_search::take` meets its contract: the line before again, or one anew. Assumes nothing.
use mathlib.Core.Path.{refl, ap, ◌∙◌}
use Rattle.reason_search.specs.Search.{parting}
use Rattle.reason_search.proofs.Firsts.{again, instead, some_is}
use Rattle.reason_search.proofs.take.Goals as goal

pub returns-then-edge_right-clause-value : goal.returns-then-edge_right-clause-value
returns-then-edge_right-clause-value c =
    let r = again c.requires.4 _ _ c.edge_right.ensures c.if-edge_right.true in
    some_is _ _ _ _ r.0 r.1 refl

pub returns-clause-value : goal.returns-clause-value
returns-clause-value c =
    let s = c.args in
    c.take_anew.ensures.value
    ∙ ap (parting s.a.now s.b.now s.s s.t) (instead c.requires.4 _ _ c.edge_right.ensures c.if-edge_right.false refl)
