-- `reason_search::take_anew` meets its contract: a side of the box, a line of the way, or the edge's own. Assumes nothing.
use mathlib.Core.Path.{refl}
use Rattle.reason_search.specs.Noted.{way_lines}
use Rattle.reason_search.proofs.Below.{of_some, of_none}
use Rattle.reason_search.proofs.Firsts.{box_fits, anew_side, anew_way, anew_own, anew_last, some_is, none_is}
use Rattle.reason_search.proofs.take_anew.Goals as goal

pub first_side-requires : goal.first_side-requires
first_side-requires c =
    let p = c.requires in
    let f = box_fits c.args.a.now c.args.b.now p.0.moved p.0.some p.1 in
    (f.0, f.1, p.2, p.3)

pub returns-in-Some-clause-value : goal.returns-in-Some-clause-value
returns-in-Some-clause-value c =
    let p = c.requires.1 in
    let at = of_some 4 _ c.in-Some.ensures in
    let r = anew_side c.args.a.now c.args.b.now _ _ p.0 p.1 at.0 at.1 c.side.ensures in
    some_is _ _ _ _ r.0 r.1 refl

pub way_line-requires : goal.way_line-requires
way_line-requires c =
    (c.requires.0.moved, (of_some (way_lines c.args.a.now) _ c.in-Some-first_helping.ensures.value).1)

pub returns-in-Some-first_helping-clause-value : goal.returns-in-Some-first_helping-clause-value
returns-in-Some-first_helping-clause-value c =
    let p = c.requires.1 in
    let no_side = of_none 4 _ c.in_default.ensures in
    let at = of_some (way_lines c.args.a.now) _ c.in-Some-first_helping.ensures.value in
    let r = anew_way c.args.a.now c.args.b.now _ _ p.0 p.1 refl no_side at.0 at.1 c.way_line.ensures.0 in
    some_is _ _ _ _ r.0 r.1 refl

pub returns-then-parts-clause-value : goal.returns-then-parts-clause-value
returns-then-parts-clause-value c =
    let p = c.requires.1 in
    let no_side = of_none 4 _ c.in_default.ensures in
    let no_way = of_none (way_lines c.args.a.now) _ c.in_default-first_helping.ensures.value in
    let r = anew_own c.args.a.now c.args.b.now _ _ p.0 p.1 refl no_side refl no_way c.parts.ensures c.if-parts.true in
    some_is _ _ _ _ r.0 r.1 refl

pub returns-then-parts-2-clause-value : goal.returns-then-parts-2-clause-value
returns-then-parts-2-clause-value c =
    let p = c.requires.1 in
    let no_side = of_none 4 _ c.in_default.ensures in
    let no_way = of_none (way_lines c.args.a.now) _ c.in_default-first_helping.ensures.value in
    let r = anew_last c.args.a.now c.args.b.now _ _ p.0 p.1 refl no_side refl no_way c.parts.ensures c.if-parts.false in
    some_is _ _ _ _ r c.parts-2.ensures c.if-parts-2.true

pub returns-clause-value : goal.returns-clause-value
returns-clause-value c =
    let p = c.requires.1 in
    let no_side = of_none 4 _ c.in_default.ensures in
    let no_way = of_none (way_lines c.args.a.now) _ c.in_default-first_helping.ensures.value in
    let r = anew_last c.args.a.now c.args.b.now _ _ p.0 p.1 refl no_side refl no_way c.parts.ensures c.if-parts.false in
    none_is _ _ _ _ r c.parts-2.ensures c.if-parts-2.false
