-- `whole_engine::row::are_within` meets its contract: it makes the test of each number. Assumes nothing.
use mathlib.Core.Path.{◌∙◌}
use Rattle.std.proofs.Common.{rules, tests}
use Rattle.std.proofs.lemmas.Iterator.{YieldsList-from_slice}
use Rattle.std.proofs.lemmas.Iterator.Search.{all_from_yields_List}
use Rattle.shifted.specs.Shifted.{in_bounds}
use Rattle.whole_engine.proofs.Within.{within_all}
use Rattle.whole_engine.proofs.row.are_within.Goals as goal

pub returns : goal.returns
returns c =
    let zs = c.args.list.now in
    all_from_yields_List in_bounds _ _ _ c.all.ensures.ran (YieldsList-from_slice zs cc) (λ x b q k. search (rules, tests))
    ∙ within_all zs
