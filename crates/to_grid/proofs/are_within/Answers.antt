-- `to_grid::are_within` meets its contract: it makes the test of each number. Assumes nothing.
use mathlib.Core.Path.{◌∙◌}
use Rattle.std.proofs.Common.{rules, tests}
use Rattle.std.proofs.lemmas.Iterator.{YieldsList-from_slice}
use Rattle.std.proofs.lemmas.Iterator.Search.{all_from_yields_List}
use Rattle.to_grid.specs.Grid.{fits_grid}
use Rattle.to_grid.proofs.Every.{every_all}
use Rattle.to_grid.proofs.are_within.Goals as goal

pub returns : goal.returns
returns c =
    let xs = c.args.list.now in
    all_from_yields_List (fits_grid c.args.units) _ _ _ c.all.ensures.ran (YieldsList-from_slice xs cc) (λ x b q k. search (rules, tests))
    ∙ every_all (fits_grid c.args.units) xs
