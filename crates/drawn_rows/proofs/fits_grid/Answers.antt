-- `drawn_rows::fits_grid` meets its contract: list by list, then the disc at each point. Assumes nothing.
use mathlib.Core.Bool.{not}
use mathlib.Core.Path.{ap, sym, ◌∙◌}
use borrow.Author.Tests.{not-true, not-false}
use Rattle.drawn_rows.proofs.Screened.{ring_off, disc_off, path_off, lists_on}
use Rattle.drawn_rows.proofs.fits_grid.Goals as goal

pub returns-then-not-are_within : goal.returns-then-not-are_within
returns-then-not-are_within c = ring_off _ _ _ _ (sym c.are_within.ensures ∙ not-true _ (ap not c.if-not-are_within.true))

pub returns-then-not-are_within-2 : goal.returns-then-not-are_within-2
returns-then-not-are_within-2 c =
    disc_off _ _ _ _ (sym c.are_within.ensures ∙ not-false _ (ap not c.if-not-are_within.false))
    (sym c.are_within-2.ensures ∙ not-true _ (ap not c.if-not-are_within-2.true))

pub returns-then-not-are_within-3 : goal.returns-then-not-are_within-3
returns-then-not-are_within-3 c =
    path_off _ _ _ _ (sym c.are_within.ensures ∙ not-false _ (ap not c.if-not-are_within.false))
    (sym c.are_within-2.ensures ∙ not-false _ (ap not c.if-not-are_within-2.false))
    (sym c.are_within-3.ensures ∙ not-true _ (ap not c.if-not-are_within-3.true))

pub is_placed-requires : goal.is_placed-requires
is_placed-requires c = record {
  le_units = c.requires;
  orbiting_value = (
    sym c.are_within-2.ensures ∙ not-false _ (ap not c.if-not-are_within-2.false),
    sym c.are_within-3.ensures ∙ not-false _ (ap not c.if-not-are_within-3.false),
  );
}

pub returns : goal.returns
returns c =
    c.is_placed.ensures
    ∙ lists_on _ _ _ _ (sym c.are_within.ensures ∙ not-false _ (ap not c.if-not-are_within.false))
    (sym c.are_within-2.ensures ∙ not-false _ (ap not c.if-not-are_within-2.false))
    (sym c.are_within-3.ensures ∙ not-false _ (ap not c.if-not-are_within-3.false))
