-- `clear_aside::search_by` meets its contract: the fronts of the arrays hold the disc put aside. Assumes nothing.
use mathlib.Core.Path.{refl, sym}
use native.Mathlib.Omega.{arith}
use lib.Seq.{length-take-le}
use Rattle.clear_aside.proofs.Fronts.{found_off, fronts_searched, found_is, lines_held}
use Rattle.clear_aside.proofs.search_by.Goals as goal

pub slice_bounds-search-end : goal.slice_bounds-search-end
slice_bounds-search-end c =
    sym (length-take-le _ _ (omega (arith, c.put_both.auto.start)))

pub slice_bounds-search-end-then-put_both : goal.slice_bounds-search-end-then-put_both
slice_bounds-search-end-then-put_both c =
    sym (length-take-le _ _ (omega (arith, c.put_both.auto.end)))

pub search-requires : goal.search-requires
search-requires c =
    fronts_searched _ _ _ _ _ _ c.put_both.ensures.value c.if-put_both.true
    (c.put_both.ensures.both_hold c.if-put_both.true) _ c.requires.0

pub returns-then-put_both : goal.returns-then-put_both
returns-then-put_both c =
    let is = c.put_both.ensures.value in
    let holds = c.put_both.ensures.both_hold c.if-put_both.true in
    record {
      result_value = found_is _ _ _ _ _ _ is c.if-put_both.true holds c.search.ensures.result_value;
      lines_held = (
        lines_held _ _ _ _ _ _ is c.if-put_both.true holds _ c.search.ensures.result_value c.search.ensures.lines_after,
        c.search.auto.lines,
      );
    }

pub returns-else-put_both : goal.returns-else-put_both
returns-else-put_both c = record { result_value = found_off _ _ _ _ _ _ c.put_both.ensures.value c.if-put_both.false; lines_held = (λ h. cc, refl) }
