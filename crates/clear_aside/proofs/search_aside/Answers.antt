-- `clear_aside::search_aside` meets its contract: the search as it is, and then the other hows. Assumes nothing.
use mathlib.Core.Path.{ap}
use Rattle.reason_check.specs.Told.{ground}
use Rattle.clear_aside.proofs.Hows.{first_clear, first_edge, first_enclosed, first_lines, kept_clear, kept_enclosed}
use Rattle.clear_aside.proofs.search_aside.Goals as goal

pub returns-in-Clear : goal.returns-in-Clear
returns-in-Clear c =
    let g = c.args in
    let told = ap ground c.in-Clear.is in record {
      result_value = first_clear _ _ _ _ _ c.requires.moved c.search.ensures.result_value told;
      kept = kept_clear g.st.now g.a.now g.b.now g.from g.to _ 0
          (first_lines _ _ _ _ _ c.requires.moved c.search.ensures.result_value _ c.search.ensures.lines_after told);
    }

pub returns-in-Edge : goal.returns-in-Edge
returns-in-Edge c = record {
  result_value = first_edge _ _ _ _ _ c.requires.moved c.search.ensures.result_value
      (ap ground c.in-Edge.is) c.search_on.ensures.result_value;
  kept = c.search_on.ensures.kept;
}

pub returns-in-Enclosed : goal.returns-in-Enclosed
returns-in-Enclosed c =
    let g = c.args in record {
      result_value = first_enclosed _ _ _ _ _ c.requires.moved c.search.ensures.result_value
          (ap ground c.in-Enclosed.is);
      kept = kept_enclosed g.st.now g.a.now g.b.now g.from g.to _ 0;
    }
