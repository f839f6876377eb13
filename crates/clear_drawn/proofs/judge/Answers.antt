-- `clear_drawn::judge` meets its contract: by what is found, and where it is clear by the room. Assumes nothing.
use borrow.Author.Rules.{rules}
use mathlib.Core.Path.{sym, ap, ◌∙◌}
use Rattle.std.proofs.lemmas.Result.{err_from_is_err_and}
use Rattle.clear_aside.specs.Aside.{least}
use Rattle.clear_drawn.proofs.Drawn.{all_low, lowered}
use Rattle.clear_drawn.proofs.Handed.{handed_edge, handed_enclosed, handed_clear, handed_short}
use Rattle.clear_drawn.proofs.judge.Goals as goal

pub lower-requires-clause-by_index : goal.lower-requires-clause-by_index
lower-requires-clause-by_index c =
    let is = sym (ap least c.in-Clear.is) ∙ c.search_move.ensures.result_value in
    all_low c.requires.0 c.requires.1 _ is _ _ c.search_move.ensures.move_kept c.in-Clear.is _ c.search_move.auto.lines (search rules)

pub returns-in_ok-fit-in-Clear : goal.returns-in_ok-fit-in-Clear
returns-in_ok-fit-in-Clear c =
    let is = sym (ap least c.in-Clear.is) ∙ c.search_move.ensures.result_value in
    let held = c.args.reason.now in
    handed_clear _ _ _ _ _ held is c.in_ok-fit-in-Clear.ensures
    (lowered c.requires.0 c.requires.1 _ is _ _ c.search_move.ensures.move_kept c.in-Clear.is held c.lower.ensures)

pub returns-in_err-fit-in-Clear : goal.returns-in_err-fit-in-Clear
returns-in_err-fit-in-Clear c =
    let is = sym (ap least c.in-Clear.is) ∙ c.search_move.ensures.result_value in
    let p = err_from_is_err_and c.from_residual.result c.from_residual.ensures.1 in
    rw (p.1, p.2) (handed_short _ _ _ _ _ _ is _ c.in_err-fit-in-Clear.ensures)

pub returns-in-Edge : goal.returns-in-Edge
returns-in-Edge c =
    handed_edge _ _ _ _ _ _ (sym (ap least c.in-Edge.is) ∙ c.search_move.ensures.result_value)

pub returns-in-Enclosed : goal.returns-in-Enclosed
returns-in-Enclosed c =
    handed_enclosed _ _ _ _ _ _ (sym (ap least c.in-Enclosed.is) ∙ c.search_move.ensures.result_value)
