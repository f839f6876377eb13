-- `choose::weigh` meets its contract: `proofs/Climbing.antt` has the three cases. Assumes nothing.
use mathlib.Core.Path.{sym, ◌∙◌}
use Rattle.choose.proofs.Climbing.{not_raised, raised_kept, visited_passed}
use Rattle.choose.proofs.weigh.Goals as goal

pub returns-in_err-s : goal.returns-in_err-s
returns-in_err-s c =
    rw c.from_residual.ensures (not_raised _ _ _ _ _ _ c.score.ensures c.raise.ensures c.in_err-s.was)

pub returns-then-is_kept : goal.returns-then-is_kept
returns-then-is_kept c =
    raised_kept _ _ _ _ _ _ c.score.ensures c.raise.ensures c.in_ok-s.was (sym c.is_kept.ensures ∙ c.if-is_kept.true)

pub returns-else-is_kept : goal.returns-else-is_kept
returns-else-is_kept c = visited_passed _ _ _ _ _ _ (sym c.is_kept.ensures ∙ c.if-is_kept.false)
