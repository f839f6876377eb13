-- `clear_move::say::put_shared` meets its contract: which edges, and then the line. Assumes nothing.
use Rattle.clear_move.proofs.Reasons.{shared_put}
use Rattle.clear_move.proofs.say.put_shared.Goals as goal

pub returns-clause-put : goal.returns-clause-put
returns-clause-put c =
    shared_put _ c.args.ls.now c.args.m c.args.j c.put_text-a.ensures c.put_ranges-b.ensures.put c.put_text-c.ensures c.put_reason_line.ensures.0
