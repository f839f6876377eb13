-- `clear_move::say::put_ground` meets its contract: one text for each. Assumes nothing.
use Rattle.std.proofs.Common.{sym, ap}
use Rattle.print.proofs.Puts.{reads}
use Rattle.reason_check.specs.Told.{ground}
use Rattle.reason_check.specs.declared.Ground.{Ground}
use Rattle.clear_move.specs.Lines.{ground_text}
use Rattle.clear_move.proofs.say.put_ground.Goals as goal

pub returns-in-Clear : goal.returns-in-Clear
unfolding ground_text
returns-in-Clear c = reads (ap (λ (f : Ground). ground_text (ground f) c.args.ls.now c.args.m) (sym c.in-Clear.is)) c.put_clear.ensures

pub returns-in-Edge : goal.returns-in-Edge
unfolding ground_text
returns-in-Edge c = reads (ap (λ (f : Ground). ground_text (ground f) c.args.ls.now c.args.m) (sym c.in-Edge.is)) c.put_edge.ensures

pub returns-in-Enclosed : goal.returns-in-Enclosed
unfolding ground_text
returns-in-Enclosed c = reads (ap (λ (f : Ground). ground_text (ground f) c.args.ls.now c.args.m) (sym c.in-Enclosed.is)) c.put_text.ensures
