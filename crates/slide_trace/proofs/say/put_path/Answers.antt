-- `slide_trace::say::put_path` meets its contract: the heading, and the points. Assumes nothing.
use Rattle.print.proofs.Puts.{then}
use Rattle.slide_trace.proofs.say.put_path.Goals as goal

pub returns : goal.returns
returns c = then c.put_heading-at.ensures.0 c.put_points.ensures.put
