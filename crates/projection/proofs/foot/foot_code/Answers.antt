-- `projection::foot::foot_code` meets its contract: the three cases. Assumes nothing.
use Rattle.projection.proofs.foot.foot_code.Goals as goal

pub returns-in-Start : goal.returns-in-Start
returns-in-Start c = rw c.in-Start.is

pub returns-in-End : goal.returns-in-End
returns-in-End c = rw c.in-End.is

pub returns-in-Between : goal.returns-in-Between
returns-in-Between c = rw c.in-Between.is
