-- `pass_run::still::same_pose` meets its contract. Assumes nothing.
use Rattle.pass_run.proofs.Standstill.{one_pose}
use Rattle.pass_run.proofs.still.same_pose.Goals as goal

pub returns-then-a-b : goal.returns-then-a-b
returns-then-a-b c = λ h. one_pose _ _ (c.same_point.ensures c.if-same_point.true) c.if-a-b.true (c.same_previous.ensures h)

pub returns-else-a-b : goal.returns-else-a-b
returns-else-a-b c = λ h. cc

pub returns-else-same_point : goal.returns-else-same_point
returns-else-same_point c = λ h. cc
