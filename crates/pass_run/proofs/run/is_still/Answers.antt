-- `pass_run::run::is_still` meets its contract. Assumes nothing.
use Rattle.pass_run.proofs.Standstill.{one_state}
use Rattle.pass_run.proofs.run.is_still.Goals as goal

pub returns-then-next-state : goal.returns-then-next-state
returns-then-next-state c = λ h. one_state _ _ (c.same_pose.ensures h) c.if-next-state.true

pub returns-else-next-state : goal.returns-else-next-state
returns-else-next-state c = λ h. cc
