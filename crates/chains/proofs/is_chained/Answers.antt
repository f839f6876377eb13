-- `chains::is_chained` meets its contract. Assumes nothing.
use mathlib.Core.Path.{sym}
use mathlib.Core.Bool.{true≢false}
use Rattle.chains.proofs.is_chained.Goals as goal

pub returns-then-n-lt16 : goal.returns-then-n-lt16
returns-then-n-lt16 c = λ h. absurd (true≢false (sym h))

pub returns-then-n-gt256 : goal.returns-then-n-gt256
returns-then-n-gt256 c = λ h. absurd (true≢false (sym h))
