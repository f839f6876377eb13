-- `reading::is_least` meets its contract. Assumes nothing.
use Prim.Native.Nat.{ℕ}
use mathlib.Core.Path.{ap}
use lib.Dec.{eqb}
use Rattle.reading.proofs.is_least.Goals as goal

pub returns : goal.returns
returns c = ap (λ (j : ℕ). eqb j 0) c.least.ensures.0
