-- `square_root::further` meets its contract: by its test. Assumes nothing.
use mathlib.Core.Path.{refl}
use mathlib.Core.Logic.{inl, inr}
use native.Mathlib.Omega.{arith}
use Rattle.square_root.proofs.further.Goals as goal

pub returns-then-takes-left : goal.returns-then-takes-left
returns-then-takes-left c = inl (omega arith, refl, refl)

pub returns-else-takes-left : goal.returns-else-takes-left
returns-else-takes-left c = inr (omega arith, refl, refl)
