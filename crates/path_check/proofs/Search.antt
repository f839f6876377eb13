-- A loop that asks one point after the other for its fault: what is left of the row decides. Assumes nothing.
use Prim.Native.Nat.{ℕ, suc, ◌+◌, ◌-◌, ◌≤◌, ◌<◌}
use mathlib.Core.Path.{◌≡◌}
use native.Mathlib.Omega.{arith}
use native.Mathlib.Numerals.{add-one}
use Rattle.path_check.specs.Path.{or_else, first_fault}
use Rattle.path_check.specs.declared.Fault.{Fault}
use Rattle.std.specs.Prelude.{Option, None, Some}

module _ (f : ℕ → Option Fault) (k n : ℕ) where
  one_less : k < n → n - k ≡ suc (n - (k + 1))
  one_less h = omega arith

  pub fault_on : {v : Option Fault} → k < n → v ≡ f k → v ≡ None → first_fault f k (n - k) ≡ first_fault f (k + 1) (n - (k + 1))
  unfolding first_fault or_else
  fault_on h e t = rw (one_less h, ← e, t, add-one k)

  pub fault_here : {v : Option Fault} {g : Fault} → k < n → v ≡ f k → v ≡ Some g → first_fault f k (n - k) ≡ Some g
  unfolding first_fault or_else
  fault_here h e t = rw (one_less h, ← e, t)

  pub fault_none : n ≤ k → first_fault f k (n - k) ≡ None
  unfolding first_fault
  fault_none h = let e : n - k ≡ 0 = omega arith in rw e
