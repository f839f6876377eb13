-- A loop that asks one number after the other for a position: what is left of the row decides. Assumes nothing.
use Prim.Native.Nat.{ℕ, suc, ◌+◌, ◌-◌, ◌≤◌, ◌<◌}
use mathlib.Core.Path.{◌≡◌}
use native.Mathlib.Omega.{arith}
use native.Mathlib.Numerals.{add-one}
use Rattle.plane.specs.declared.Point.{Point}
use Rattle.std.specs.Prelude.{Option, Some, None}
use Rattle.interlocking.specs.Interlocking.{or_else, first_found}

module _ (f : ℕ → Option Point) (k n : ℕ) where
  one_less : k < n → n - k ≡ suc (n - (k + 1))
  one_less h = omega arith

  pub found_on : {v : Option Point} → k < n → v ≡ f k → v ≡ None → first_found f k (n - k) ≡ first_found f (k + 1) (n - (k + 1))
  unfolding first_found or_else
  found_on h e t = rw (one_less h, ← e, t, add-one k)

  pub found_here : {v : Option Point} {p : Point} → k < n → v ≡ f k → v ≡ Some p → first_found f k (n - k) ≡ Some p
  unfolding first_found or_else
  found_here h e t = rw (one_less h, ← e, t)

  pub found_none : n ≤ k → first_found f k (n - k) ≡ None
  unfolding first_found
  found_none h = let e : n - k ≡ 0 = omega arith in rw e
