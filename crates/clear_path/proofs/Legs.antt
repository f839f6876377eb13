-- A loop that searches one leg after the other: what is left of the row decides. Assumes nothing.
use Prim.Native.Nat.{ℕ, suc, ◌+◌, ◌-◌, ◌≤◌, ◌<◌}
use mathlib.Core.Path.{◌≡◌}
use native.Mathlib.Numerals.{add-one}
use native.Mathlib.Omega.{arith}
use Rattle.reasons.specs.Check.{Ground, clear, edge, enclosed}
use Rattle.clear_path.specs.Path.{or_else, first_leg}
use Rattle.clear_path.specs.declared.PathGround.TheVariants.{Clear, Edge, Enclosed}

pub all_left : (f : ℕ → Ground) (n : ℕ) → first_leg f 0 n ≡ first_leg f 0 (n - 0)
all_left f n = let e : n - 0 ≡ n = omega arith in rw e

module _ (f : ℕ → Ground) (k n : ℕ) where
  one_less : k < n → n - k ≡ suc (n - (k + 1))
  one_less h = omega arith

  pub leg_on : {v : Ground} → k < n → v ≡ f k → v ≡ clear → first_leg f k (n - k) ≡ first_leg f (k + 1) (n - (k + 1))
  unfolding first_leg or_else
  leg_on h e t = rw (one_less h, ← e, t, add-one k)

  pub leg_edge : {v : Ground} {j : ℕ} → k < n → v ≡ f k → v ≡ edge j → first_leg f k (n - k) ≡ Edge k j
  unfolding first_leg or_else
  leg_edge h e t = rw (one_less h, ← e, t)

  pub leg_enclosed : {v : Ground} → k < n → v ≡ f k → v ≡ enclosed → first_leg f k (n - k) ≡ Enclosed k
  unfolding first_leg or_else
  leg_enclosed h e t = rw (one_less h, ← e, t)

  pub leg_end : n ≤ k → first_leg f k (n - k) ≡ Clear
  unfolding first_leg
  leg_end h = let e : n - k ≡ 0 = omega arith in rw e
