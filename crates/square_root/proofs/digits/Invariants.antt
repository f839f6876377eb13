use Prim.Native.Nat.{ℕ, ◌*◌, ◌^◌, ◌≤◌}
use mathlib.Core.Path.{◌≡◌}
use Rattle.square_root.proofs.Pairs.{Found}
use Rattle.square_root.proofs.digits.Given as goal

pub record Inv (m root left place : ℕ) : Type 0 where
  pub power : ℕ
  pub is : place ≡ 4 ^ power
  pub most : place ≤ 2 ^ 54
  pub found : Found (m * 2 ^ 54) place root left

abbrev pub invariant-loop-place : goal.invariant-loop-place
invariant-loop-place l = Inv l.m l.root l.left l.place

abbrev pub decreases-loop-place : goal.decreases-loop-place
decreases-loop-place l = l.place
