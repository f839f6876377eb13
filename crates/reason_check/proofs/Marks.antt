-- The loop of `balanced`: the marks of the first j edges are counted. Assumes nothing.
use Prim.Native.Nat.{ℕ, suc, ◌+◌, ◌≤◌, ◌<◌}
use native.Mathlib.Numerals.{add-one}
use native.Mathlib.Omega.{arith}
use mathlib.Core.Path.{◌≡◌, refl}
use lib.Dec.{eqb}
use Rattle.shifted.specs.declared.Spot.{Spot}
use Rattle.reasons.specs.Reason.{mark, marks_up, marks_down}
use Rattle.reasons.specs.Check.{balance}

module _ (h : ℕ) (p q s : ℕ → Spot) (m : ℕ) where
  pub record Counted (up down j : ℕ) : Type 0 where
    pub most : j ≤ m
    pub up_is : up ≡ marks_up h p q s j
    pub down_is : down ≡ marks_down h p q s j
    pub up_most : up ≤ j
    pub down_most : down ≤ j

  pub start : Counted 0 0 0
  unfolding marks_up marks_down
  start = record { most = omega arith; up_is = refl; down_is = refl; up_most = omega arith; down_most = omega arith }

  pub turn : {up down j : ℕ} {p' q' s' t' : Spot} {x y : ℕ} → Counted up down j → j < m
      → p' ≡ p j → q' ≡ q j → s' ≡ s j → t' ≡ s (suc j)
      → (x ≡ mark h p' q' s' t') × (x ≤ 1) → (y ≡ mark h p' q' t' s') × (y ≤ 1) → Counted (up + x) (down + y) (j + 1)
  unfolding marks_up marks_down
  turn {j = j} c l ep eq es et x y =
      record {
        most = omega arith;
        up_is = rw (c.up_is, x.0, ep, eq, es, et, add-one j);
        down_is = rw (c.down_is, y.0, ep, eq, es, et, add-one j);
        up_most = omega (arith, c.up_most, x.1);
        down_most = omega (arith, c.down_most, y.1);
      }

  pub done : {up down j : ℕ} → Counted up down j → m ≤ j → eqb up down ≡ balance h p q s m
  unfolding balance
  done {j = j} c l = let e : j ≡ m = omega (arith, c.most) in rw (c.up_is, c.down_is, e)
