-- `Near`: the nearest value by 54 digits of the root. And the larger of two numbers has a root whose nearest value is no
-- smaller, so a number has one such value. Assumes nothing.
use mathlib.Core.Path.{◌≡◌}
use mathlib.Core.Logic.{inl, inr}
use Prim.Native.Nat.{ℕ, ◌+◌, ◌-◌, ◌*◌, ◌/◌, ◌^◌, ◌≤◌, ◌<◌}
use native.Mathlib.Omega.{arith}
use native.Mathlib.Nat.{le_refl, le_antisymm, lt_of_le_of_lt, lt_of_lt_of_le, mul-le-mul, mul-le-mul_right, mul_assoc}
use Rattle.square_root.specs.Root.{WholeRoot}
use Rattle.square_root.specs.Nearest.{val, Near}
use Rattle.square_root.proofs.Numbers.{lt_or_le, scaled, times_four, square_lt}
use Rattle.square_root.proofs.Values.{val_at, val_step, val_mono}
use Rattle.square_root.proofs.Rooted.{Even, Odd, by_parity}

-- ---- by the 54 digits r of the root of 4 * w, where n is w * 4 ^ k

-- s is a halfway point, doubled, and u * 2 ^ k a bound of it
module _ (w k s u : ℕ) where
  low_by : s ≤ u * 2 ^ k → u * u < 4 * w → s * s < 4 * (w * 4 ^ k)
  low_by a b = lt_of_le_of_lt (rw scaled at (mul-le-mul a a)) (rw (← mul_assoc) (times_four k b))

  low_under : s < u * 2 ^ k → u * u ≤ 4 * w → s * s < 4 * (w * 4 ^ k)
  low_under a b = lt_of_lt_of_le (rw scaled at (square_lt a)) (rw (← mul_assoc) (mul-le-mul_right (4 ^ k) b))

  high_by : u * 2 ^ k ≤ s → 4 * w < u * u → 4 * (w * 4 ^ k) < s * s
  high_by a b = lt_of_lt_of_le (rw (← mul_assoc) (times_four k b)) (rw scaled at (mul-le-mul a a))

module _ (w k q : ℕ) where
  near_even : Even w q → Near (w * 4 ^ k) (k * 2 ^ 52 + q)
  near_even (lo, hi, a, b) =
      let c = k * 2 ^ 52 + q in
      let e : c + 1 ≡ k * 2 ^ 52 + (q + 1) = omega arith in
      let f : c - 1 + 1 ≡ c = omega arith in
      let at : val c ≡ q * 2 ^ k = val_at k q lo (omega arith) in
      let above : val (c + 1) ≡ (q + 1) * 2 ^ k = rw e (val_at k (q + 1) (omega arith) (omega arith)) in
      let below : val (c - 1) < val c = rw f at (val_step (c - 1)) in
      record {
        low = low_under w k (val (c - 1) + val c) (2 * q) (omega arith) a;
        high = high_by w k (val c + val (c + 1)) (2 * q + 1) (omega arith) b;
      }

  near_odd : Odd w q → Near (w * 4 ^ k) (k * 2 ^ 52 + (q + 1))
  near_odd (lo, hi, a, b) =
      let c = k * 2 ^ 52 + (q + 1) in
      let e : c - 1 ≡ k * 2 ^ 52 + q = omega arith in
      let at : val c ≡ (q + 1) * 2 ^ k = val_at k (q + 1) (omega arith) (omega arith) in
      let above : val c < val (c + 1) = val_step c in
      let below : val (c - 1) ≡ q * 2 ^ k = rw e (val_at k q lo (omega arith)) in
      record {
        low = low_by w k (val (c - 1) + val c) (2 * q + 1) (omega arith) a;
        high = high_by w k (val c + val (c + 1)) (2 * q + 2) (omega arith) b;
      }

pub near_of : (w k r : ℕ) → 2 ^ 53 ≤ r → r < 2 ^ 54 → WholeRoot (4 * w) r
    → Near (w * 4 ^ k) (k * 2 ^ 52 + (r + 1) / 2)
near_of w k r lo hi root =
    by_parity (λ (x : ℕ). Near (w * 4 ^ k) (k * 2 ^ 52 + x)) w r lo hi root (near_even w k) (near_odd w k)

-- ---- the order

pub near_mono : {n n' b b' : ℕ} → n ≤ n' → Near n b → Near n' b' → b ≤ b'
near_mono {n} {n'} {b} {b'} h A B = elim (lt_or_le b' b) [ inl l ↦ absurd (clash l) | inr g ↦ g ]
  where
    clash : b' < b → ⊥
    clash l =
        let p : val b' ≤ val (b - 1) = val_mono (omega arith) in
        let q : val (b' + 1) ≤ val b = val_mono (omega arith) in
        let s : val b' + val (b' + 1) ≤ val (b - 1) + val b = omega arith in
        omega (arith, mul-le-mul s s, A.low, B.high)

pub near_unique : {n b b' : ℕ} → Near n b → Near n b' → b ≡ b'
near_unique {n} A B = le_antisymm (near_mono (le_refl n) A B) (near_mono (le_refl n) B A)
