-- The loop of `way_left`: the corners from i on decide. Assumes nothing.
use Prim.Native.Nat.{ℕ, ◌+◌, ◌-◌, ◌≤◌, ◌<◌}
use native.Mathlib.Omega.{arith}
use mathlib.Core.Path.{◌≡◌, ◌∙◌}
use mathlib.Core.Bool.{Bool, true, false, ◌&&◌}
use Rattle.ring.specs.Each.{each}
use Rattle.ring.proofs.Each.{each_on, each_off, each_end}
use Rattle.shifted.specs.declared.Spot.{Spot}
use Rattle.reasons.specs.Parting.{left_on, way_left}

module _ (a b : ℕ → Spot) (n : ℕ) (p q : Spot) where
  abbrev test : ℕ → Bool
  test i = left_on p q (a i) && left_on p q (b i)

  pub record Rest (i : ℕ) : Type 0 where
    pub most : i ≤ n
    pub left : way_left a b n p q ≡ each test i (n - i)

  pub start : Rest 0
  unfolding way_left
  start = let e : n - 0 ≡ n = omega arith in record { most = omega arith; left = rw e }

  module _ {i : ℕ} {u : Spot} {x : Bool} (R : Rest i) (h : i < n) (e : u ≡ a i) (f : x ≡ left_on p q u) where
    pub start_off : x ≡ false → way_left a b n p q ≡ false
    start_off t = R.left ∙ each_off test i n h (rw (← e, ← f, t))

    module _ {v : Spot} {y : Bool} (g : v ≡ b i) (k : y ≡ left_on p q v) (t : x ≡ true) where
      pub end_off : y ≡ false → way_left a b n p q ≡ false
      end_off w = R.left ∙ each_off test i n h (rw (← e, ← f, t, ← g, ← k, w))

      pub turn : y ≡ true → Rest (i + 1)
      turn w = record { most = omega arith; left = R.left ∙ each_on test i n h (rw (← e, ← f, t, ← g, ← k, w)) }

  pub done : {i : ℕ} → Rest i → n ≤ i → way_left a b n p q ≡ true
  done {i} R h = R.left ∙ each_end test i n h
