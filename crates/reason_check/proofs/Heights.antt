-- The loop of `lowest`: the least height of the first i corners, at the start and at the end. Assumes nothing.
use Prim.Native.Nat.{ℕ, ◌+◌, min}
use native.Mathlib.Numerals.{add-one}
use mathlib.Core.Path.{◌≡◌}
use Rattle.shifted.specs.declared.Spot.{Spot}
use Rattle.reasons.specs.Lowest.{lower, low_spot, lowest}
use Rattle.reasons.proofs.Lowest.{lower_height}

pub turn : (a b : ℕ → Spot) (i : ℕ) {low x y : ℕ} → low ≡ lowest a b i → x ≡ min low (a i).y → y ≡ min x (b i).y
    → y ≡ lowest a b (i + 1)
unfolding low_spot
turn a b i h e f =
    rw (f, e, h, add-one i, lower_height (lower (low_spot a b i) (a i)) (b i), lower_height (low_spot a b i) (a i))
