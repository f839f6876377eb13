-- Points within the bounds: their products, and those of a list. Assumes nothing.
use Prim.Native.Nat.{ℕ, ◌*◌, ◌/◌, ◌≤◌, ◌<◌}
use native.Mathlib.Nat.{mul-le-mul}
use mathlib.Core.Path.{◌≡◌, sym, subst}
use mathlib.Core.List.{List}
use lib.ListN.{length}
use Rattle.shifted.specs.Shifted.{spot_at, Small, SmallRing}
use Rattle.shifted.specs.declared.Spot.{Spot}

pub product : {x y : ℕ} → x ≤ 2000000 → y ≤ 2000000 → x * y ≤ 2000000 * 2000000
product h k = mul-le-mul h k

pub small_at : (ns : List ℕ) → SmallRing ns → (i : ℕ) {v : Spot} → i < length ns / 2 → v ≡ spot_at ns i → Small v
small_at ns h i l e = subst Small (sym e) (h i l)
