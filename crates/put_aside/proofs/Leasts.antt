-- The middle of the corners: the products fit, and the loop that keeps the least and the greatest. Assumes nothing.
use Prim.Native.Nat.{ℕ, suc, ◌+◌, ◌*◌, ◌-◌, ◌/◌, ◌≤◌, ◌<◌, min, max}
use native.Mathlib.Nat.{mul-le-mul, min-le_left, max-le, le_trans}
use native.Mathlib.Numerals.{add-one}
use native.Mathlib.Omega.{arith}
use mathlib.Core.Path.{◌≡◌, sym, subst}
use mathlib.Core.List.{List}
use lib.ListN.{length}
use Rattle.shifted.specs.Shifted.{spot_at, Small, SmallRing}
use Rattle.shifted.specs.declared.Spot.{Spot}
use Rattle.put_aside.specs.Middle.{least, greatest, middle, across_of, level}

pub record Products (from to v : Spot) : Type 0 where
  pub one : to.x * v.y ≤ 2000000 * 2000000
  pub two : from.y * v.x ≤ 2000000 * 2000000
  pub three : from.x * v.y ≤ 2000000 * 2000000
  pub four : to.y * v.x ≤ 2000000 * 2000000

pub products : {from to v : Spot} → Small from × Small to × Small v → Products from to v
products (f, t, v) = record {
  one = mul-le-mul t.width v.height;
  two = mul-le-mul f.height v.width;
  three = mul-le-mul f.width v.height;
  four = mul-le-mul t.height v.width;
}

pub small_at : (ns : List ℕ) → SmallRing ns → (i : ℕ) {v : Spot} → i < length ns / 2 → v ≡ spot_at ns i → Small v
small_at ns h i l e = subst Small (sym e) (h i l)

pub level_last : (axis : ℕ) (from to v : Spot) → 2 ≤ axis → across_of from to v ≡ level axis from to v
unfolding level
level_last axis from to v h = let e : axis ≡ suc (suc (axis - 2)) = omega arith in rw e

-- ---- the loop: the least and the greatest of the first i numbers, none above a bound

module _ (f : ℕ → ℕ) (most : ℕ) where
  pub record Between (low high i : ℕ) : Type 0 where
    pub low_is : low ≡ least f i
    pub high_is : high ≡ greatest f i
    pub low_fits : low ≤ most
    pub high_fits : high ≤ most

  pub start : {k : ℕ} → k ≡ f 0 → k ≤ most → Between k k 0
  unfolding least greatest
  start e h = record { low_is = e; high_is = e; low_fits = h; high_fits = h }

  pub turn : {low high i k a b : ℕ} → Between low high i → k ≡ f i → k ≤ most → a ≡ min low k → b ≡ max high k → Between a b (i + 1)
  unfolding least greatest
  turn {low} {high} {i} {k} t e h x y =
      record {
        low_is = rw (x, t.low_is, e, add-one i);
        high_is = rw (y, t.high_is, e, add-one i);
        low_fits = rw x (le_trans (min-le_left low k) t.low_fits);
        high_fits = rw y (max-le t.high_fits h);
      }

  pub done : {low high i n : ℕ} → i ≡ n → Between low high i → ((low + high) / 2 ≡ middle f n) × ((low + high) / 2 ≤ most)
  done e t = (rw (t.low_is, t.high_is, e), omega (arith, t.low_fits, t.high_fits))
