-- Coordinates within a million: a loop that tests them, where what is left of the list decides, and the points they make.
-- Assumes nothing.
use Prim.Native.Nat.{ℕ, zero, suc, ◌+◌, ◌*◌, ◌/◌, ◌<◌}
use mathlib.Core.Path.{◌≡◌, refl, sym, ap, subst}
use mathlib.Core.Bool.{true, ◌&&◌}
use Rattle.std.specs.List.{list_all}
use mathlib.Core.List.{List, [], ◌∷◌, map}
use native.Mathlib.Omega.{arith}
use lib.ListN.{length, get_or, length-map}
use lib.IntN.{ℤ, pos}
use Rattle.laws.proofs.Both.{both}
use Rattle.shifted.specs.Shifted.{in_bounds, up_of, spot_of, spot_in, spot_at, Small, SmallRing}
use Rattle.shifted.specs.declared.Spot.{Spot}
use Rattle.shifted.proofs.Laws.{within}
use Rattle.shifted.proofs.Lifted.{at_lifted}
use Rattle.whole_engine.specs.Rows.{all_in_bounds}

-- the test of each number, as a walk of the list makes it
pub within_all : (zs : List ℤ) → list_all in_bounds zs ≡ all_in_bounds zs
unfolding all_in_bounds
within_all [] = refl
within_all (z ∷ zs) = ap (λ b. in_bounds z && b) (within_all zs)

pub within_at : (zs : List ℤ) (i : ℕ) → all_in_bounds zs ≡ true → i < length zs → in_bounds (get_or zs i (pos 0)) ≡ true
unfolding all_in_bounds
within_at [] i h l = absurd (omega arith)
within_at (z ∷ zs) zero h l = (both (in_bounds z) (all_in_bounds zs) h).0
within_at (z ∷ zs) (suc i) h l = within_at zs i (both (in_bounds z) (all_in_bounds zs) h).1 (omega arith)

-- ---- points

pub small_of : (x y : ℤ) → in_bounds x ≡ true → in_bounds y ≡ true → Small (spot_of x y)
small_of x y h k = record { width = within x h; height = within y k }

pub small_in : (zs : List ℤ) (i : ℕ) → all_in_bounds zs ≡ true → i < length zs / 2 → Small (spot_in zs i)
small_in zs i h l = small_of _ _ (within_at zs (2 * i) h (omega arith)) (within_at zs (2 * i + 1) h (omega arith))

-- a list that is moved up has the same points
pub lifted_at : (zs : List ℤ) (i : ℕ) → i < length zs / 2 → spot_at (map up_of zs) i ≡ spot_in zs i
lifted_at zs i h =
    let a : 2 * i < length zs = omega arith in
    let b : 2 * i + 1 < length zs = omega arith in
    rw (at_lifted zs (2 * i) a, at_lifted zs (2 * i + 1) b)

pub small_lifted : (zs : List ℤ) → all_in_bounds zs ≡ true → SmallRing (map up_of zs)
small_lifted zs h i l =
    let k : i < length zs / 2 = omega (arith, length-map zs up_of) in
    subst Small (sym (lifted_at zs i k)) (small_in zs i h k)

pub small_at : (ns : List ℕ) → SmallRing ns → (i : ℕ) → i < length ns / 2 → {a : Spot} → a ≡ spot_at ns i → Small a
small_at ns R i h e = subst Small (sym e) (R i h)
