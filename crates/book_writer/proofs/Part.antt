-- A ring that is a part of the coordinates lent. Assumes nothing.
use Prim.Native.Nat.{ℕ, zero, suc, ◌+◌, ◌-◌, ◌*◌, ◌≤◌, ◌<◌}
use native.Mathlib.Omega.{arith}
use native.Mathlib.Nat.{not-suc-le-zero}
use mathlib.Core.Path.{◌≡◌, sym, ap, subst, ◌∙◌}
use mathlib.Core.Bool.{true, not}
use mathlib.Core.List.{List, [], ◌∷◌}
use lib.ListN.{length, get_or, take, drop, length-drop}
use lib.Seq.{get_or-take, get_or-drop, length-take-le}
use lib.Dec.{T}
use lib.Ieee.{Float, nan, is_nan}
use Rattle.refusals.specs.Bounds.{coordinate, every, coordinates}
use Rattle.reading.specs.Lent.{Lent}
use Rattle.refusals.specs.Rings.{vertices_most}
use Rattle.refusals.proofs.Coordinate.{coordinate_number}
use Rattle.laws.proofs.Both.{both}

coordinates_at : (xs : List Float) (i : ℕ) → coordinates xs ≡ true → i < length xs → coordinate (get_or xs i nan) ≡ true
unfolding every
coordinates_at [] i t h = absurd (not-suc-le-zero h)
coordinates_at (x ∷ xs) zero t h = (both (coordinate x) (coordinates xs) t).0
coordinates_at (x ∷ xs) (suc i) t h = coordinates_at xs i (both (coordinate x) (coordinates xs) t).1 (omega arith)

module _ (xs : List Float) (at n : ℕ) (t : coordinates xs ≡ true) (inside : at + 2 * n ≤ length xs) where
  abbrev part : List Float
  part = take (at + 2 * n - at) (drop at xs)

  pub part_is : part ≡ take (2 * n) (drop at xs)
  part_is = let e : at + 2 * n - at ≡ 2 * n = omega arith in ap (λ (m : ℕ). take m (drop at xs)) e

  pub part_length : length part ≡ 2 * n
  part_length = ap length part_is ∙ length-take-le (2 * n) (drop at xs) (omega (arith, length-drop at xs))

  part_number : (i : ℕ) → i < length part → T (not (is_nan (get_or part i nan)))
  part_number i h =
      let l = part_length in
      let e : get_or part i nan ≡ get_or xs (at + i) nan = get_or-take (at + 2 * n - at) (drop at xs) i nan (omega arith) ∙ get_or-drop at xs i nan in
      subst (λ (x : Float). T (not (is_nan x))) (sym e) (coordinate_number (get_or xs (at + i) nan) (coordinates_at xs (at + i) t (omega arith)))

  pub part_lent : n ≤ vertices_most → Lent part
  part_lent h = record { even = omega (arith, part_length); most = omega (arith, part_length); numbers = part_number }
