-- Floats that are whole numbers: their bounds are those of the numbers, and within them each point stands where its integers
-- do. Assumes nothing.
use Prim.Native.Nat.{ℕ, zero, suc, ◌+◌, ◌-◌, ◌*◌, ◌<◌}
use native.Mathlib.Omega.{arith}
use mathlib.Core.Path.{◌≡◌, refl, ap, ◌∙◌}
use mathlib.Core.Bool.{true, and-true}
use mathlib.Core.List.{List, [], ◌∷◌}
use lib.ListN.{length, get_or}
use lib.Dec.{leb}
use lib.IntN.{ℤ, pos, negsuc}
use lib.Ieee.{Float, nan}
use borrow.Author.Tests.{le-leb, ltb-true}
use Rattle.plane.specs.declared.Point.{Point}
use Rattle.ring.specs.Ring.{point_at}
use Rattle.refusals.specs.Bounds.{coordinate, every, coordinates}
use Rattle.shifted.specs.Shifted.{in_bounds, up_of, spot_of, spot_in}
use Rattle.shifted.proofs.Laws.{within}
use Rattle.whole_floats.specs.Whole.{Whole}
use Rattle.whole_floats.proofs.Exact.{whole_same}
use Rattle.whole_rules.specs.Spots.{Placed, PlacedRing}
use Rattle.whole_rules.proofs.Bounds as bounds
use Rattle.whole_engine.specs.Drawn.{DrawnAt, DrawnPoint, Drawn, none, more}
use Rattle.whole_engine.specs.Rows.{all_in_bounds}
use Rattle.whole_engine.proofs.Within.{within_at}

-- ---- one number

pub same_bounds : (x : Float) (z : ℤ) → DrawnAt x z → coordinate x ≡ in_bounds z
same_bounds x (pos n) h =
    let t : leb 0 (n + 1000000) ≡ true = le-leb 0 (n + 1000000) (omega arith) in
    bounds.within x n 0 h ∙ rw t (and-true (leb n 1000000))
same_bounds x (negsuc n) h =
    let t : leb 0 (suc n + 1000000) ≡ true = le-leb 0 (suc n + 1000000) (omega arith) in
    bounds.within x 0 (suc n) h ∙ rw t

moved_up : (x : Float) (z : ℤ) → DrawnAt x z → in_bounds z ≡ true → Whole x (up_of z) 1000000
unfolding up_of
moved_up x (pos n) h b = rw b (whole_same x n 0 (n + 1000000) 1000000 (omega arith) h)
moved_up x (negsuc n) h b =
    let l = ltb-true n 1000000 b in
    rw b (whole_same x 0 (suc n) (999999 - n) 1000000 (omega arith) h)

-- ---- points and lists

pub stands : (a : Point) (x y : ℤ) → DrawnPoint a x y → in_bounds x ≡ true → in_bounds y ≡ true → Placed a (spot_of x y)
stands a x y d h k =
    record {
      across = moved_up a.x x d.0 h;
      upward = moved_up a.y y d.1 k;
      width = within x h;
      height = within y k;
    }

pub same_length : (r : List Float) (zs : List ℤ) → Drawn r zs → length r ≡ length zs
same_length (x ∷ r) [] x4 = elim x4 [ ]
same_length [] (z ∷ zs) x'' = elim x'' [ ]
same_length [] [] none = refl
same_length (x ∷ r) (z ∷ zs) (more d ds) = ap suc (same_length r zs ds)

pub same_numbers : (r : List Float) (zs : List ℤ) → Drawn r zs → coordinates r ≡ all_in_bounds zs
unfolding every all_in_bounds
same_numbers (x ∷ r) [] x4 = elim x4 [ ]
same_numbers [] (z ∷ zs) x'' = elim x'' [ ]
same_numbers [] [] none = refl
same_numbers (x ∷ r) (z ∷ zs) (more d ds) = rw (same_bounds x z d, same_numbers r zs ds)

drawn_at : (r : List Float) (zs : List ℤ) → Drawn r zs → (i : ℕ) → i < length zs → DrawnAt (get_or r i nan) (get_or zs i (pos 0))
drawn_at (x ∷ r) [] x5 i h = elim x5 [ ]
drawn_at [] (z ∷ zs) x4 i h = elim x4 [ ]
drawn_at [] [] none i h = absurd (omega arith)
drawn_at (x ∷ r) (z ∷ zs) (more d ds) zero h = d
drawn_at (x ∷ r) (z ∷ zs) (more d ds) (suc i) h = drawn_at r zs ds i (omega arith)

pub ring_stands : (r : List Float) (zs : List ℤ) → Drawn r zs → all_in_bounds zs ≡ true → PlacedRing r (spot_in zs)
unfolding point_at
ring_stands r zs d b i h =
    let l = same_length r zs d in
    let k : 2 * i < length zs = omega arith in
    let m : 2 * i + 1 < length zs = omega arith in
    stands (point_at r i) (get_or zs (2 * i) (pos 0)) (get_or zs (2 * i + 1) (pos 0))
    (drawn_at r zs d (2 * i) k, drawn_at r zs d (2 * i + 1) m) (within_at zs (2 * i) b k) (within_at zs (2 * i + 1) b m)
