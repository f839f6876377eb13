-- Coordinates and their bit patterns: numbers are read back from their patterns, the patterns of coordinates from the numbers, and what
-- equals a coordinate is one. Assumes nothing.
use Prim.Native.Nat.{ℕ, zero, suc, ◌*◌, ◌≤◌, ◌<◌}
use native.Mathlib.Omega.{arith}
use mathlib.Core.Path.{◌≡◌, refl, ap₂}
use mathlib.Core.Bool.{Bool, true, false, ◌&&◌, ◌||◌, beq}
use mathlib.Core.List.{List, [], ◌∷◌, ◌++◌, map}
use lib.ListN.{length, get_or}
use lib.Dec.{eqb}
use lib.Ieee.{Float, nan, inf, fin, binary64, up, down, eq, of_bits, to_bits}
use lib.Ieee.Bits.{of_bits-to_bits, to_bits-lt, to_bits-of_bits}
use lib.Ieee.Fits.{down_pos}
use lib.Ieee.Positive.{through}
use borrow.Author.Tests.{le-leb, leb-true, eq-eqb, eqb-true}
use Rattle.laws.proofs.Both.{both}
use Rattle.number_bytes.specs.Bytes.{Each, Formed}
use Rattle.refusals.specs.Bounds.{coordinate, every, coordinates}
use Rattle.refusals.proofs.Coordinate.{coordinate_number}
use Rattle.wkb_layout.proofs.Numbers.{Pattern}

-- ---- there and back

pub patterns_of : (xs : List Float) → Formed xs → Each Pattern (map (to_bits binary64) xs)
patterns_of [] f = tt
patterns_of (x ∷ xs) f = (to_bits-lt binary64 x f.0, patterns_of xs f.1)

pub floats_back : (xs : List Float) → Formed xs → map (of_bits binary64) (map (to_bits binary64) xs) ≡ xs
floats_back [] f = refl
floats_back (x ∷ xs) f = ap₂ (λ (a : Float) (l : List Float). a ∷ l) (of_bits-to_bits binary64 x f.0) (floats_back xs f.1)

pub bits_back : (cs : List ℕ) → Each Pattern cs → coordinates (map (of_bits binary64) cs) ≡ true
    → map (to_bits binary64) (map (of_bits binary64) cs) ≡ cs
unfolding every
bits_back [] h t = refl
bits_back (c ∷ cs) h t =
    let p = both (coordinate (of_bits binary64 c)) (coordinates (map (of_bits binary64) cs)) t in
    ap₂ (λ (a : ℕ) (l : List ℕ). a ∷ l)
    (to_bits-of_bits binary64 c h.0 (coordinate_number (of_bits binary64 c) p.0))
    (bits_back cs h.1 p.1)

-- the number at a place
pub float_at : (xs : List Float) (i : ℕ) → Formed xs → i < length xs → of_bits binary64 (get_or (map (to_bits binary64) xs) i 0) ≡ get_or xs i nan
float_at [] i f h = absurd (omega arith)
float_at (x ∷ xs) zero f h = of_bits-to_bits binary64 x f.0
float_at (x ∷ xs) (suc i) f h = float_at xs i f.1 (omega arith)

-- ---- lists in two parts

pub formed_append : (xs ys : List Float) → Formed xs → Formed ys → Formed (xs ++ ys)
formed_append [] ys f g = g
formed_append (x ∷ xs) ys f g = (f.0, formed_append xs ys f.1 g)

pub formed_front : (xs ys : List Float) → Formed (xs ++ ys) → Formed xs
formed_front [] ys f = tt
formed_front (x ∷ xs) ys f = (f.0, formed_front xs ys f.1)

pub coordinates_append : (xs ys : List Float) → coordinates (xs ++ ys) ≡ (coordinates xs && coordinates ys)
unfolding every
coordinates_append [] ys = refl
coordinates_append (x ∷ xs) ys = rw (coordinates_append xs ys) (go (coordinate x) (coordinates xs) (coordinates ys))
  where
    go : (a b c : Bool) → (a && (b && c)) ≡ ((a && b) && c)
    go true b c = refl
    go false b c = refl

-- ---- a number that equals a coordinate

-- two fractions that are equal, of which the first is at most a million
as_small : (a c b d : ℕ) → 0 < c → a * d ≡ b * c → a ≤ 1000000 * c → b ≤ 1000000 * d
as_small a c b d p e h = omega (arith, through b a 1000000 d c 1 p (omega arith) (omega arith))

pub equal_coordinate : (x y : Float) → eq x y ≡ true → coordinate x ≡ true → coordinate y ≡ true
unfolding eq coordinate
equal_coordinate nan y q h = cc
equal_coordinate (inf s) y q h = cc
equal_coordinate (fin s m e) nan q h = cc
equal_coordinate (fin s m e) (inf t) q h = cc
equal_coordinate (fin s m e) (fin t n d) q h =
    let a = m * up e in
    let b = n * up d in
    let p = both (eqb (a * down d) (b * down e)) (beq s t || eqb (a * down d) 0) q in
    let l : a * down d ≡ b * down e = eqb-true (a * down d) (b * down e) p.0 in
    le-leb b (1000000 * down d) (as_small a (down e) b (down d) (down_pos e) l (leb-true a (1000000 * down e) h))

-- and equals itself
pub equals_itself : (x : Float) → coordinate x ≡ true → eq x x ≡ true
unfolding eq coordinate
equals_itself nan h = cc
equals_itself (inf s) h = cc
equals_itself (fin true m e) h = rw (eq-eqb (m * up e * down e) (m * up e * down e) refl)
equals_itself (fin false m e) h = rw (eq-eqb (m * up e * down e) (m * up e * down e) refl)
