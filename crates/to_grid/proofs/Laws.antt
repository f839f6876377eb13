-- What holds of the grid: nothing else than `nearest` is nearest, equal numbers are one number of the grid wherever they stand, and
-- the opposite number is the opposite one. Assumes nothing.
use Prim.Native.Nat.{ℕ, ◌*◌, ◌<◌}
use native.Mathlib.Omega.{arith}
use native.Mathlib.Nat.{mul-le-mul_left}
use mathlib.Core.Path.{◌≡◌, refl, sym, ap, ◌∙◌}
use mathlib.Core.Bool.{Bool, true, false, ◌||◌, beq, true≢false}
use mathlib.Core.List.{List, map}
use lib.ListN.{length, get_or}
use lib.Dec.{T, eqb}
use lib.IntN.{ℤ, pos, neg_ℤ, neg_ℤ-neg_ℤ}
use lib.Ieee.{Float, nan, inf, fin, binary64, up, down, fits, eq, neg}
use lib.Ieee.Fits.{down_pos}
use borrow.Author.Tests.{eqb-true}
use Rattle.laws.proofs.Both.{both}
use Rattle.reading.proofs.Size.{finite}
use Rattle.ring.proofs.Mapped.{map_at}
use Rattle.to_grid.specs.Grid.{signed, nearest_to, nearest, IsNearest}
use Rattle.to_grid.proofs.Rounding.{rounded_only, nearest_none, nearest_same}
use Rattle.to_grid.proofs.Sized.{sign_of, valued, on_grid}

-- ---- nothing else is nearest

pub nearest_only : (units : ℕ) (x : Float) → T (fits binary64 x) → finite x ≡ true → (y z : ℤ)
    → IsNearest units x y → IsNearest units x z → y ≡ z
nearest_only units x f h y z p q =
    let v = valued x f h in
    let a = p _ _ v in
    let b = q _ _ v in
    a.1 ∙ ap (signed (sign_of x)) (rounded_only a.2 b.2) ∙ sym b.1

pub is_nearest : (units : ℕ) (x : Float) → T (fits binary64 x) → finite x ≡ true → (z : ℤ) → IsNearest units x z → z ≡ nearest units x
is_nearest units x f h z p = nearest_only units x f h z (nearest units x) p (on_grid refl).nearby

-- ---- equal numbers

zero_either : (s t : Bool) → signed s 0 ≡ signed t 0
zero_either true true = refl
zero_either true false = refl
zero_either false true = refl
zero_either false false = refl

-- of either sign, where the signs are one or the number is zero
either : (s t : Bool) (g : ℕ) (z : Bool) → (z ≡ true → g ≡ 0) → (beq s t || z) ≡ true → signed s g ≡ signed t g
either true true g z h k = refl
either false false g z h k = refl
either true false g z h k = rw (h k) (zero_either true false)
either false true g z h k = rw (h k) (zero_either false true)

pub same_number : (units : ℕ) (x y : Float) → eq x y ≡ true → nearest units x ≡ nearest units y
unfolding eq nearest
same_number units nan y h = absurd (true≢false (sym h))
same_number units (inf s) nan h = absurd (true≢false (sym h))
same_number units (inf s) (inf t) h = refl
same_number units (inf s) (fin t n d) h = absurd (true≢false (sym h))
same_number units (fin s m e) nan h = absurd (true≢false (sym h))
same_number units (fin s m e) (inf t) h = absurd (true≢false (sym h))
same_number units (fin s m e) (fin t n d) h =
    let a = m * up e * down d in
    let b = n * up d * down e in
    let p = both (eqb a b) (beq s t || eqb a 0) h in
    let l : a ≡ b = eqb-true a b p.0 in
    let f : units * (m * up e) * down d ≡ units * (n * up d) * down e = omega (arith, ap (λ z. units * z) l) in
    let g : down e * down d ≡ down d * down e = omega arith in
    let same : nearest_to (units * (m * up e)) (down e) ≡ nearest_to (units * (n * up d)) (down d) =
    sym (nearest_same (units * (m * up e)) (down e) (down d) (down_pos d))
    ∙ (rw (f, g) (nearest_same (units * (n * up d)) (down d) (down e) (down_pos e))) in
    let none : eqb a 0 ≡ true → nearest_to (units * (n * up d)) (down d) ≡ 0 =
    λ z.
    let o : n * up d ≡ 0 = omega (arith, l, eqb-true a 0 z, mul-le-mul_left (n * up d) (down_pos e)) in
    nearest_none (units * (n * up d)) (down d) (omega (arith, ap (λ k. units * k) o, down_pos d)) in
    ap (signed s) same ∙ either s t (nearest_to (units * (n * up d)) (down d)) (eqb a 0) none p.1

-- wherever they stand in the lists of two calls
pub same_place : (units : ℕ) (xs ys : List Float) (i j : ℕ) → i < length xs → j < length ys → eq (get_or xs i nan) (get_or ys j nan) ≡ true
    → get_or (map (nearest units) xs) i (pos 0) ≡ get_or (map (nearest units) ys) j (pos 0)
same_place units xs ys i j h k e =
    map_at (nearest units) xs i nan (pos 0) h ∙ same_number units (get_or xs i nan) (get_or ys j nan) e
    ∙ sym (map_at (nearest units) ys j nan (pos 0) k)

-- ---- opposite numbers

pub opposite : (units : ℕ) (x : Float) → nearest units (neg x) ≡ neg_ℤ (nearest units x)
unfolding nearest neg
opposite units nan = refl
opposite units (inf s) = refl
opposite units (fin false m e) = refl
opposite units (fin true m e) = sym (neg_ℤ-neg_ℤ _)
