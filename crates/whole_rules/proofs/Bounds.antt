-- The bound of a million on a float is that on its whole number, and each whole number within it has a place. Assumes
-- nothing.
use Prim.Native.Nat.{ℕ, ◌+◌, ◌-◌, ◌*◌, ◌≤◌, ◌<◌}
use native.Mathlib.Omega.{arith}
use native.Mathlib.Nat.{le_of_mul-le-mul_right}
use mathlib.Core.Path.{◌≡◌, sym, ap, ◌∙◌}
use mathlib.Core.Bool.{true, false, not, ◌&&◌, and-true}
use lib.Dec.{leb, lit<}
use lib.Ieee.{Float, nan, inf, fin, up, down}
use lib.Ieee.Fits.{down_pos}
use borrow.Author.Tests.{leb-true, le-leb}
use Rattle.laws.proofs.Both.{both}
use Rattle.refusals.specs.Bounds.{coordinate}
use Rattle.whole_floats.specs.Whole.{Whole}
use Rattle.whole_floats.proofs.Fraction.{alike, not_ltb}
use Rattle.whole_floats.proofs.Exact.{whole_same}

-- a size of p - q over 1, of which n is the part over d
size : (n d p q : ℕ) → n + q * d ≡ p * d → 0 < d → leb n (1000000 * d) ≡ leb p (q + 1000000)
size n d p q h D =
    sym (not_ltb (1000000 * d) n)
    ∙ ap not (alike (1000000 * d) n (q + 1000000) p 1 d (lit< tt) D (omega arith))
    ∙ not_ltb (q + 1000000) p

order : (n d p q : ℕ) → n + q * d ≡ p * d → 0 < d → q ≤ p
order n d p q h D = le_of_mul-le-mul_right {k = d} (omega arith) D

pub within : (x : Float) (p q : ℕ) → Whole x p q → coordinate x ≡ (leb p (q + 1000000) && leb q (p + 1000000))
unfolding coordinate
within nan p q h = absurd h
within (inf s) p q h = absurd h
within (fin false m e) p q h =
    let l = order (m * up e) (down e) p q h (down_pos e) in
    let t : leb q (p + 1000000) ≡ true = le-leb q (p + 1000000) (omega arith) in
    size (m * up e) (down e) p q h (down_pos e) ∙ sym (and-true (leb p (q + 1000000))) ∙ rw t
within (fin true m e) p q h =
    let l = order (m * up e) (down e) q p h (down_pos e) in
    let t : leb p (q + 1000000) ≡ true = le-leb p (q + 1000000) (omega arith) in
    size (m * up e) (down e) q p h (down_pos e) ∙ rw t

-- the number plus a million
pub place : (x : Float) (p q : ℕ) → Whole x p q → coordinate x ≡ true → Whole x (p + 1000000 - q) 1000000 × (p + 1000000 - q ≤ 2000000)
place x p q h c =
    let b = both (leb p (q + 1000000)) (leb q (p + 1000000)) (sym (within x p q h) ∙ c) in
    let l = leb-true p (q + 1000000) b.0 in
    let m = leb-true q (p + 1000000) b.1 in
    (whole_same x p q (p + 1000000 - q) 1000000 (omega arith) h, omega arith)
