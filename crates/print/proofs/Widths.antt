-- How many decimal digits a number has, counted. Assumes nothing.
use Prim.Native.Nat.{ℕ, zero, suc, ◌+◌, ◌-◌, ◌/◌, ◌≤◌, ◌<◌}
use mathlib.Core.Path.{◌≡◌, refl, ap, ◌∙◌}
use native.Mathlib.Omega.{arith}
use borrow.Author.Tests.{ne_eqb}
use Rattle.print.specs.Digits.{up_to}

none_left : (k : ℕ) → up_to k 0 ≡ 0
unfolding up_to
none_left zero = refl
none_left (suc k) = refl

pub stop : (w rest : ℕ) → rest ≡ 0 → w ≡ w + up_to (20 - w) rest
stop w rest e = let q = none_left (20 - w) in let s = ap (up_to (20 - w)) e in omega arith

pub last : (w rest : ℕ) → 20 ≤ w → w ≡ w + up_to (20 - w) rest
unfolding up_to
last w rest h = let q : 20 - w ≡ 0 = omega arith in let s : up_to (20 - w) rest ≡ 0 = ap (λ (k : ℕ). up_to k rest) q in omega arith

pub more : (w rest : ℕ) → w < 20 → (rest ≡ 0 → ⊥) → w + up_to (20 - w) rest ≡ (w + 1) + up_to (20 - (w + 1)) (rest / 10)
unfolding up_to
more w rest h f =
    let q : 20 - w ≡ suc (20 - (w + 1)) = omega arith in
    let s : up_to (20 - w) rest ≡ suc (up_to (20 - (w + 1)) (rest / 10)) = ap (λ (k : ℕ). up_to k rest) q ∙ (rw (ne_eqb rest 0 f) refl) in
    omega arith
