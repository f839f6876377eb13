-- Comparisons of floats that are whole numbers are those of the numbers, and two floats of one number are equal, bit for
-- bit but for a zero's sign. Assumes nothing.
use Prim.Native.Nat.{ℕ, ◌+◌, ◌-◌, ◌*◌, ◌≤◌, ◌<◌}
use native.Mathlib.Omega.{arith}
use native.Mathlib.Nat.{mul-lt-mul_of_pos_right}
use mathlib.Core.Path.{◌≡◌, refl, sym, ap, ◌∙◌}
use mathlib.Core.Bool.{Bool, true, false, ◌&&◌, true≢false, and-true}
use lib.IntN.{ℤ}
use lib.Dec.{T, ltb, leb, eqb, lit<}
use lib.Ieee.{Float, nan, inf, fin, Format, up, down, lt, le, eq, fits, of_bits}
use lib.Ieee.Fits.{down_pos}
use lib.Ieee.Exact.{HasValue}
use lib.Ieee.Back.{whole_unique}
use borrow.Author.Tests.{ltb-true, ltb-false, leb-true, leb-false, eqb-true, eq-eqb, ne_eqb}
use Rattle.scalar.specs.Float.{f0}
use Rattle.whole_floats.specs.Whole.{Whole}
use Rattle.whole_floats.proofs.Fraction.{at_one, agree, same_ltb, lt_at, le_at}

pub is_less : (x y : Float) (p q r s : ℕ) → Whole x p q → Whole y r s → lt x y ≡ ltb (p + s) (r + q)
is_less x y p q r s h k =
    let a : p * 1 + s * 1 ≡ p + s = omega arith in
    let b : r * 1 + q * 1 ≡ r + q = omega arith in
    lt_at x y p q 1 r s 1 (lit< tt) (lit< tt) (at_one x p q h) (at_one y r s k) ∙ rw (a, b)

pub is_at_most : (x y : Float) (p q r s : ℕ) → Whole x p q → Whole y r s → le x y ≡ leb (p + s) (r + q)
is_at_most x y p q r s h k =
    let a : p * 1 + s * 1 ≡ p + s = omega arith in
    let b : r * 1 + q * 1 ≡ r + q = omega arith in
    le_at x y p q 1 r s 1 (lit< tt) (lit< tt) (at_one x p q h) (at_one y r s k) ∙ rw (a, b)

-- with 0.0
pub above_zero : (x : Float) (p q : ℕ) → Whole x p q → lt f0 x ≡ ltb q p
unfolding of_bits
above_zero x p q h = is_less f0 x 0 0 p q refl h ∙ same_ltb {a = 0 + q} {b = p + 0} {c = q} {d = p} (omega arith) (omega arith)

pub below_zero : (x : Float) (p q : ℕ) → Whole x p q → lt x f0 ≡ ltb p q
unfolding of_bits
below_zero x p q h = is_less x f0 p q 0 0 h refl ∙ same_ltb {a = p + 0} {b = 0 + q} {c = p} {d = q} (omega arith) (omega arith)

-- ---- equality

-- of two numbers the larger is not above the other exactly if it is the other
top : (a b : ℕ) → b ≤ a → leb a b ≡ eqb a b
top a b l =
    agree (leb a b) (eqb a b)
    (λ h. let g = leb-true a b h in eq-eqb a b (omega arith))
    (λ h. let g = leb-false a b h in ne_eqb a b (λ z. omega arith))

-- what is less is not equal
zeros : (a b : ℕ) → 0 < a + b → (eqb a b && eqb a 0) ≡ false
zeros a b l = by (eqb a b) (eqb a 0) refl refl
  where
    by : (t u : Bool) → eqb a b ≡ t → eqb a 0 ≡ u → (t && u) ≡ false
    by true true h k = let x = eqb-true a b h in let y = eqb-true a 0 k in absurd (omega arith)
    by true false h k = refl
    by false u h k = refl

unequal : (s : Bool) (m : ℕ) (e : ℤ) (t : Bool) (n : ℕ) (d : ℤ) → lt (fin s m e) (fin t n d) ≡ true → eq (fin s m e) (fin t n d) ≡ false
unfolding lt eq
unequal false m e false n d h =
    let l = ltb-true (m * up e * down d) (n * up d * down e) h in
    and-true (eqb (m * up e * down d) (n * up d * down e)) ∙ ne_eqb (m * up e * down d) (n * up d * down e) (λ z. omega arith)
unequal false m e true n d h = absurd (true≢false (sym h))
unequal true m e false n d h = zeros (m * up e * down d) (n * up d * down e) (ltb-true 0 (m * up e * down d + n * up d * down e) h)
unequal true m e true n d h =
    let l = ltb-true (n * up d * down e) (m * up e * down d) h in
    and-true (eqb (m * up e * down d) (n * up d * down e)) ∙ ne_eqb (m * up e * down d) (n * up d * down e) (λ z. omega arith)

less_unequal : (x y : Float) (p q r s : ℕ) → Whole x p q → Whole y r s → lt x y ≡ true → eq x y ≡ false
less_unequal nan y p q r s h k l = absurd h
less_unequal (inf t) y p q r s h k l = absurd h
less_unequal (fin t m e) nan p q r s h k l = absurd k
less_unequal (fin t m e) (inf u) p q r s h k l = absurd k
less_unequal (fin t m e) (fin u n d) p q r s h k l = unequal t m e u n d l

-- a value that is not less and not above another is equal to it
pub is_equal : (x y : Float) (p q r s : ℕ) → Whole x p q → Whole y r s → eq x y ≡ eqb (p + s) (r + q)
unfolding le
is_equal x y p q r s h k = by (lt x y) refl
  where
    by : (t : Bool) → lt x y ≡ t → eq x y ≡ eqb (p + s) (r + q)
    by true l =
        let g = ltb-true (p + s) (r + q) (sym (is_less x y p q r s h k) ∙ l) in
        less_unequal x y p q r s h k l ∙ sym (ne_eqb (p + s) (r + q) (λ z. omega arith))
    by false l =
        let g = ltb-false (p + s) (r + q) (sym (is_less x y p q r s h k) ∙ l) in
        rw l at (is_at_most x y p q r s h k) ∙ top (p + s) (r + q) g

-- ---- one number

pub same_number : (x y : Float) (p q : ℕ) → Whole x p q → Whole y p q → eq x y ≡ true
same_number x y p q h k = is_equal x y p q p q h k ∙ eq-eqb (p + q) (p + q) refl

-- a number that is no zero has a sign
not_minus : (m : ℕ) (e : ℤ) (p q : ℕ) → q < p → Whole (fin true m e) p q → ⊥
not_minus m e p q l h = let g = mul-lt-mul_of_pos_right l (down_pos e) in omega arith

not_plus : (m : ℕ) (e : ℤ) (p q : ℕ) → p < q → Whole (fin false m e) p q → ⊥
not_plus m e p q l h = let g = mul-lt-mul_of_pos_right l (down_pos e) in omega arith

plus_value : (x : Float) (p q : ℕ) → q < p → Whole x p q → HasValue x false (p - q) 1
plus_value nan p q l h = h
plus_value (inf s) p q l h = h
plus_value (fin true m e) p q l h = absurd (not_minus m e p q l h)
plus_value (fin false m e) p q l h =
    (refl, (let g : p ≡ q + (p - q) = omega arith in let k = ap (λ (z : ℕ). z * down e) g in omega arith))

minus_value : (x : Float) (p q : ℕ) → p < q → Whole x p q → HasValue x true (q - p) 1
minus_value nan p q l h = h
minus_value (inf s) p q l h = h
minus_value (fin false m e) p q l h = absurd (not_plus m e p q l h)
minus_value (fin true m e) p q l h =
    (refl, (let g : q ≡ p + (q - p) = omega arith in let k = ap (λ (z : ℕ). z * down e) g in omega arith))

pub same_bits : (f : Format) (x y : Float) (p q : ℕ) → T (fits f x) → T (fits f y) → Whole x p q → Whole y p q → (p ≡ q → ⊥) → x ≡ y
same_bits f x y p q F G h k n = by (ltb q p) (ltb p q) refl refl
  where
    by : (t u : Bool) → ltb q p ≡ t → ltb p q ≡ u → x ≡ y
    by true u a b = let l = ltb-true q p a in whole_unique f x y false (p - q) F G (plus_value x p q l h) (plus_value y p q l k)
    by false true a b = let l = ltb-true p q b in whole_unique f x y true (q - p) F G (minus_value x p q l h) (minus_value y p q l k)
    by false false a b = absurd (n (let l = ltb-false q p a in let g = ltb-false p q b in omega arith))
