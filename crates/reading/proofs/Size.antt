-- The order of bit patterns by their places is that of the numbers that they stand for. Assumes nothing.
use mathlib.Core.Path.{◌≡◌, refl, sym, ap, ◌∙◌, subst}
use mathlib.Core.Logic.{◌⊎◌, inl, inr}
use mathlib.Core.Bool.{Bool, true, false, not, ◌&&◌, ◌||◌, cond, and-false, or-false}
use Prim.Native.Nat.{ℕ, zero, suc, ◌+◌, ◌*◌, ◌/◌, ◌%◌, ◌^◌, ◌≤◌, ◌<◌}
use native.Mathlib.Omega.{arith}
use native.Mathlib.Decide.{dec_lt}
use native.Mathlib.Nat.{lt_of_mul-lt-mul_right, eq_of_mul-eq-mul_right, mul-one, mul_assoc, mul_comm, mul_right_comm, mul-pos, mul-le-mul_right, mul-le-mul_left, mul-lt-mul_of_pos_right, pow-succ', zero-lt-suc}
use lib.IntN.{ℤ}
use lib.Dec.{T, leb, ltb, eqb}
use lib.Pow.{pow_pos, pow_mono}
use lib.Ieee.{Float, nan, inf, fin, binary64, up, down, odd, of_fields, of_bits, to_bits, fits, lt, neg, below}
use lib.Ieee.Bits.{of_bits-to_bits, to_bits-lt}
use lib.Ieee.Fits.{up_pos, down_pos}
use lib.Ieee.Exact.{HasValue, odd_sign}
use borrow.Author.Tests.{lt-ltb, le-ltb, ne_eqb, leb-true, leb-false}
use Rattle.scalar.specs.Scalar.{minus_zero, ahead}
use Rattle.reading.specs.Reading.{ord}
use Rattle.reading.proofs.Order.{no_bool, ord_low, ord_high}

abbrev pub finite : Float → Bool
finite nan = false
finite (inf s) = false
finite (fin s m e) = true

-- ---- the number that the two fields stand for, in units of 2 ^ -1074

abbrev pub val_of : ℕ → ℕ → ℕ
val_of zero t = t
val_of (suc j) t = (2 ^ 52 + t) * 2 ^ j

-- the number of a pattern without its sign
unfoldable pub val : ℕ → ℕ
val b = val_of (b / 2 ^ 52) (b % 2 ^ 52)

-- a larger field
one_more : (i j t t' : ℕ) → i < j → t < 2 ^ 52 → (2 ^ 52 + t) * 2 ^ i < (2 ^ 52 + t') * 2 ^ j
one_more i j t t' h k =
    let p : 2 * 2 ^ i ≤ 2 ^ j = subst (λ (n : ℕ). n ≤ 2 ^ j) (pow-succ' 2 i) (pow_mono h) in
    let a : (2 ^ 52 + t) * 2 ^ i < (2 ^ 52 + 2 ^ 52) * 2 ^ i = mul-lt-mul_of_pos_right (omega arith) (pow_pos i) in
    let b : 2 ^ 52 * 2 ^ j ≤ (2 ^ 52 + t') * 2 ^ j = mul-le-mul_right (2 ^ j) (omega arith) in
    omega arith

val_lt_of : (x x' t t' : ℕ) → t < 2 ^ 52 → (x < x') ⊎ ((x ≡ x') × (t < t')) → val_of x t < val_of x' t'
val_lt_of zero zero t t' k (inl h) = absurd (omega arith)
val_lt_of zero zero t t' k (inr h) = h.1
val_lt_of zero (suc j) t t' k h =
    let a : (2 ^ 52 + t') * 1 ≤ (2 ^ 52 + t') * 2 ^ j = mul-le-mul_left (2 ^ 52 + t') (pow_pos j) in
    omega arith
val_lt_of (suc i) zero t t' k (inl h) = absurd (omega arith)
val_lt_of (suc i) zero t t' k (inr h) = absurd (omega (arith, h.0))
val_lt_of (suc i) (suc j) t t' k (inl h) = one_more i j t t' (omega arith) k
val_lt_of (suc i) (suc j) t t' k (inr h) =
    let e : i ≡ j = omega (arith, h.0) in
    subst (λ (m : ℕ). (2 ^ 52 + t) * 2 ^ i < (2 ^ 52 + t') * 2 ^ m) e (mul-lt-mul_of_pos_right (omega (arith, h.1)) (pow_pos i))

by_fields : (b b' : ℕ) → b < b' → (b / 2 ^ 52 < b' / 2 ^ 52) ⊎ ((b / 2 ^ 52 ≡ b' / 2 ^ 52) × (b % 2 ^ 52 < b' % 2 ^ 52))
by_fields b b' h = go (dec_lt (b / 2 ^ 52) (b' / 2 ^ 52))
  where
    go : Dec (b / 2 ^ 52 < b' / 2 ^ 52) → (b / 2 ^ 52 < b' / 2 ^ 52) ⊎ ((b / 2 ^ 52 ≡ b' / 2 ^ 52) × (b % 2 ^ 52 < b' % 2 ^ 52))
    go (yes l) = inl l
    go (no l) = inr ((omega arith), (omega arith))

-- a larger pattern is a larger number
val_lt : (b b' : ℕ) → b < b' → val b < val b'
unfolding val
val_lt b b' h = val_lt_of (b / 2 ^ 52) (b' / 2 ^ 52) (b % 2 ^ 52) (b' % 2 ^ 52) (omega arith) (by_fields b b' h)

-- ---- reading a pattern

fields_value : (s : Bool) (x t : ℕ) → x < 2047 → HasValue (of_fields binary64 s x t) s (val_of x t) (2 ^ 1074)
unfolding of_fields
fields_value s zero t h = subst (λ (n : ℕ). HasValue (odd 53 s t 0 1074) s n (2 ^ 1074)) (mul-one t) (odd_sign 53 s t 0 1074)
fields_value s (suc j) t h =
    let n : suc j ≡ 2047 → ⊥ = (λ e. omega arith) in
    rw (ne_eqb (suc j) 2047 n) (odd_sign 53 s (2 ^ 52 + t) j 1074)

same_field : (b : ℕ) → b % 2 ^ 52 ≡ b % 2 ^ 63 % 2 ^ 52
same_field b = omega arith

read : (b : ℕ) → b % 2 ^ 63 < 2047 * 2 ^ 52 → HasValue (of_bits binary64 b) (leb (2 ^ 63) b) (val (b % 2 ^ 63)) (2 ^ 1074)
unfolding of_bits val
read b h =
    rw (same_field b) (fields_value (leb (2 ^ 63) b) (b % 2 ^ 63 / 2 ^ 52) (b % 2 ^ 63 % 2 ^ 52) (omega arith))

-- ---- a finite number's pattern

no_number : (s : Bool) (x t : ℕ) → x ≡ 2047 → finite (of_fields binary64 s x t) ≡ false
unfolding of_fields
no_number s x t e = ap (λ (y : ℕ). finite (of_fields binary64 s y t)) e ∙ go (eqb t 0)
  where
    go : (b : Bool) → finite (cond b (inf s) nan) ≡ false
    go true = refl
    go false = refl

finite_below : (b : ℕ) → finite (of_bits binary64 b) ≡ true → b % 2 ^ 63 < 2047 * 2 ^ 52
unfolding of_bits
finite_below b h = go (dec_lt (b % 2 ^ 63) (2047 * 2 ^ 52))
  where
    go : Dec (b % 2 ^ 63 < 2047 * 2 ^ 52) → b % 2 ^ 63 < 2047 * 2 ^ 52
    go (yes l) = l
    go (no l) = no_bool (sym (no_number (leb (2 ^ 63) b) (b % 2 ^ 63 / 2 ^ 52) (b % 2 ^ 52) (omega arith)) ∙ h)

-- what a number that the format holds is, by its pattern
pub record Pattern (x : Float) (b : ℕ) : Type 0 where
  pub word : b < 2 ^ 64
  pub under : b % 2 ^ 63 < 2047 * 2 ^ 52
  pub value : HasValue x (leb (2 ^ 63) b) (val (b % 2 ^ 63)) (2 ^ 1074)

pub pattern : (x : Float) → T (fits binary64 x) → finite x ≡ true → Pattern x (to_bits binary64 x)
pattern x f h =
    let b = to_bits binary64 x in
    let e : of_bits binary64 b ≡ x = of_bits-to_bits binary64 x f in
    let u : b % 2 ^ 63 < 2047 * 2 ^ 52 = finite_below b (ap finite e ∙ h) in
    record { word = to_bits-lt binary64 x f; under = u; value = subst (λ (y : Float). HasValue y (leb (2 ^ 63) b) (val (b % 2 ^ 63)) (2 ^ 1074)) e (read b u) }

-- ---- fractions over a common denominator compare as their numerators

module _ (x y a b p d : ℕ) (hp : 0 < p) (hd : 0 < d) (e : x * p ≡ a * d) (f : y * p ≡ b * d) where
  scaled_lt : a < b → x < y
  scaled_lt h =
      let k : a * d < b * d = mul-lt-mul_of_pos_right h hd in
      lt_of_mul-lt-mul_right p (omega arith)

  scaled_eq : a ≡ b → x ≡ y
  scaled_eq h = eq_of_mul-eq-mul_right p hp x y (e ∙ ap (λ (n : ℕ). n * d) h ∙ sym f)

-- ---- the order

-- where a number of the sign s and the pattern a without it stands
abbrev Stands : Bool → ℕ → ℕ → Type 0
Stands false a o = o ≡ 2 ^ 63 + a
Stands true a o = o + a + 1 ≡ 2 ^ 63

stands : (b : ℕ) (s : Bool) → b < 2 ^ 64 → s ≡ leb (2 ^ 63) b → Stands s (b % 2 ^ 63) (ord b)
stands b false w h =
    let l : b < 2 ^ 63 = leb-false (2 ^ 63) b (sym h) in
    omega (arith, ord_low b l)
stands b true w h =
    let l : 2 ^ 63 ≤ b = leb-true (2 ^ 63) b (sym h) in
    omega (arith, ord_high b l w)

-- what the two zeros add to the comparison: nothing, but that -0.0 is before +0.0
abbrev Zeros : Bool → Bool → ℕ → ℕ → Bool → Type 0
Zeros true false A B z = A + B ≡ 0 → z ≡ true
Zeros true true A B z = z ≡ false
Zeros false t A B z = z ≡ false

module _ (A B a b : ℕ) (lo : a < b → A < B) (at : a ≡ b → A ≡ B) (hi : b < a → B < A) where
  same_ltb : ltb a b ≡ ltb A B
  same_ltb = go (dec_lt a b) (dec_lt b a)
    where
      go : Dec (a < b) → Dec (b < a) → ltb a b ≡ ltb A B
      go (yes l) k = lt-ltb a b l ∙ sym (lt-ltb A B (lo l))
      go (no l) (yes k) = le-ltb a b (omega arith) ∙ sym (le-ltb A B (omega (arith, hi k)))
      go (no l) (no k) = le-ltb a b (omega arith) ∙ sym (le-ltb A B (omega (arith, at (omega arith))))

-- the four pairs of signs
by_signs : (s t z : Bool) (A B a b o o' : ℕ) → (a < b → A < B) → (a ≡ b → A ≡ B) → (b < a → B < A) → Stands s a o → Stands t b o' → Zeros s t A B z
    → ltb o o' ≡ (below s A t B || z)
by_signs false false z A B a b o o' lo at hi p q e = rw e (go (dec_lt a b) ∙ same_ltb A B a b lo at hi ∙ sym (or-false (ltb A B)))
  where
    go : Dec (a < b) → ltb o o' ≡ ltb a b
    go (yes l) = lt-ltb o o' (omega arith) ∙ sym (lt-ltb a b l)
    go (no l) = le-ltb o o' (omega arith) ∙ sym (le-ltb a b (omega arith))
by_signs true true z A B a b o o' lo at hi p q e = rw e (go (dec_lt b a) ∙ same_ltb B A b a hi (λ e. sym (at (sym e))) lo ∙ sym (or-false (ltb B A)))
  where
    go : Dec (b < a) → ltb o o' ≡ ltb b a
    go (yes l) = lt-ltb o o' (omega arith) ∙ sym (lt-ltb b a l)
    go (no l) = le-ltb o o' (omega arith) ∙ sym (le-ltb b a (omega arith))
by_signs false true z A B a b o o' lo at hi p q e = rw e (le-ltb o o' (omega arith))
by_signs true false z A B a b o o' lo at hi p q e = lt-ltb o o' (omega arith) ∙ sym (go (dec_lt 0 (A + B)))
  where
    go : Dec (0 < A + B) → (ltb 0 (A + B) || z) ≡ true
    go (yes l) = rw (lt-ltb 0 (A + B) l)
    go (no l) = rw (le-ltb 0 (A + B) (omega arith), e (omega arith))

plus_zero : (m : ℕ) (e : ℤ) → minus_zero (fin false m e) ≡ false
unfolding minus_zero
plus_zero zero e = refl
plus_zero (suc m) e = refl

minus_zero_lem : (m : ℕ) (e d : ℤ) → m * up e * down d ≡ 0 → minus_zero (fin true m e) ≡ true
unfolding minus_zero
minus_zero_lem zero e d h = refl
minus_zero_lem (suc m) e d h = absurd (omega (arith, mul-pos (mul-pos (zero-lt-suc m) (up_pos e)) (down_pos d)))

zeros : (s t : Bool) (m n : ℕ) (e d : ℤ) → Zeros s t (m * up e * down d) (n * up d * down e) (minus_zero (fin s m e) && minus_zero (fin (not t) n d))
zeros false t m n e d = rw (plus_zero m e)
zeros true true m n e d = rw (plus_zero n d) (and-false (minus_zero (fin true m e)))
zeros true false m n e d = λ h. rw (minus_zero_lem m e d (omega arith), minus_zero_lem n d e (omega arith))

cross : (m u d w v a : ℕ) → m * u * w ≡ a * d → m * u * v * w ≡ a * (d * v)
cross m u d w v a h = mul_right_comm (m * u) v w ∙ ap (λ (n : ℕ). n * v) h ∙ mul_assoc a d v

ord_ahead : (x y : Float) (b c : ℕ) → Pattern x b → Pattern y c → ltb (ord b) (ord c) ≡ ahead x y
unfolding ahead lt neg
ord_ahead nan y b c p q = absurd p.value
ord_ahead (inf s) y b c p q = absurd p.value
ord_ahead (fin s m e) nan b c p q = absurd q.value
ord_ahead (fin s m e) (inf t) b c p q = absurd q.value
ord_ahead (fin s m e) (fin t n d) b c p q =
    let i = b % 2 ^ 63 in
    let j = c % 2 ^ 63 in
    let A = m * up e * down d in
    let B = n * up d * down e in
    let D = down e * down d in
    let hD : 0 < D = mul-pos (down_pos e) (down_pos d) in
    let P = 2 ^ 1074 in
    let ea : A * P ≡ val i * D = cross m (up e) (down e) P (down d) (val i) p.value.1 in
    let eb : B * P ≡ val j * D = cross n (up d) (down d) P (down e) (val j) q.value.1 ∙ ap (λ (z : ℕ). val j * z) (mul_comm (down d) (down e)) in
    by_signs s t _ A B i j (ord b) (ord c)
    (λ l. scaled_lt A B (val i) (val j) P D (pow_pos 1074) hD ea eb (val_lt i j l))
    (λ z. scaled_eq A B (val i) (val j) P D (pow_pos 1074) hD ea eb (ap val z))
    (λ l. scaled_lt B A (val j) (val i) P D (pow_pos 1074) hD eb ea (val_lt j i l))
    (stands b s p.word p.value.0) (stands c t q.word q.value.0) (zeros s t m n e d)

-- The order of bit patterns by their places is the order of the numbers by size, with -0.0 before +0.0.
pub by_size : (x y : Float) → T (fits binary64 x) → T (fits binary64 y) → finite x ≡ true → finite y ≡ true
    → ltb (ord (to_bits binary64 x)) (ord (to_bits binary64 y)) ≡ ahead x y
by_size x y f g h k = ord_ahead x y (to_bits binary64 x) (to_bits binary64 y) (pattern x f h) (pattern y g k)
