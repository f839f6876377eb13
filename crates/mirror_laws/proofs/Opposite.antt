-- Rounding knows no side: what is reckoned of opposite numbers is opposite, and is compared the other way round. Only a zero may come out
-- with either sign, as the difference of two equal numbers is +0.0 on both sides. Assumes nothing.
use Prim.Native.Nat.{ℕ, ◌+◌, ◌*◌, ◌-◌, ◌<◌}
use native.Mathlib.Omega.{arith}
use native.Mathlib.Nat.{mul-pos, add_comm, mul_comm, eq-zero-or-pos}
use mathlib.Core.Path.{◌≡◌, refl, sym, ap, ap₂, subst, ◌∙◌}
use mathlib.Core.Logic.{inl, inr}
use mathlib.Core.Bool.{Bool, true, false, not, ◌||◌, cond, not-not, and_comm}
use lib.IntN.{pos}
use lib.Dec.{T, ltb, eqb}
use lib.Ieee.{Float, nan, inf, fin, binary64, unlike, up, down, round, sum, add, sub, mul, neg, lt, eq, le}
use lib.Ieee.Fits.{down_pos}
use lib.Ieee.Scale.{round_same}
use borrow.Author.Tests.{lt-ltb, le-ltb, ltb-false}
use Rattle.scalar.specs.Float.{◌⊕◌, ◌⊖◌, ◌⊗◌}
use Rattle.scalar.specs.Scalar.{minus_zero, ahead, or_number, smaller_of, larger_of}
use Rattle.laws.proofs.Rounding.{round_minus}
use Rattle.laws.proofs.Order.{le_trans, le_of_eq, eq_back}
use Rattle.mirror_laws.specs.Mirrored.{Opposite, turned, zeros}
use Rattle.mirror_laws.proofs.Twice.{neg_neg}

-- ---- roundings

pub back : {x y : Float} → Opposite x y → Opposite y x
back (turned x) = subst (Opposite (neg x)) (neg_neg x) (turned (neg x))
back (zeros s t) = zeros t s

round_neg : (s : Bool) (a c : ℕ) → round binary64 (not s) a c ≡ neg (round binary64 s a c)
round_neg false a c = round_minus binary64 a c
round_neg true a c = sym (ap neg (round_minus binary64 a c) ∙ neg_neg (round binary64 false a c))

round_not : (s : Bool) (a c : ℕ) → Opposite (round binary64 s a c) (round binary64 (not s) a c)
round_not s a c = subst (Opposite (round binary64 s a c)) (sym (round_neg s a c)) (turned (round binary64 s a c))

zero_at_one : (s : Bool) → round binary64 s 0 1 ≡ fin s 0 (pos 0)
unfolding round
zero_at_one true = refl
zero_at_one false = refl

round_zero : (s : Bool) (a c : ℕ) → a ≡ 0 → 0 < c → round binary64 s a c ≡ fin s 0 (pos 0)
round_zero s a c e C = rw e (round_same binary64 s 0 c 0 1 C (omega arith) (omega arith) ∙ zero_at_one s)

round_zeros : (s t : Bool) (a b c d : ℕ) → a ≡ 0 → b ≡ 0 → 0 < c → 0 < d → Opposite (round binary64 s a c) (round binary64 t b d)
round_zeros s t a b c d e f C D = rw (round_zero s a c e C, round_zero t b d f D) (zeros s t)

-- ---- sums

-- of one sign, and of two
pub one_sign : (s : Bool) (a b c : ℕ) → sum binary64 s a s b c ≡ round binary64 s (a + b) c
unfolding sum
one_sign false a b c = refl
one_sign true a b c = refl

pub plus_minus : (a b c : ℕ) → sum binary64 false a true b c ≡ cond (ltb a b) (round binary64 true (b - a) c)
    (round binary64 false (a - b) c)
unfolding sum
plus_minus a b c = refl

pub minus_plus : (a b c : ℕ)
    → sum binary64 true a false b c ≡ cond (ltb a b) (round binary64 false (b - a) c) (round binary64 (ltb b a) (a - b) c)
unfolding sum
minus_plus a b c = refl

across : (a b c : ℕ) → 0 < c → Opposite (sum binary64 false a true b c) (sum binary64 true a false b c)
across a b c C = rw (plus_minus a b c, minus_plus a b c) (by (ltb a b) refl (ltb b a) refl)
  where
    by : (p : Bool) → ltb a b ≡ p → (q : Bool) → ltb b a ≡ q
        → Opposite (cond p (round binary64 true (b - a) c) (round binary64 false (a - b) c))
        (cond p (round binary64 false (b - a) c) (round binary64 q (a - b) c))
    by true h q k = round_not true (b - a) c
    by false h true k = round_not false (a - b) c
    by false h false k =
        let l = ltb-false a b h in
        let m = ltb-false b a k in
        let z : a - b ≡ 0 = omega arith in
        round_zeros false false (a - b) (a - b) c c z z C C

sums : (s t : Bool) (a b c : ℕ) → 0 < c → Opposite (sum binary64 s a t b c) (sum binary64 (not s) a (not t) b c)
sums false false a b c C = rw (one_sign false a b c, one_sign true a b c) (round_not false (a + b) c)
sums true true a b c C = rw (one_sign false a b c, one_sign true a b c) (round_not true (a + b) c)
sums false true a b c C = across a b c C
sums true false a b c C = back (across a b c C)

-- a zero added, on either side
module _ (n c : ℕ) (some : 0 < n) where
  zero_sum : (s u : Bool) → sum binary64 s 0 u n c ≡ round binary64 u n c
  zero_sum false false = let e : 0 + n ≡ n = omega arith in one_sign false 0 n c ∙ ap (λ (k : ℕ). round binary64 false k c) e
  zero_sum true true = let e : 0 + n ≡ n = omega arith in one_sign true 0 n c ∙ ap (λ (k : ℕ). round binary64 true k c) e
  zero_sum false true = let e : n - 0 ≡ n = omega arith in plus_minus 0 n c ∙ (rw (lt-ltb 0 n some, e) refl)
  zero_sum true false = let e : n - 0 ≡ n = omega arith in minus_plus 0 n c ∙ (rw (lt-ltb 0 n some, e) refl)

  sum_zero : (s u : Bool) → sum binary64 u n s 0 c ≡ round binary64 u n c
  sum_zero false false = let e : n + 0 ≡ n = omega arith in one_sign false n 0 c ∙ ap (λ (k : ℕ). round binary64 false k c) e
  sum_zero true true = let e : n + 0 ≡ n = omega arith in one_sign true n 0 c ∙ ap (λ (k : ℕ). round binary64 true k c) e
  sum_zero true false = let e : n - 0 ≡ n = omega arith in plus_minus n 0 c ∙ (rw (le-ltb n 0 (omega arith), e) refl)
  sum_zero false true = let e : n - 0 ≡ n = omega arith in minus_plus n 0 c ∙ (rw (le-ltb n 0 (omega arith), lt-ltb 0 n some, e) refl)

zero_zero : (s u : Bool) (c : ℕ) → 0 < c → (v : Bool) × (sum binary64 s 0 u 0 c ≡ fin v 0 (pos 0))
zero_zero false false c C = (false, one_sign false 0 0 c ∙ round_zero false 0 c refl C)
zero_zero true true c C = (true, one_sign true 0 0 c ∙ round_zero true 0 c refl C)
zero_zero false true c C = (false, plus_minus 0 0 c ∙ round_zero false 0 c refl C)
zero_zero true false c C = (false, minus_plus 0 0 c ∙ round_zero false 0 c refl C)

two_zeros : (s t u v : Bool) (z y c : ℕ) → z ≡ 0 → y ≡ 0 → 0 < c → Opposite (sum binary64 s z u y c) (sum binary64 t z v y c)
two_zeros s t u v z y c e f C = let p = zero_zero s u c C in let q = zero_zero t v c C in rw (e, f, p.1, q.1) (zeros p.0 q.0)

zeros_plus : (s t u : Bool) (z n c : ℕ) → z ≡ 0 → 0 < c → Opposite (sum binary64 s z u n c) (sum binary64 t z (not u) n c)
zeros_plus s t u z n c e C =
    elim (eq-zero-or-pos n) [
      | inl f ↦ two_zeros s t u (not u) z n c e f C
      | inr l ↦ rw (e, zero_sum n c l s u, zero_sum n c l t (not u)) (round_not u n c)
    ]

plus_zeros : (s t u : Bool) (z n c : ℕ) → z ≡ 0 → 0 < c → Opposite (sum binary64 u n s z c) (sum binary64 (not u) n t z c)
plus_zeros s t u z n c e C =
    elim (eq-zero-or-pos n) [
      | inl f ↦ two_zeros u (not u) s t n z c f e C
      | inr l ↦ rw (e, sum_zero n c l s u, sum_zero n c l t (not u)) (round_not u n c)
    ]

add_turned : (x y : Float) → Opposite (x ⊕ y) (neg x ⊕ neg y)
unfolding add neg
add_turned nan y = turned nan
add_turned (inf s) nan = turned nan
add_turned (inf true) (inf true) = turned (inf true)
add_turned (inf true) (inf false) = turned nan
add_turned (inf false) (inf true) = turned nan
add_turned (inf false) (inf false) = turned (inf false)
add_turned (inf s) (fin t n d) = turned (inf s)
add_turned (fin s m e) nan = turned nan
add_turned (fin s m e) (inf t) = turned (inf t)
add_turned (fin s m e) (fin t n d) = sums s t (m * up e * down d) (n * up d * down e) (down e * down d) (mul-pos (down_pos e) (down_pos d))

zeros_add : (s t : Bool) (y : Float) → Opposite (fin s 0 (pos 0) ⊕ y) (fin t 0 (pos 0) ⊕ neg y)
unfolding add neg
zeros_add s t nan = turned nan
zeros_add s t (inf u) = turned (inf u)
zeros_add s t (fin u n d) = zeros_plus s t u (0 * 1 * down d) (n * up d * 1) (1 * down d) (omega arith) (omega (arith, down_pos d))

add_zeros : (s t : Bool) (x : Float) → Opposite (x ⊕ fin s 0 (pos 0)) (neg x ⊕ fin t 0 (pos 0))
unfolding add neg
add_zeros s t nan = turned nan
add_zeros s t (inf u) = turned (inf u)
add_zeros s t (fin u n d) = plus_zeros s t u (0 * 1 * down d) (n * up d * 1) (down d * 1) (omega arith) (omega (arith, down_pos d))

pub add_opposite : {x x' y y' : Float} → Opposite x x' → Opposite y y' → Opposite (x ⊕ y) (x' ⊕ y')
add_opposite (turned x) (turned y) = add_turned x y
add_opposite (turned x) (zeros s t) = add_zeros s t x
add_opposite (zeros s t) (turned y) = zeros_add s t y
add_opposite (zeros s t) (zeros u v) = unfold add in two_zeros s t u v 0 0 1 refl refl (omega arith)

neg_opposite : {x x' : Float} → Opposite x x' → Opposite (neg x) (neg x')
neg_opposite (turned x) = turned (neg x)
neg_opposite (zeros s t) = unfold neg in zeros (not s) (not t)

pub sub_opposite : {x x' y y' : Float} → Opposite x x' → Opposite y y' → Opposite (x ⊖ y) (x' ⊖ y')
unfolding sub
sub_opposite X Y = add_opposite X (neg_opposite Y)

-- ---- products of a number and two opposite ones

unlike_not : (s t : Bool) → unlike (not s) t ≡ not (unlike s t)
unlike_not true true = refl
unlike_not true false = refl
unlike_not false true = refl
unlike_not false false = refl

infinite_neg : (b s t : Bool) → cond b nan (inf (unlike (not s) t)) ≡ neg (cond b nan (inf (unlike s t)))
unfolding neg
infinite_neg true s t = refl
infinite_neg false s t = ap inf (unlike_not s t)

-- a negated factor negates the product, bit for bit
pub mul_neg : (x y : Float) → neg x ⊗ y ≡ neg (x ⊗ y)
unfolding mul neg
mul_neg nan y = refl
mul_neg (inf s) nan = refl
mul_neg (inf s) (inf t) = ap inf (unlike_not s t)
mul_neg (inf s) (fin t n d) = infinite_neg (eqb n 0) s t
mul_neg (fin s m e) nan = refl
mul_neg (fin s m e) (inf t) = infinite_neg (eqb m 0) s t
mul_neg (fin s m e) (fin t n d) =
    ap (λ (b : Bool). round binary64 b (m * up e * (n * up d)) (down e * down d)) (unlike_not s t)
    ∙ round_neg (unlike s t) (m * up e * (n * up d)) (down e * down d)

zeros_mul : (s t : Bool) (y : Float) → Opposite (fin s 0 (pos 0) ⊗ y) (fin t 0 (pos 0) ⊗ y)
unfolding mul neg
zeros_mul s t nan = turned nan
zeros_mul s t (inf u) = turned nan
zeros_mul s t (fin u n d) =
    let z : 0 * 1 * (n * up d) ≡ 0 = omega arith in
    round_zeros (unlike s u) (unlike t u) (0 * 1 * (n * up d)) (0 * 1 * (n * up d)) (1 * down d) (1 * down d) z z
    (omega (arith, down_pos d)) (omega (arith, down_pos d))

pub mul_opposite : {x x' : Float} (y : Float) → Opposite x x' → Opposite (x ⊗ y) (x' ⊗ y)
mul_opposite y (turned x) = subst (Opposite (x ⊗ y)) (sym (mul_neg x y)) (turned (x ⊗ y))
mul_opposite y (zeros s t) = zeros_mul s t y

unlike_back : (s t : Bool) → unlike s t ≡ unlike t s
unlike_back true true = refl
unlike_back true false = refl
unlike_back false true = refl
unlike_back false false = refl

pub mul_back : (x y : Float) → x ⊗ y ≡ y ⊗ x
unfolding mul
mul_back nan nan = refl
mul_back nan (inf t) = refl
mul_back nan (fin t n d) = refl
mul_back (inf s) nan = refl
mul_back (inf s) (inf t) = ap inf (unlike_back s t)
mul_back (inf s) (fin t n d) = ap (λ (b : Bool). cond (eqb n 0) nan (inf b)) (unlike_back s t)
mul_back (fin s m e) nan = refl
mul_back (fin s m e) (inf t) = ap (λ (b : Bool). cond (eqb m 0) nan (inf b)) (unlike_back s t)
mul_back (fin s m e) (fin t n d) =
    ap₂ (λ (b : Bool) (a : ℕ). round binary64 b a (down e * down d)) (unlike_back s t) (mul_comm (m * up e) (n * up d))
    ∙ ap (λ (c : ℕ). round binary64 (unlike t s) (n * up d * (m * up e)) c) (mul_comm (down e) (down d))

-- ---- comparisons

pub lt_neg : (x y : Float) → lt (neg x) (neg y) ≡ lt y x
unfolding lt neg
lt_neg nan nan = refl
lt_neg nan (inf t) = refl
lt_neg nan (fin t n d) = refl
lt_neg (inf s) nan = refl
lt_neg (inf true) (inf true) = refl
lt_neg (inf true) (inf false) = refl
lt_neg (inf false) (inf true) = refl
lt_neg (inf false) (inf false) = refl
lt_neg (inf s) (fin t n d) = refl
lt_neg (fin s m e) nan = refl
lt_neg (fin s m e) (inf t) = not-not t
lt_neg (fin false m e) (fin false n d) = refl
lt_neg (fin false m e) (fin true n d) = ap (λ (k : ℕ). ltb 0 k) (add_comm (m * up e * down d) (n * up d * down e))
lt_neg (fin true m e) (fin false n d) = refl
lt_neg (fin true m e) (fin true n d) = refl

eq_neg : (x y : Float) → eq (neg x) (neg y) ≡ eq x y
unfolding eq neg
eq_neg nan y = refl
eq_neg (inf s) nan = refl
eq_neg (inf true) (inf true) = refl
eq_neg (inf true) (inf false) = refl
eq_neg (inf false) (inf true) = refl
eq_neg (inf false) (inf false) = refl
eq_neg (inf s) (fin t n d) = refl
eq_neg (fin s m e) nan = refl
eq_neg (fin s m e) (inf t) = refl
eq_neg (fin true m e) (fin true n d) = refl
eq_neg (fin true m e) (fin false n d) = refl
eq_neg (fin false m e) (fin true n d) = refl
eq_neg (fin false m e) (fin false n d) = refl

-- two truths of which each follows from the other
same_truth : (a b : Bool) → (a ≡ true → b ≡ true) → (b ≡ true → a ≡ true) → a ≡ b
same_truth true b f g = sym (f refl)
same_truth false true f g = g refl
same_truth false false f g = refl

le_neg : (x y : Float) → le (neg x) (neg y) ≡ le y x
unfolding le
le_neg x y = rw (lt_neg x y, eq_neg x y) (ap (λ (b : Bool). lt y x || b) (same_truth (eq x y) (eq y x) (eq_back x y) (eq_back y x)))

is_true : (b : Bool) → T b → b ≡ true
is_true true h = refl
is_true false h = absurd h

zeros_equal : (s t : Bool) → eq (fin s 0 (pos 0)) (fin t 0 (pos 0)) ≡ true
unfolding eq
zeros_equal true true = refl
zeros_equal true false = refl
zeros_equal false true = refl
zeros_equal false false = refl

zero_below : (s t : Bool) (y : Float) → le (fin s 0 (pos 0)) y ≡ true → le (fin t 0 (pos 0)) y ≡ true
zero_below s t y h =
    is_true _ (le_trans (fin t 0 (pos 0)) (fin s 0 (pos 0)) y (le_of_eq (fin t 0 (pos 0)) (fin s 0 (pos 0)) (zeros_equal t s))
    (subst T (sym h) tt))

zero_above : (s t : Bool) (y : Float) → le y (fin s 0 (pos 0)) ≡ true → le y (fin t 0 (pos 0)) ≡ true
zero_above s t y h =
    is_true _ (le_trans y (fin s 0 (pos 0)) (fin t 0 (pos 0)) (subst T (sym h) tt)
    (le_of_eq (fin s 0 (pos 0)) (fin t 0 (pos 0)) (zeros_equal s t)))

pub le_opposite : {x x' : Float} → Opposite x x' → (p : Float) → le x' (neg p) ≡ le p x
unfolding neg
le_opposite (turned x) p = le_neg x p
le_opposite (zeros s t) p =
    same_truth (le (fin t 0 (pos 0)) (neg p)) (le (neg (fin s 0 (pos 0))) (neg p)) (zero_below t (not s) (neg p))
    (zero_below (not s) t (neg p))
    ∙ le_neg (fin s 0 (pos 0)) p

pub opposite_le : {x x' : Float} → Opposite x x' → (p : Float) → le (neg p) x' ≡ le x p
unfolding neg
opposite_le (turned x) p = le_neg p x
opposite_le (zeros s t) p =
    same_truth (le (neg p) (fin t 0 (pos 0))) (le (neg p) (neg (fin s 0 (pos 0)))) (zero_above t (not s) (neg p))
    (zero_above (not s) t (neg p))
    ∙ le_neg p (fin s 0 (pos 0))

-- ---- the smaller and the larger

ahead_neg : (a b : Float) → ahead (neg a) (neg b) ≡ ahead b a
unfolding ahead
ahead_neg a b = rw (lt_neg a b, neg_neg b) (ap (λ (t : Bool). lt b a || t) (and_comm (minus_zero (neg a)) (minus_zero b)))

number_neg : (a b c : Float) → or_number (neg a) (neg b) (neg c) ≡ neg (or_number a b c)
unfolding or_number neg
number_neg nan b c = refl
number_neg (inf s) nan c = refl
number_neg (fin s m e) nan c = refl
number_neg (inf s) (inf t) c = refl
number_neg (inf s) (fin t n d) c = refl
number_neg (fin s m e) (inf t) c = refl
number_neg (fin s m e) (fin t n d) c = refl

either_neg : (t : Bool) (a b : Float) → cond t (neg a) (neg b) ≡ neg (cond t a b)
either_neg true a b = refl
either_neg false a b = refl

pub smaller_neg : (a b : Float) → smaller_of (neg a) (neg b) ≡ neg (larger_of a b)
unfolding smaller_of larger_of
smaller_neg a b = rw (ahead_neg b a, either_neg (ahead a b) b a) (number_neg a b (cond (ahead a b) b a))

pub larger_neg : (a b : Float) → larger_of (neg a) (neg b) ≡ neg (smaller_of a b)
unfolding smaller_of larger_of
larger_neg a b = rw (ahead_neg a b, either_neg (ahead b a) b a) (number_neg a b (cond (ahead b a) b a))
