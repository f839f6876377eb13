-- A number whose root is below a tolerance is not above the tolerance's square: in units of the smallest value the root's upper halfway point is not above the
-- tolerance, so the number is not above the exact square, and rounding keeps that order. Assumes nothing.
use Prim.Native.Nat.{ℕ, suc, zero-le, ◌+◌, ◌-◌, ◌*◌, ◌/◌, ◌%◌, ◌^◌, ◌≤◌, ◌<◌}
use native.Mathlib.Omega.{arith}
use native.Mathlib.Numerals.{add-one}
use native.Mathlib.Nat.{mul-le-mul, mul-le-mul_right, le_refl, mul_assoc, mul-one, mul-pos, zero-mul}
use mathlib.Core.Path.{◌≡◌, refl, sym, ◌∙◌, subst}
use mathlib.Core.Logic.{inl, inr}
use mathlib.Core.Bool.{Bool, true, false, true≢false}
use lib.IntN.{ℤ, pos}
use lib.Dec.{T}
use lib.Pow.{pow_pos}
use lib.Ieee.{Float, nan, inf, fin, Format, prec, emax, low, up, down, binary64, fits, round, of_bits, to_bits, lt, le, add, mul}
use lib.Ieee.Fits.{add-fits}
use lib.Ieee.Exact.{HasValue, round_exact}
use lib.Ieee.Order.{le_of_values, round_mono}
use lib.Ieee.Positive.{positive, above_of_le, positive_of_value, le_trans_positive, mul_at}
use borrow.Author.Tests.{ltb-true, le-ltb}
use Rattle.laws.proofs.Order.{le_of_lt, lt_infinity, lt_of_infinity, not_less}
use Rattle.laws.proofs.Plain.{squares_not_below}
use Rattle.square_root.specs.Root.{sqrt_of}
use Rattle.square_root.specs.Nearest.{val}
use Rattle.square_root.proofs.Values.{val_low, val_high, val_at, val_mono, val_lt, val_pos}
use Rattle.square_root.proofs.Compare.{lt_units, number_or_infinite, above_zero, sqrt_infinity, kind, Kind, a_zero, a_number, infinite, nan_or_not_less}
use Rattle.square_root.proofs.Above.{bits_pos, bits_lt, value_is}
use Rattle.square_root.proofs.Order.{root_is, nearest_value}
use Rattle.square_root.proofs.Numbers.{lt_or_le}

abbrev pub unit : ℕ
unit = 2 ^ 1074

-- a root below t units is that of less than t squared
square_below : (n t c b : ℕ) → 4 * n < (val c + val (c + 1)) * (val c + val (c + 1)) → t ≡ val b → val c < t → n ≤ t * t
square_below n t c b high e l = omega (arith, mul-le-mul s s)
  where
    below : c < b
    below = elim (lt_or_le c b) [ inl h ↦ h | inr g ↦ absurd (let q : val b ≤ val c = val_mono g in omega arith) ]

    next : val (c + 1) ≤ t
    next = rw (e, add-one c) (val_mono below)

    s : val c + val (c + 1) ≤ t + t
    s = omega (arith, next)

-- a number of the format's digits is its own rounding
own : (f : Format) (q j : ℕ) → q < 2 ^ prec f → q * 2 ^ j < 2 ^ (low f + suc (emax f))
    → HasValue (round f false (q * 2 ^ j) (2 ^ low f)) false (q * 2 ^ j) (2 ^ low f)
own f q j h k = round_exact f false (q * 2 ^ j) (2 ^ low f) q j (pow_pos (low f)) h k refl

most : (b : ℕ) → b < 2047 * 2 ^ 52 → val b < 2 ^ 2098
most b h = subst (λ (x : ℕ). val b < x) (val_at 2046 (2 ^ 52) (omega arith) (omega arith)) (val_lt h)

pub own_round : (b : ℕ) → b < 2047 * 2 ^ 52 → HasValue (round binary64 false (val b) unit) false (val b) unit
own_round b h = elim (lt_or_le b (2 ^ 52)) [
  | inl l ↦ (let e : b * 2 ^ 0 ≡ val b = mul-one b ∙ sym (val_low b l) in
      subst (λ (x : ℕ). HasValue (round binary64 false x unit) false x unit) e (own binary64 b 0 (omega arith) (rw e (most b h))))
  | inr g ↦ (let e = sym (val_high b g) in
      subst (λ (x : ℕ). HasValue (round binary64 false x unit) false x unit) e
      (own binary64 (b % 2 ^ 52 + 2 ^ 52) (b / 2 ^ 52 - 1) (omega arith) (rw e (most b h))))
]

module _ (tol s : Float) (G : T (fits binary64 tol)) (F : T (fits binary64 s)) (Q : T (positive tol)) (P : T (positive s)) where
  abbrev t : ℕ
  t = val (to_bits binary64 tol)

  abbrev n : ℕ
  n = val (to_bits binary64 s)

  in_order : n * unit ≤ t * t → T (le s (mul binary64 tol tol))
  in_order h =
      elim (number_or_infinite z (above_of_le y z Y d)) [
        | inl Z ↦ le_trans_positive s y z P Y Z a d
        | inr e ↦ rw e (le_of_lt s (inf false) (lt_infinity s P))
      ]
    where
      y : Float
      y = round binary64 false n unit

      z : Float
      z = mul binary64 tol tol

      has : HasValue y false n unit
      has = own_round (to_bits binary64 s) (bits_lt s F P)

      Y : T (positive y)
      Y = positive_of_value y n unit has (val_pos (bits_pos s F P))

      a : T (le s y)
      a = le_of_values s y n unit n unit (pow_pos 1074) (pow_pos 1074) (value_is s F P) has (le_refl (n * unit))

      d : T (le y z)
      d =
          subst (λ (x : Float). T (le y x))
          (sym (mul_at binary64 tol tol t unit t unit Q Q (pow_pos 1074) (pow_pos 1074) (value_is tol G Q) (value_is tol G Q)))
          (round_mono binary64 n unit (t * t) (unit * unit) (pow_pos 1074) (mul-pos (pow_pos 1074) (pow_pos 1074))
          (subst (λ (x : ℕ). x ≤ t * t * unit) (mul_assoc n unit unit) (mul-le-mul_right unit h)))

  -- the square of a tolerance that is above the root
  not_above : lt (sqrt_of binary64 s) tol ≡ true → lt (mul binary64 tol tol) s ≡ false
  not_above h =
      let r = sqrt_of binary64 s in
      let N = (root_is s F r refl).nearest n (val_pos (bits_pos s F P)) (value_is s F P) in
      let l = sym (lt_units r tol (val N.bits) t unit (pow_pos 1074) (nearest_value N) (value_is tol G Q)) ∙ h in
      not_less s (mul binary64 tol tol) (in_order (square_below (n * unit) t N.bits (to_bits binary64 tol) N.near.high refl (ltb-true _ _ l)))

-- what is not below zero is not less than a zero
pub not_below : (b : Bool) (e : ℤ) {x : Float} → Kind x → lt x (fin b 0 e) ≡ false
unfolding lt
not_below false e (a_zero false d) = le-ltb (0 * up d * down e) (0 * up e * down d) (omega arith)
not_below true e (a_zero false d) = refl
not_below false e (a_zero true d) = le-ltb 0 (0 * up d * down e + 0 * up e * down d) (omega arith)
not_below true e (a_zero true d) = le-ltb (0 * up e * down d) (0 * up d * down e) (omega arith)
not_below b e infinite = refl
not_below b e (a_number {x = x} P) = by x P b
  where
    by : (x : Float) → T (positive x) → (b : Bool) → lt x (fin b 0 e) ≡ false
    by nan P b = absurd P
    by (inf s) P b = absurd P
    by (fin true m d) P b = absurd P
    by (fin false m d) P true = refl
    by (fin false m d) P false = le-ltb (m * up d * down e) (0 * up e * down d) (omega arith)

module _ (tol : Float) (G : T (fits binary64 tol)) (Q : T (positive tol)) where
  -- the square of a tolerance is not below zero
  pub square_not_below : T (le (fin false 0 (pos 0)) (mul binary64 tol tol))
  square_not_below =
      let t = val (to_bits binary64 tol) in
      subst (λ (x : Float). T (le (fin false 0 (pos 0)) x))
      (sym (mul_at binary64 tol tol t unit t unit Q Q (pow_pos 1074) (pow_pos 1074) (value_is tol G Q) (value_is tol G Q)))
      (subst (λ (x : Float). T (le x (round binary64 false (t * t) (unit * unit)))) zero_rounds
      (round_mono binary64 0 1 (t * t) (unit * unit) (pow_pos 0) (mul-pos (pow_pos 1074) (pow_pos 1074)) (rw zero-mul zero-le)))
    where
      zero_rounds : round binary64 false 0 1 ≡ fin false 0 (pos 0)
      zero_rounds = unfold round in refl

  by_kind : {s : Float} → T (fits binary64 s) → Kind s → lt (mul binary64 tol tol) s ≡ true → lt (sqrt_of binary64 s) tol ≡ false
  by_kind F (a_zero b e) h = absurd (true≢false (sym h ∙ not_below b e (kind false (pos 0) (mul binary64 tol tol) square_not_below)))
  by_kind F infinite h = rw sqrt_infinity (lt_of_infinity tol)
  by_kind F (a_number {x = s} P) h = by (lt (sqrt_of binary64 s) tol) refl
    where
      by : (b : Bool) → lt (sqrt_of binary64 s) tol ≡ b → b ≡ false
      by true k = absurd (true≢false (sym h ∙ not_above tol s G F Q P k))
      by false k = refl

-- a vector is not shorter than a tolerance whose square is below its own
pub no_root : (tol a b : Float) → T (fits binary64 tol) → lt (of_bits binary64 0) tol ≡ true →
    let s = add binary64 (mul binary64 a a) (mul binary64 b b) in
    lt (mul binary64 tol tol) s ≡ true → lt (sqrt_of binary64 s) tol ≡ false
no_root tol a b G low h =
    elim (number_or_infinite tol (above_zero tol low)) [
      | inl Q ↦ elim (nan_or_not_less s (squares_not_below a b)) [ inl e ↦ rw e (unfold lt sqrt_of in refl) | inr z ↦ by_kind tol G Q (add-fits binary64 (mul binary64 a a) (mul binary64 b b)) (kind false (pos 0) s z) h ]
      | inr e ↦ absurd (true≢false (sym h ∙ infinite_square e))
    ]
  where
    s : Float
    s = add binary64 (mul binary64 a a) (mul binary64 b b)

    infinite_square : tol ≡ inf false → lt (mul binary64 tol tol) s ≡ false
    infinite_square e = rw e (unfold mul in lt_of_infinity s)
