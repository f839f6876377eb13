-- A vector whose square is far above a tolerance's is longer than the tolerance. In units of the smallest value, a root that is not above the tolerance is that of
-- four times the tolerance's square at most, and rounding keeps that order. Assumes nothing.
use Prim.Native.Nat.{ℕ, ◌+◌, ◌-◌, ◌*◌, ◌/◌, ◌%◌, ◌^◌, ◌≤◌, ◌<◌}
use native.Mathlib.Omega.{arith}
use native.Mathlib.Nat.{mul-le-mul, mul-le-mul_right, mul-pos}
use mathlib.Core.Path.{◌≡◌, refl, sym, ap, ◌∙◌, subst}
use mathlib.Core.Logic.{inl, inr}
use mathlib.Core.Bool.{Bool, true, false, true≢false}
use lib.IntN.{ℤ, pos, negsuc}
use lib.Dec.{T}
use lib.Pow.{pow_pos}
use lib.Ieee.{Float, nan, fin, binary64, fits, round, of_bits, to_bits, lt, le, add, mul}
use lib.Ieee.Fits.{add-fits, down_pos}
use lib.Ieee.Order.{round_mono}
use lib.Ieee.Positive.{positive, mul_at}
use lib.Ieee.Scale.{round_same}
use borrow.Author.Tests.{ltb-false}
use Rattle.laws.proofs.Order.{lt_infinity, lt_of_infinity, lt_nan, not_less}
use Rattle.laws.proofs.Plain.{squares_not_below}
use Rattle.square_root.specs.Root.{sqrt_of}
use Rattle.square_root.specs.Nearest.{val, Nearest}
use Rattle.square_root.proofs.Values.{val_low, val_high, val_at, val_mono, val_le_back, val_pos}
use Rattle.square_root.proofs.Compare.{lt_units, number_or_infinite, above_zero, sqrt_infinity, kind, Kind, a_zero, a_number, infinite, nan_or_not_less}
use Rattle.square_root.proofs.Above.{bits_pos, value_is}
use Rattle.square_root.proofs.Order.{root_is, nearest_value}
use Rattle.square_root.proofs.Numbers.{lt_or_le}
use Rattle.near.proofs.Below.{unit, not_below, square_not_below}

-- ---- whole numbers

-- the next value is twice a value at most
next_most : (b : ℕ) → 0 < b → val (b + 1) ≤ 2 * val b
next_most b h = elim (lt_or_le b (2 ^ 52)) [ inl l ↦ rw (val_low b l) (low l) | inr g ↦ high g ]
  where
    low : b < 2 ^ 52 → val (b + 1) ≤ 2 * b
    low l =
        elim (lt_or_le (b + 1) (2 ^ 52)) [
          | inl k ↦ rw (val_low (b + 1) k) (omega arith)
          | inr g ↦ (let e : b + 1 ≡ 0 * 2 ^ 52 + 2 ^ 52 = omega arith in rw (e, val_at 0 (2 ^ 52) (omega arith) (omega arith)) (omega arith))
        ]

    high : 2 ^ 52 ≤ b → val (b + 1) ≤ 2 * val b
    high g =
        let k = b / 2 ^ 52 - 1 in
        let q = b % 2 ^ 52 + 2 ^ 52 in
        let e : b + 1 ≡ k * 2 ^ 52 + (q + 1) = omega arith in
        let z : (q + 1) * 2 ^ k ≤ 2 * q * 2 ^ k = mul-le-mul_right (2 ^ k) (omega arith) in
        rw (val_high b g, ap val e ∙ val_at k (q + 1) (omega arith) (omega arith)) (omega (arith, z))

-- a root that is not above the value of b is that of four times its square at most
square_under : (n c b : ℕ) → 0 < b → 4 * n < (val c + val (c + 1)) * (val c + val (c + 1)) → c ≤ b → n ≤ 4 * (val b * val b)
square_under n c b h high l =
    let p : val c ≤ val b = val_mono l in
    let q : val (c + 1) ≤ val (b + 1) = val_mono (omega arith) in
    let m = next_most b h in
    let s : val c + val (c + 1) ≤ 4 * val b = omega arith in
    omega (arith, mul-le-mul s s, high)

-- both sides by the unit
four_units : (n t u : ℕ) → n * u ≤ 4 * (t * t) → n * 1 * (u * u) ≤ t * t * (u * 4)
four_units n t u h = let z = mul-le-mul_right u h in omega arith

-- ---- the factor, as the code has it

abbrev pub quarter : Float
quarter = of_bits binary64 0x3FD0_0000_0000_0000

quarter_is : quarter ≡ fin false 1 (negsuc 1)
unfolding of_bits
quarter_is = refl

-- ---- numbers

module _ (tol s : Float) (G : T (fits binary64 tol)) (F : T (fits binary64 s)) (Q : T (positive tol)) (P : T (positive s)) where
  abbrev t : ℕ
  t = val (to_bits binary64 tol)

  abbrev n : ℕ
  n = val (to_bits binary64 s)

  abbrev r : Float
  r = sqrt_of binary64 s

  N : Nearest n r
  N = (root_is s F r refl).nearest n (val_pos (bits_pos s F P)) (value_is s F P)

  square_is : mul binary64 tol tol ≡ round binary64 false (t * t) (unit * unit)
  square_is = mul_at binary64 tol tol t unit t unit Q Q (pow_pos 1074) (pow_pos 1074) (value_is tol G Q) (value_is tol G Q)

  a_quarter : mul binary64 s (fin false 1 (negsuc 1)) ≡ round binary64 false (n * 1) (unit * 4)
  a_quarter = mul_at binary64 s (fin false 1 (negsuc 1)) n unit 1 4 P tt (pow_pos 1074) (omega arith) (value_is s F P) (refl, refl)

  not_over : lt tol r ≡ false → T (le (mul binary64 s (fin false 1 (negsuc 1))) (mul binary64 tol tol))
  not_over k =
      let e = lt_units tol r t (val N.bits) unit (pow_pos 1074) (value_is tol G Q) (nearest_value N) in
      let h = square_under (n * unit) N.bits (to_bits binary64 tol) (bits_pos tol G Q) N.near.high (val_le_back (ltb-false _ _ (sym e ∙ k))) in
      subst (λ (x : Float). T (le x (mul binary64 tol tol))) (sym a_quarter)
      (subst (λ (x : Float). T (le (round binary64 false (n * 1) (unit * 4)) x)) (sym square_is)
      (round_mono binary64 (n * 1) (unit * 4) (t * t) (unit * unit) (mul-pos (pow_pos 1074) (pow_pos 2)) (mul-pos (pow_pos 1074) (pow_pos 1074))
      (four_units n t unit h)))

-- what would be the other way round, is not
holds : (b : Bool) → (b ≡ false → ⊥) → b ≡ true
holds true k = refl
holds false k = absurd (k refl)

-- ---- every kind of square

module _ (tol : Float) (G : T (fits binary64 tol)) (Q : T (positive tol)) where
  -- a quarter of a zero is a zero
  zero_quarter : (b : Bool) (e : ℤ) → mul binary64 (fin b 0 e) (fin false 1 (negsuc 1)) ≡ fin b 0 (pos 0)
  unfolding mul
  zero_quarter false e = round_same binary64 false _ _ 0 1 (mul-pos (down_pos e) (omega arith)) (omega arith) (omega arith) ∙ unfold round in refl
  zero_quarter true e = round_same binary64 true _ _ 0 1 (mul-pos (down_pos e) (omega arith)) (omega arith) (omega arith) ∙ unfold round in refl

  above_kind : {s : Float} → T (fits binary64 s) → Kind s → lt (mul binary64 tol tol) (mul binary64 s (fin false 1 (negsuc 1))) ≡ true → lt tol (sqrt_of binary64 s) ≡ true
  above_kind F (a_zero b e) h =
      absurd (true≢false (sym h ∙ rw (zero_quarter b e) (not_below b (pos 0) (kind false (pos 0) (mul binary64 tol tol) (square_not_below tol G Q)))))
  above_kind F infinite h = rw sqrt_infinity (lt_infinity tol Q)
  above_kind F (a_number {x = s} P) h =
      holds (lt tol (sqrt_of binary64 s)) (λ k. true≢false (sym h ∙ not_less (mul binary64 s (fin false 1 (negsuc 1))) (mul binary64 tol tol) (not_over tol s G F Q P k)))

-- ---- vectors

nan_times : (x : Float) → mul binary64 nan x ≡ nan
unfolding mul
nan_times x = refl

module _ (tol a b : Float) (G : T (fits binary64 tol)) (low : lt (of_bits binary64 0) tol ≡ true) where
  abbrev square : Float
  square = add binary64 (mul binary64 a a) (mul binary64 b b)

  F : T (fits binary64 square)
  F = add-fits binary64 (mul binary64 a a) (mul binary64 b b)

  -- a vector is longer than a tolerance whose square is below a quarter of its own
  pub far_above : lt (mul binary64 tol tol) (mul binary64 square quarter) ≡ true → lt tol (sqrt_of binary64 square) ≡ true
  far_above h =
      elim (number_or_infinite tol (above_zero tol low)) [
        | inl Q ↦ elim (nan_or_not_less square (squares_not_below a b)) [
          | inl e ↦ absurd (true≢false (sym h ∙ rw (e, nan_times) (lt_nan (mul binary64 tol tol))))
          | inr z ↦ above_kind tol G Q F (kind false (pos 0) square z) (rw quarter_is at h)
        ]
        | inr i ↦ absurd (true≢false (sym h ∙ rw i (unfold mul in lt_of_infinity _)))
      ]
