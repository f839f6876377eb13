-- A value is its own rounding, so a sum with what is not below zero is not below the other, and of a square and a square not below either. Assumes nothing.
use Prim.Native.Nat.{ℕ, zero, suc, ◌+◌, ◌*◌}
use native.Mathlib.Omega.{arith}
use native.Mathlib.Nat.{zero-lt-suc, mul-pos, le_refl, mul-le-mul_right}
use mathlib.Core.Path.{◌≡◌, refl, sym, ◌∙◌, subst}
use mathlib.Core.Bool.{Bool, true, false}
use lib.IntN.{ℤ, pos}
use lib.Dec.{T, lt→ltb}
use lib.Pow.{pow_pos}
use lib.Ieee.{Float, fin, binary64, up, down, fits, round, neg, to_bits, add, le}
use lib.Ieee.Fits.{down_pos, neg-fits}
use lib.Ieee.Order.{le_of_values}
use lib.Ieee.Scale.{round_same}
use lib.Ieee.Positive.{positive, den, value→cross}
use Rattle.laws.proofs.Parts.{plus, less, NotAbove, parts_of_le, le_of_parts}
use Rattle.laws.proofs.Order.{le_trans}
use Rattle.laws.proofs.Plain.{number, round_plain, turned}
use Rattle.laws.proofs.Rounding.{Rounds, upward, downward, rounds_mono, round_minus, finite_sum}
use Rattle.square_root.specs.Nearest.{val}
use Rattle.square_root.proofs.Above.{value_is, bits_lt}
use Rattle.near.proofs.Below.{own_round, unit}

-- ---- a finite value's own rounding

abbrev pub rounded : Bool → ℕ → ℤ → Float
rounded s m e = round binary64 s (m * up e) (down e)

pub own_rounds : (s : Bool) (m : ℕ) (e : ℤ) → let x = fin s m e in Rounds binary64 (rounded s m e) (plus x) (less x) (den x)
own_rounds false m e = upward (m * up e) 0 (down e) (m * up e) (omega arith)
own_rounds true m e = downward 0 (m * up e) (down e) (m * up e) (omega arith)

pub own_zero : (s : Bool) (e : ℤ) → rounded s 0 e ≡ fin s 0 (pos 0)
own_zero s e = round_same binary64 s (0 * up e) (down e) 0 1 (down_pos e) (omega arith) (omega arith) ∙ at_one s
  where
    at_one : (s : Bool) → round binary64 s 0 1 ≡ fin s 0 (pos 0)
    at_one true = unfold round in refl
    at_one false = unfold round in refl

abbrev Own : Bool → ℕ → ℤ → Type 0
Own s m e = T (le (fin s m e) (rounded s m e)) × T (le (rounded s m e) (fin s m e))

own_plain : (m : ℕ) (e : ℤ) → T (fits binary64 (fin false m e)) → Own false m e
own_plain zero e F = rw (own_zero false e) (le_of_parts false 0 e false 0 (pos 0) (omega arith), le_of_parts false 0 (pos 0) false 0 e (omega arith))
own_plain (suc m) e F =
    let x = fin false (suc m) e in
    let P : T (positive x) = lt→ltb 0 (suc m) (zero-lt-suc m) in
    let n = val (to_bits binary64 x) in
    let has = own_round (to_bits binary64 x) (bits_lt x F P) in
    let v = value_is x F P in
    let same = round_same binary64 false n unit (suc m * up e) (down e) (pow_pos 1074) (down_pos e) (sym (value→cross x n unit v)) in (
      subst (λ (y : Float). T (le x y)) same (le_of_values x (round binary64 false n unit) n unit n unit (pow_pos 1074) (pow_pos 1074) v has (le_refl (n * unit))),
      subst (λ (y : Float). T (le y x)) same (le_of_values (round binary64 false n unit) x n unit n unit (pow_pos 1074) (pow_pos 1074) has v (le_refl (n * unit))),
    )

pub own : (s : Bool) (m : ℕ) (e : ℤ) → T (fits binary64 (fin s m e)) → Own s m e
unfolding neg
own false m e F = own_plain m e F
own true m e F =
    let o = own_plain m e (neg-fits binary64 (fin true m e) F) in
    let p = round_plain binary64 (m * up e) (down e) in
    rw (round_minus binary64 (m * up e) (down e)) (turned p (number m e) o.1, turned (number m e) p o.0)

-- ---- a sum beside what is added to

-- not below zero, and not above it
abbrev pub Rising : Float → Type 0
Rising u = less u ≡ 0

abbrev pub Falling : Float → Type 0
Falling u = plus u ≡ 0

module _ (s : Bool) (m : ℕ) (e : ℤ) (t : Bool) (n : ℕ) (d : ℤ) (F : T (fits binary64 (fin s m e))) where
  abbrev x : Float
  x = fin s m e

  abbrev u : Float
  u = fin t n d

  risen : (p k c q b : ℕ) → NotAbove p k c (p * b + q * c) (k * b + 0 * c) (c * b)
  risen p k c q b = omega arith

  fallen : (p k c o b : ℕ) → NotAbove (p * b + 0 * c) (k * b + o * c) (c * b) p k c
  fallen p k c o b = omega arith

  pub rises : Rising u → T (le x (add binary64 x u))
  rises h =
      le_trans x (rounded s m e) (add binary64 x u) (own s m e F).0
      (rounds_mono binary64 (down_pos e) (mul-pos (down_pos e) (down_pos d)) (own_rounds s m e) (finite_sum binary64 s m e t n d)
      (subst (λ (z : ℕ). NotAbove (plus x) (less x) (den x) (plus x * den u + plus u * den x) (less x * den u + z * den x) (den x * den u)) (sym h)
      (risen (plus x) (less x) (den x) (plus u) (den u))))

  pub falls : Falling u → T (le (add binary64 x u) x)
  falls h =
      le_trans (add binary64 x u) (rounded s m e) x
      (rounds_mono binary64 (mul-pos (down_pos e) (down_pos d)) (down_pos e) (finite_sum binary64 s m e t n d) (own_rounds s m e)
      (subst (λ (z : ℕ). NotAbove (plus x * den u + z * den x) (less x * den u + less u * den x) (den x * den u) (plus x) (less x) (den x)) (sym h)
      (fallen (plus x) (less x) (den x) (less u) (den u))))
      (own s m e F).1

-- ---- a sum grows with what is added

widened : (p n c q o d r k b : ℕ) → NotAbove p n c q o d
    → NotAbove (r * c + p * b) (k * c + n * b) (b * c) (r * d + q * b) (k * d + o * b) (b * d)
widened p n c q o d r k b l = let z = mul-le-mul_right (b * b) l in omega arith

pub adds_more : (s : Bool) (m : ℕ) (e : ℤ) (t : Bool) (n : ℕ) (d : ℤ) (r : Bool) (k : ℕ) (b : ℤ)
    → T (le (fin t n d) (fin r k b)) → T (le (add binary64 (fin s m e) (fin t n d)) (add binary64 (fin s m e) (fin r k b)))
adds_more s m e t n d r k b h =
    let x = fin s m e in
    let y = fin t n d in
    let z = fin r k b in
    rounds_mono binary64 (mul-pos (down_pos e) (down_pos d)) (mul-pos (down_pos e) (down_pos b)) (finite_sum binary64 s m e t n d) (finite_sum binary64 s m e r k b)
    (widened (plus y) (less y) (den y) (plus z) (less z) (den z) (plus x) (less x) (den x) (parts_of_le t n d r k b h))
