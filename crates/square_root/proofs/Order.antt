-- The root of a value that is finite and above zero is nearest, and the root of a larger value is no smaller, for every
-- value that is not negative. Assumes nothing.
use mathlib.Core.Path.{◌≡◌, sym, ap, ◌∙◌}
use mathlib.Core.Logic.{inl, inr}
use mathlib.Core.Bool.{Bool, false}
use Prim.Native.Nat.{ℕ, ◌*◌, ◌^◌, ◌≤◌, ◌<◌}
use native.Mathlib.Nat.{mul-le-mul_right, le_of_mul-le-mul_right, eq_of_mul-eq-mul_right}
use lib.IntN.{ℤ, pos}
use lib.Dec.{T}
use lib.Pow.{pow_pos}
use lib.Ieee.{Float, inf, fin, binary64, fits, of_bits, to_bits, le}
use lib.Ieee.Bits.{of_bits-to_bits}
use lib.Ieee.Exact.{HasValue}
use lib.Ieee.Order.{le_of_values}
use lib.Ieee.Positive.{positive, above_of_le, den, den_pos, value→cross, values_of_le, positive_of_value}
use Rattle.laws.proofs.Order.{lt_infinity, le_of_infinity, le_of_lt}
use Rattle.square_root.specs.Root.{rooted, sqrt_of}
use Rattle.square_root.specs.Nearest.{val, Nearest, IsRoot}
use Rattle.square_root.proofs.Values.{val_mono}
use Rattle.square_root.proofs.Near.{near_mono}
use Rattle.square_root.proofs.Patterns.{read, positive_at, sqrt_at}
use Rattle.square_root.proofs.Join.{root_of}
use Rattle.square_root.proofs.Normal.{radicand}
use Rattle.square_root.proofs.Compare.{Kind, a_zero, a_number, infinite, kind, number_or_infinite, zero_lt}
use Rattle.square_root.proofs.Compare.{sqrt_zero, sqrt_infinity}
use Rattle.square_root.proofs.Above.{bits_pos, bits_lt, value_is}

-- ---- nearest values

pub nearest_value : {n : ℕ} {r : Float} (N : Nearest n r) → HasValue r false (val N.bits) (2 ^ 1074)
nearest_value N = rw N.is (read N.bits N.finite)

pub nearest_bits : {n n' : ℕ} {r s : Float} → n ≤ n' → (A : Nearest n r) (B : Nearest n' s) → A.bits ≤ B.bits
nearest_bits h A B = near_mono (mul-le-mul_right (2 ^ 1074) h) A.near B.near

nearest_mono : {n n' : ℕ} {r s : Float} → n ≤ n' → Nearest n r → Nearest n' s → T (le r s)
nearest_mono {r = r} {s = s} h A B =
    le_of_values r s (val A.bits) (2 ^ 1074) (val B.bits) (2 ^ 1074) (pow_pos 1074) (pow_pos 1074)
    (nearest_value A)
    (nearest_value B)
    (mul-le-mul_right (2 ^ 1074) (val_mono (nearest_bits h A B)))

-- ---- the root by a bit pattern, and of a value

pub root_at : (b : ℕ) → 0 < b → b < 2047 * 2 ^ 52 → Nearest (val b) (sqrt_of binary64 (of_bits binary64 b))
root_at b lo hi =
    let r = radicand b lo hi in
    let p = root_of r.0 r.1 r.2 in
    record {
      bits = p.0;
      some = p.1.some;
      finite = p.1.finite;
      is = sqrt_at b lo hi ∙ sym (p.1.is ∙ ap (rooted binary64) r.3);
      near = rw r.3 at p.1.near;
    }

module _ (x : Float) (F : T (fits binary64 x)) (P : T (positive x)) where
  nearest_own : Nearest (val (to_bits binary64 x)) (sqrt_of binary64 x)
  nearest_own = rw (of_bits-to_bits binary64 x F) at (root_at (to_bits binary64 x) (bits_pos x F P) (bits_lt x F P))

  sqrt_nearest : (n : ℕ) → HasValue x false n (2 ^ 1074) → Nearest n (sqrt_of binary64 x)
  sqrt_nearest n h =
      let b = to_bits binary64 x in
      let cross = sym (value→cross x (val b) (2 ^ 1074) (value_is x F P)) ∙ value→cross x n (2 ^ 1074) h in
      rw (eq_of_mul-eq-mul_right (den x) (den_pos x) (val b) n cross) at nearest_own

  sqrt_positive : T (positive (sqrt_of binary64 x))
  sqrt_positive = let N = nearest_own in rw N.is (positive_at N.bits N.some N.finite)

-- what `sqrt` ensures, from its first part
pub root_is : (x : Float) → T (fits binary64 x) → (r : Float) → r ≡ sqrt_of binary64 x → IsRoot x r
root_is x F r e =
    record {
      is = e;
      nearest = λ n N h. rw e (sqrt_nearest x F (positive_of_value x n (2 ^ 1074) h N) n h);
    }

-- ---- the order

number_mono : (x y : Float) → T (fits binary64 x) → T (fits binary64 y) → T (positive x) → T (positive y) → T (le x y)
    → T (le (sqrt_of binary64 x) (sqrt_of binary64 y))
number_mono x y F G P Q h =
    let a = val (to_bits binary64 x) in
    let b = val (to_bits binary64 y) in
    let l = values_of_le x y a (2 ^ 1074) b (2 ^ 1074) P Q (value_is x F P) (value_is y G Q) h in
    nearest_mono (le_of_mul-le-mul_right l (pow_pos 1074)) (nearest_own x F P) (nearest_own y G Q)

from_zero : (s : Bool) (e : ℤ) (y : Float) → Kind y → T (fits binary64 y) → T (le (fin s 0 e) y)
    → T (le (sqrt_of binary64 (fin s 0 e)) (sqrt_of binary64 y))
from_zero s e y (a_zero t d) G h = rw (sqrt_zero s e, sqrt_zero t d) h
from_zero s e y (a_number Q) G h =
    rw sqrt_zero (le_of_lt (fin s 0 e) (sqrt_of binary64 y) (zero_lt s e (sqrt_of binary64 y) (sqrt_positive y G Q)))
from_zero s e y infinite G h = rw (sqrt_zero s e, sqrt_infinity) h

from_number : (x y : Float) → T (positive x) → T (fits binary64 x) → T (fits binary64 y) → T (le x y)
    → T (le (sqrt_of binary64 x) (sqrt_of binary64 y))
from_number x y P F G h =
    let r = sqrt_of binary64 x in
    elim (number_or_infinite y (above_of_le x y P h)) [
      | inl Q ↦ number_mono x y F G P Q h
      | inr e ↦ rw (e, sqrt_infinity) (le_of_lt r (inf false) (lt_infinity r (sqrt_positive x F P)))
    ]

from_kind : (x y : Float) → Kind x → T (fits binary64 x) → T (fits binary64 y) → T (le x y)
    → T (le (sqrt_of binary64 x) (sqrt_of binary64 y))
from_kind x y (a_zero s e) F G h = from_zero s e y (kind s e y h) G h
from_kind x y (a_number P) F G h = from_number x y P F G h
from_kind x y infinite F G h = rw (le_of_infinity y h, sqrt_infinity) (unfold le in tt)

pub sqrt_mono : (x y : Float) → T (fits binary64 x) → T (fits binary64 y) → T (le (fin false 0 (pos 0)) x) → T (le x y)
    → T (le (sqrt_of binary64 x) (sqrt_of binary64 y))
sqrt_mono x y F G z h = from_kind x y (kind false (pos 0) x z) F G h
