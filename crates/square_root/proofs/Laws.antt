-- The laws of the root: the root of a value that is finite and above zero is the nearest value, it is the only one, and a
-- larger value has no smaller root. Assumes nothing.
use mathlib.Core.Path.{◌≡◌, refl, sym, ap, ◌∙◌}
use mathlib.Core.Bool.{false}
use Prim.Native.Nat.{ℕ, ◌^◌, ◌<◌}
use lib.IntN.{pos}
use lib.Dec.{T}
use lib.Ieee.{Float, fin, binary64, fits, of_bits, to_bits, le}
use lib.Ieee.Exact.{HasValue}
use lib.Ieee.Positive.{positive}
use Rattle.square_root.specs.Root.{sqrt_of}
use Rattle.square_root.specs.Nearest.{val, Nearest, IsNearest, IsRoot}
use Rattle.square_root.proofs.Values.{val_pos}
use Rattle.square_root.proofs.Near.{near_unique}
use Rattle.square_root.proofs.Above.{bits_pos, value_is}
use Rattle.square_root.proofs.Order.{root_is, sqrt_mono}

-- ---- nearest

-- a value that is finite and above zero is a whole number n of units, and its root is the value nearest to n's root
pub root_nearest : (x r : Float) → T (fits binary64 x) → T (positive x) → IsRoot x r
    → (n : ℕ) × (0 < n) × HasValue x false n (2 ^ 1074) × Nearest n r
root_nearest x r F P R =
    let some = val_pos (bits_pos x F P) in
    (val (to_bits binary64 x), some, value_is x F P, R.nearest (val (to_bits binary64 x)) some (value_is x F P))

-- ---- unique

pub root_unique : (x r s : Float) → IsRoot x r → IsRoot x s → r ≡ s
root_unique x r s R S = R.is ∙ sym S.is

pub nearest_unique : (n : ℕ) (r s : Float) → Nearest n r → Nearest n s → r ≡ s
nearest_unique n r s A B = A.is ∙ ap (of_bits binary64) (near_unique A.near B.near) ∙ sym B.is

-- of a value that is finite and above zero, being nearest alone tells the root
pub is_nearest_unique : (x r s : Float) → T (fits binary64 x) → T (positive x) → IsNearest x r → IsNearest x s
    → r ≡ s
is_nearest_unique x r s F P R S =
    let n = val (to_bits binary64 x) in
    let some = val_pos (bits_pos x F P) in
    nearest_unique n r s (R n some (value_is x F P)) (S n some (value_is x F P))

pub is_nearest_root : (x r : Float) → T (fits binary64 x) → T (positive x) → IsNearest x r → IsRoot x r
is_nearest_root x r F P R =
    root_is x F r (is_nearest_unique x r (sqrt_of binary64 x) F P R (root_is x F (sqrt_of binary64 x) refl).nearest)

-- ---- monotone

-- the root of a larger value is no smaller: the zeros and the infinity are among the values
pub root_monotone : (x y r s : Float) → T (fits binary64 x) → T (fits binary64 y) → T (le (fin false 0 (pos 0)) x)
    → T (le x y) → IsRoot x r → IsRoot y s → T (le r s)
root_monotone x y r s F G z h R S = rw (R.is, S.is) (sqrt_mono x y F G z h)
