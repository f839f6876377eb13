-- Whole numbers: which of two is smaller, powers of 4, and squares in their order. Assumes nothing.
use mathlib.Core.Path.{◌≡◌, refl, sym, ap, ◌∙◌}
use mathlib.Core.Logic.{◌⊎◌, inl, inr}
use mathlib.Core.Bool.{Bool, true, false, not}
use Prim.Native.Nat.{ℕ, zero, suc, ◌*◌, ◌^◌, ◌≤◌, ◌<◌, zero-le}
use native.Mathlib.Omega.{arith}
use native.Mathlib.Nat.{le_of_lt, lt_of_not-le, not-le_of_lt, lt_of_le_of_lt, mul-le-mul, mul-le-mul_left}
use native.Mathlib.Nat.{mul-lt-mul_of_pos_right, mul-mul-mul_comm, mul-pos, pow-succ'}
use lib.Dec.{T, ltb, ltb→lt, nltb→le}
use lib.Pow.{pow_pos}

pub lt_or_le : (a b : ℕ) → (a < b) ⊎ (b ≤ a)
lt_or_le a b = go (ltb a b) (ltb→lt a b) (nltb→le a b)
  where
    go : (t : Bool) → (T t → a < b) → (T (not t) → b ≤ a) → (a < b) ⊎ (b ≤ a)
    go true p q = inl (p tt)
    go false p q = inr (q tt)

pub four_pow : (k : ℕ) → 4 ^ k ≡ 2 ^ k * 2 ^ k
four_pow zero = refl
four_pow (suc k) = rw (pow-succ' 4 k, four_pow k, pow-succ' 2 k) (omega arith)

-- a square, each side of which is a * 2 ^ k
pub scaled : (a k : ℕ) → a * 2 ^ k * (a * 2 ^ k) ≡ a * a * 4 ^ k
scaled a k = sym (mul-mul-mul_comm a a (2 ^ k) (2 ^ k)) ∙ ap (λ (x : ℕ). a * a * x) (sym (four_pow k))

pub times_four : {a b : ℕ} (k : ℕ) → a < b → a * 4 ^ k < b * 4 ^ k
times_four k h = mul-lt-mul_of_pos_right h (rw four_pow (mul-pos (pow_pos k) (pow_pos k)))

-- squares are in the order of their sides
pub side_lt : {r s : ℕ} → r * r < s * s → r < s
side_lt {r} {s} h = lt_of_not-le (λ (g : s ≤ r). not-le_of_lt h (mul-le-mul g g))

pub square_lt : {r s : ℕ} → r < s → r * r < s * s
square_lt {r} {s} h =
    lt_of_le_of_lt (mul-le-mul_left r (le_of_lt h)) (mul-lt-mul_of_pos_right h (lt_of_le_of_lt zero-le h))
