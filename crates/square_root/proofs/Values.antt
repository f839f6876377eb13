-- `val`, the value of a bit pattern in units: by binades, and in the order of the patterns. Assumes nothing.
use mathlib.Core.Path.{◌≡◌, ap, ◌∙◌}
use mathlib.Core.Logic.{inl, inr}
use Prim.Native.Nat.{ℕ, suc, ◌+◌, ◌-◌, ◌*◌, ◌/◌, ◌%◌, ◌^◌, ◌≤◌, ◌<◌}
use native.Mathlib.Omega.{arith}
use native.Mathlib.Numerals.{add-one}
use native.Mathlib.Decide.{le_ind}
use native.Mathlib.Nat.{le_refl, le_trans, le_of_lt, eq-or-lt_of_le, not-le_of_lt, lt_of_lt_of_le}
use native.Mathlib.Nat.{mul-lt-mul_of_pos_right, pow-succ'}
use lib.Pow.{pow_pos}
use borrow.Author.Tests.{lt-ltb, le-ltb}
use Rattle.square_root.specs.Nearest.{val}
use Rattle.square_root.proofs.Numbers.{lt_or_le}

pub val_low : (b : ℕ) → b < 2 ^ 52 → val b ≡ b
unfolding val
val_low b h = rw (lt-ltb b (2 ^ 52) h)

pub val_high : (b : ℕ) → 2 ^ 52 ≤ b → val b ≡ (b % 2 ^ 52 + 2 ^ 52) * 2 ^ (b / 2 ^ 52 - 1)
unfolding val
val_high b h = rw (le-ltb b (2 ^ 52) h)

in_binade : (k q : ℕ) → 2 ^ 52 ≤ q → q < 2 ^ 53 → val (k * 2 ^ 52 + q) ≡ q * 2 ^ k
in_binade k q lo hi =
    let b = k * 2 ^ 52 + q in
    let d : b % 2 ^ 52 + 2 ^ 52 ≡ q = omega arith in
    let e : b / 2 ^ 52 - 1 ≡ k = omega arith in
    val_high b (omega arith) ∙ ap (λ (x : ℕ). x * 2 ^ (b / 2 ^ 52 - 1)) d ∙ ap (λ (x : ℕ). q * 2 ^ x) e

-- q may be the first number with a digit more
pub val_at : (k q : ℕ) → 2 ^ 52 ≤ q → q ≤ 2 ^ 53 → val (k * 2 ^ 52 + q) ≡ q * 2 ^ k
val_at k q lo hi = elim (eq-or-lt_of_le hi) [ inl e ↦ over e | inr l ↦ in_binade k q lo l ]
  where
    over : q ≡ 2 ^ 53 → val (k * 2 ^ 52 + q) ≡ q * 2 ^ k
    over e =
        let c : k * 2 ^ 52 + q ≡ suc k * 2 ^ 52 + 2 ^ 52 = omega arith in
        ap val c ∙ in_binade (suc k) (2 ^ 52) (le_refl (2 ^ 52)) (omega arith) ∙ rw (e, pow-succ' 2 k) (omega arith)

-- the first two binades
val_small : (b : ℕ) → b ≤ 2 ^ 53 → val b ≡ b
val_small b h = elim (lt_or_le b (2 ^ 52)) [ inl l ↦ val_low b l | inr g ↦ second g ]
  where
    second : 2 ^ 52 ≤ b → val b ≡ b
    second g =
        let e : b ≡ 0 * 2 ^ 52 + b = omega arith in
        ap val e ∙ val_at 0 b g h ∙ omega arith

step_high : (k q : ℕ) → 2 ^ 52 ≤ q → q < 2 ^ 53 → val (k * 2 ^ 52 + q) < val (k * 2 ^ 52 + (q + 1))
step_high k q lo hi =
    rw (val_at k q lo (omega arith), val_at k (q + 1) (omega arith) (omega arith))
    (mul-lt-mul_of_pos_right (omega arith) (pow_pos k))

pub val_step : (b : ℕ) → val b < val (b + 1)
val_step b = elim (lt_or_le b (2 ^ 53)) [ inl l ↦ low l | inr g ↦ high g ]
  where
    low : b < 2 ^ 53 → val b < val (b + 1)
    low l = rw (val_small b (omega arith), val_small (b + 1) (omega arith)) (omega arith)

    high : 2 ^ 53 ≤ b → val b < val (b + 1)
    high g =
        let k = b / 2 ^ 52 - 1 in
        let q = b % 2 ^ 52 + 2 ^ 52 in
        let e : k * 2 ^ 52 + q ≡ b = omega arith in
        let f : k * 2 ^ 52 + (q + 1) ≡ b + 1 = omega arith in
        rw (e, f) at (step_high k q (omega arith) (omega arith))

pub val_mono : {b c : ℕ} → b ≤ c → val b ≤ val c
val_mono {b} {c} h = le_ind (λ (x : ℕ). val b ≤ val x) (le_refl (val b)) (λ x k e. next x e) c h
  where
    next : (x : ℕ) → val b ≤ val x → val b ≤ val (suc x)
    next x e = rw (← add-one) (le_trans e (le_of_lt (val_step x)))

pub val_lt : {b c : ℕ} → b < c → val b < val c
val_lt {b} {c} h = lt_of_lt_of_le (val_step b) (val_mono (omega arith))

pub val_le_back : {b c : ℕ} → val b ≤ val c → b ≤ c
val_le_back {b} {c} h = elim (lt_or_le c b) [ inl l ↦ absurd (not-le_of_lt (val_lt l) h) | inr g ↦ g ]

pub val_pos : {b : ℕ} → 0 < b → 0 < val b
val_pos {b} h = lt_of_lt_of_le (rw (val_low 1 (omega arith)) (omega arith)) (val_mono h)
