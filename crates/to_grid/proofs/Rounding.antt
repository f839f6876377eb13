-- The whole number nearest to a fraction: it is rounded, and nothing else is; it depends on the fraction alone; and it is half of
-- what is left of twice as much. Assumes nothing.
use Prim.Native.Nat.{ℕ, ◌+◌, ◌*◌, ◌/◌, ◌≤◌, ◌<◌}
use native.Mathlib.Omega.{arith}
use native.Mathlib.Nat.{div-mul-le_self, lt-div-mul-add, div-eq_of_lt, add-div_right, le_antisymm, lt_of_mul-lt-mul_right}
use native.Mathlib.Nat.{div-div-eq-div-mul, mul-div-mul_left, mul-div-mul_right}
use mathlib.Core.Path.{◌≡◌, sym, ap, ◌∙◌}
use Rattle.to_grid.specs.Grid.{nearest_to, Rounded}

pub rounded : (a c : ℕ) → 0 < c → Rounded a c (nearest_to a c)
rounded a c some =
    let l = div-mul-le_self (2 * a + c) (2 * c) in
    let h = lt-div-mul-add {a = 2 * a + c} {b = 2 * c} (omega arith) in
    record { over = omega arith; under = omega arith }

-- no number that is rounded is above another
not_above : {a c g h : ℕ} → Rounded a c g → Rounded a c h → g ≤ h
not_above {a} {c} {g} {h} r s =
    let l : g * c < (h + 1) * c = omega (arith, r.over, s.under) in
    omega (arith, lt_of_mul-lt-mul_right c l)

pub rounded_only : {a c g h : ℕ} → Rounded a c g → Rounded a c h → g ≡ h
rounded_only r s = le_antisymm (not_above r s) (not_above s r)

-- of no more than a whole number
pub nearest_most : (a c k : ℕ) → 0 < c → a ≤ k * c → nearest_to a c ≤ k
nearest_most a c k some h =
    let r = rounded a c some in
    let l : nearest_to a c * c < (k + 1) * c = omega (arith, r.over) in
    omega (arith, lt_of_mul-lt-mul_right c l)

-- of less than a half
pub nearest_none : (a c : ℕ) → 2 * a < c → nearest_to a c ≡ 0
nearest_none a c h = div-eq_of_lt (omega arith)

-- of the same fraction
pub nearest_same : (a c k : ℕ) → 0 < k → nearest_to (a * k) (c * k) ≡ nearest_to a c
nearest_same a c k h =
    let e : 2 * (a * k) + c * k ≡ (2 * a + c) * k = omega arith in
    let f : 2 * (c * k) ≡ 2 * c * k = omega arith in
    rw (e, f) (mul-div-mul_right (2 * a + c) (2 * c) h)

-- from twice as much, cut
pub nearest_halves : (a c : ℕ) → 0 < c → (a / c + 1) / 2 ≡ nearest_to a (2 * c)
nearest_halves a c h =
    let e : 2 * a + 2 * c ≡ 2 * (a + c) = omega arith in
    let f : 2 * (2 * c) ≡ 2 * (c * 2) = omega arith in
    ap (λ z. z / 2) (sym (add-div_right a h)) ∙ div-div-eq-div-mul (a + c) c 2
    ∙ sym (rw (e, f) (mul-div-mul_left (a + c) (c * 2) (omega arith)))
