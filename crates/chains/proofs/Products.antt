-- A product grows with one factor where the other is not below zero, and shrinks where it is not above, as it is rounded too. A product that may be a NaN is one. Assumes nothing.
use Prim.Native.Nat.{ℕ, zero, suc, ◌+◌, ◌*◌}
use native.Mathlib.Omega.{arith}
use native.Mathlib.Nat.{zero-lt-suc, mul-pos, mul-le-mul_right}
use mathlib.Core.Path.{◌≡◌, refl, sym, ap, subst}
use mathlib.Core.Logic.{inl, inr}
use mathlib.Core.Bool.{Bool, true, false, not, cond, true≢false}
use lib.IntN.{ℤ, pos}
use lib.Dec.{T, eqb}
use lib.Ieee.{Float, nan, inf, fin, binary64, unlike, up, down, round, neg, of_bits, mul, lt, le}
use lib.Ieee.Fits.{up_pos, down_pos}
use lib.Ieee.Positive.{den}
use Rattle.laws.proofs.Parts.{plus, less, NotAbove, parts_of_le}
use Rattle.laws.proofs.Order.{total, le_trans, nan_above, not_less, not_above}
use Rattle.laws.proofs.Rounding.{Rounds, upward, downward, rounds_mono}
use Rattle.scalar.specs.Float.{f0, ◌⊗◌}
use Rattle.frames.proofs.Beyond.{InOrder, lowest, highest, turned}

-- ---- products of finite values

finite_product : (s : Bool) (m : ℕ) (e : ℤ) (t : Bool) (n : ℕ) (d : ℤ) →
    let x = fin s m e in
    let y = fin t n d in
    Rounds binary64 (x ⊗ y) (plus x * plus y + less x * less y) (plus x * less y + less x * plus y) (den x * den y)
unfolding mul
finite_product false m e false n d =
    let u = m * up e * (n * up d) in
    upward (u + 0 * 0) (m * up e * 0 + 0 * (n * up d)) (down e * down d) u (omega arith)
finite_product false m e true n d =
    let u = m * up e * (n * up d) in
    downward (m * up e * 0 + 0 * (n * up d)) (u + 0 * 0) (down e * down d) u (omega arith)
finite_product true m e false n d =
    let u = m * up e * (n * up d) in
    downward (0 * (n * up d) + m * up e * 0) (0 * 0 + u) (down e * down d) u (omega arith)
finite_product true m e true n d =
    let u = m * up e * (n * up d) in
    upward (0 * 0 + u) (0 * (n * up d) + m * up e * 0) (down e * down d) u (omega arith)

scaled : (p n c q o d k b : ℕ) → NotAbove p n c q o d
    → NotAbove (p * k + n * 0) (p * 0 + n * k) (c * b) (q * k + o * 0) (q * 0 + o * k) (d * b)
scaled p n c q o d k b l = let z = mul-le-mul_right (k * b) l in omega arith

finite_scaled : (s : Bool) (m : ℕ) (e : ℤ) (t : Bool) (n : ℕ) (d : ℤ) (r : Bool) (k : ℕ) (b : ℤ) → less (fin r k b) ≡ 0
    → T (le (fin s m e) (fin t n d)) → T (le (fin s m e ⊗ fin r k b) (fin t n d ⊗ fin r k b))
finite_scaled s m e t n d r k b z h =
    let x = fin s m e in
    let y = fin t n d in
    let w = fin r k b in
    rounds_mono binary64 (mul-pos (down_pos e) (down_pos b)) (mul-pos (down_pos d) (down_pos b)) (finite_product s m e r k b) (finite_product t n d r k b)
    (subst (λ (l : ℕ). NotAbove (plus x * plus w + less x * l) (plus x * l + less x * plus w) (den x * den w) (plus y * plus w + less y * l) (plus y * l + less y * plus w) (den y * den w)) (sym z)
    (scaled (plus x) (less x) (den x) (plus y) (less y) (den y) (plus w) (den w) (parts_of_le s m e t n d h)))

-- ---- all values

times_nan : (x : Float) → x ⊗ nan ≡ nan
unfolding mul
times_nan nan = refl
times_nan (inf s) = refl
times_nan (fin s m e) = refl

nan_times : (z : Float) → nan ⊗ z ≡ nan
unfolding mul
nan_times z = refl

-- what is above zero is not below what is under it
no_minus : (m : ℕ) (e : ℤ) (n : ℕ) (d : ℤ) → T (le (fin false (suc m) e) (fin true n d)) → ⊥
no_minus m e n d h = let l = parts_of_le false (suc m) e true n d h in let p = mul-pos (mul-pos (zero-lt-suc m) (up_pos e)) (down_pos d) in omega arith

no_zero : (m : ℕ) (e : ℤ) → T (le (fin false 0 (pos 0)) (fin true (suc m) e)) → ⊥
no_zero m e h = let l = parts_of_le false 0 (pos 0) true (suc m) e h in let p = mul-pos (zero-lt-suc m) (up_pos e) in omega arith

-- an infinity, or a NaN
bottom : (b : Bool) (y : Float) → InOrder (cond b nan (inf true)) y
bottom true y = inl refl
bottom false y = lowest y

top : (x : Float) (b : Bool) → InOrder x (cond b nan (inf false))
top x true = inr (inl refl)
top x false = highest x

by_infinity : (x y : Float) → T (le x y) → InOrder (x ⊗ inf false) (y ⊗ inf false)
unfolding mul le
by_infinity nan y h = absurd h
by_infinity (inf true) y h = lowest (y ⊗ inf false)
by_infinity (inf false) nan h = absurd h
by_infinity (inf false) (inf true) h = absurd h
by_infinity (inf false) (inf false) h = highest (inf false)
by_infinity (inf false) (fin t n d) h = absurd h
by_infinity (fin s zero e) y h = inl refl
by_infinity (fin true (suc m) e) y h = bottom (eqb (suc m) 0) (y ⊗ inf false)
by_infinity (fin false (suc m) e) nan h = absurd h
by_infinity (fin false (suc m) e) (inf true) h = absurd h
by_infinity (fin false (suc m) e) (inf false) h = highest (fin false (suc m) e ⊗ inf false)
by_infinity (fin false (suc m) e) (fin true n d) h = absurd (no_minus m e n d h)
by_infinity (fin false (suc m) e) (fin false n d) h = top (fin false (suc m) e ⊗ inf false) (eqb n 0)

by_zero : (r : Bool) (b : ℤ) (x y : Float) → T (le x y) → InOrder (x ⊗ fin r 0 b) (y ⊗ fin r 0 b)
unfolding mul
by_zero r b nan y h = inl refl
by_zero r b (inf s) y h = inl refl
by_zero r b (fin s m e) nan h = inr (inl refl)
by_zero r b (fin s m e) (inf t) h = inr (inl refl)
by_zero true b (fin s m e) (fin t n d) h = inr (inr (finite_scaled s m e t n d true 0 b (omega arith) h))
by_zero false b (fin s m e) (fin t n d) h = inr (inr (finite_scaled s m e t n d false 0 b refl h))

by_number : (k : ℕ) (b : ℤ) (x y : Float) → T (le x y) → InOrder (x ⊗ fin false (suc k) b) (y ⊗ fin false (suc k) b)
unfolding mul le
by_number k b nan y h = absurd h
by_number k b (inf true) y h = bottom (eqb (suc k) 0) (y ⊗ fin false (suc k) b)
by_number k b (inf false) nan h = absurd h
by_number k b (inf false) (inf true) h = absurd h
by_number k b (inf false) (inf false) h = top (inf false ⊗ fin false (suc k) b) (eqb (suc k) 0)
by_number k b (inf false) (fin t n d) h = absurd h
by_number k b (fin s m e) nan h = absurd h
by_number k b (fin s m e) (inf true) h = absurd h
by_number k b (fin s m e) (inf false) h = top (fin s m e ⊗ fin false (suc k) b) (eqb (suc k) 0)
by_number k b (fin s m e) (fin t n d) h = inr (inr (finite_scaled s m e t n d false (suc k) b refl h))

-- a product with what is not below zero
grows : (x y z : Float) → lt z f0 ≡ false → T (le x y) → InOrder (x ⊗ z) (y ⊗ z)
unfolding lt of_bits
grows x y nan l h = inl (times_nan x)
grows x y (inf true) l h = absurd (true≢false l)
grows x y (inf false) l h = by_infinity x y h
grows x y (fin r zero b) l h = by_zero r b x y h
grows x y (fin true (suc k) b) l h = absurd (no_zero k b (not_above true (suc k) b false 0 (pos 0) l))
grows x y (fin false (suc k) b) l h = by_number k b x y h

-- ---- the other way

unlike_both : (s t : Bool) → unlike (not s) (not t) ≡ unlike s t
unlike_both true true = refl
unlike_both true false = refl
unlike_both false true = refl
unlike_both false false = refl

both_turned : (x z : Float) → neg x ⊗ neg z ≡ x ⊗ z
unfolding mul neg
both_turned nan z = refl
both_turned (inf s) nan = refl
both_turned (inf s) (inf t) = ap inf (unlike_both s t)
both_turned (inf s) (fin t n d) = ap (λ (b : Bool). cond (eqb n 0) nan (inf b)) (unlike_both s t)
both_turned (fin s m e) nan = refl
both_turned (fin s m e) (inf t) = ap (λ (b : Bool). cond (eqb m 0) nan (inf b)) (unlike_both s t)
both_turned (fin s m e) (fin t n d) = ap (λ (b : Bool). round binary64 b (m * up e * (n * up d)) (down e * down d)) (unlike_both s t)

zeros_level : T (le f0 (neg f0))
unfolding le neg of_bits
zeros_level = tt

sign_turned : (z : Float) → lt f0 z ≡ false → lt (neg z) f0 ≡ false
sign_turned z h =
    elim (total f0 z h) [
      | inl e ↦ absurd (nan_above (neg f0) (subst (λ (w : Float). T (le w (neg f0))) e zeros_level))
      | inr r ↦ elim r [ inl e ↦ rw e (unfold lt neg in refl) | inr l ↦ not_less f0 (neg z) (le_trans f0 (neg f0) (neg z) zeros_level (turned z f0 l)) ]
    ]

-- a product with what is not above zero
shrinks : (x y z : Float) → lt f0 z ≡ false → T (le x y) → InOrder (y ⊗ z) (x ⊗ z)
shrinks x y z l h =
    subst (λ (w : Float). InOrder w (x ⊗ z)) (both_turned y z)
    (subst (InOrder (neg y ⊗ neg z)) (both_turned x z) (grows (neg y) (neg x) (neg z) (sign_turned z l) (turned x y h)))

-- ---- what may be a NaN

pub rising : (x y z : Float) → lt z f0 ≡ false → InOrder x y → InOrder (x ⊗ z) (y ⊗ z)
rising x y z l o =
    elim o [
      | inl e ↦ inl (rw e (nan_times z))
      | inr r ↦ elim r [ inl e ↦ inr (inl (rw e (nan_times z))) | inr h ↦ grows x y z l h ]
    ]

pub falling : (x y z : Float) → lt f0 z ≡ false → InOrder x y → InOrder (y ⊗ z) (x ⊗ z)
falling x y z l o =
    elim o [
      | inl e ↦ inr (inl (rw e (nan_times z)))
      | inr r ↦ elim r [ inl e ↦ inl (rw e (nan_times z)) | inr h ↦ shrinks x y z l h ]
    ]
