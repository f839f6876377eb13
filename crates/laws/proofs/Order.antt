-- The order of floats, of every sign and at infinities: among the values that are no NaN it is total, and it goes through.
-- Assumes nothing.
use Prim.Native.Nat.{ℕ, ◌+◌, ◌*◌, ◌<◌}
use native.Mathlib.Omega.{arith}
use native.Mathlib.Nat.{mul-le-mul_right, le_of_mul-le-mul_right}
use mathlib.Core.Path.{◌≡◌, refl, sym, subst, ◌∙◌}
use mathlib.Core.Logic.{◌⊎◌, inl, inr}
use mathlib.Core.Bool.{Bool, true, false, ◌||◌, true≢false}
use borrow.Author.Tests.{ltb-true, ltb-false, eqb-true, eq-eqb}
use lib.IntN.{ℤ}
use lib.Dec.{T, eqb}
use lib.Ieee.{Float, nan, inf, fin, up, down, level, is_nan, lt, le, eq}
use lib.Ieee.Fits.{down_pos}
use lib.Ieee.Positive.{positive, den}
use Rattle.laws.proofs.Both.{both}
use Rattle.laws.proofs.Parts.{plus, less, NotAbove, parts_of_le, le_of_parts}

-- ---- of two values one is not above the other

above : (s : Bool) (m : ℕ) (e : ℤ) (t : Bool) (n : ℕ) (d : ℤ) →
    let x = fin s m e in
    let y = fin t n d in
    lt x y ≡ true → plus x * den y + less y * den x < plus y * den x + less x * den y
unfolding lt
above false m e false n d h = let l = ltb-true (m * up e * down d) (n * up d * down e) h in omega arith
above false m e true n d h = absurd (true≢false (sym h))
above true m e false n d h = let l = ltb-true 0 (m * up e * down d + n * up d * down e) h in omega arith
above true m e true n d h = let l = ltb-true (n * up d * down e) (m * up e * down d) h in omega arith

pub not_above : (s : Bool) (m : ℕ) (e : ℤ) (t : Bool) (n : ℕ) (d : ℤ) → lt (fin s m e) (fin t n d) ≡ false → T (le (fin t n d) (fin s m e))
unfolding lt
not_above false m e false n d h = le_of_parts false n d false m e (let l = ltb-false (m * up e * down d) (n * up d * down e) h in omega arith)
not_above false m e true n d h = le_of_parts true n d false m e (omega arith)
not_above true m e false n d h = le_of_parts false n d true m e (let l = ltb-false 0 (m * up e * down d + n * up d * down e) h in omega arith)
not_above true m e true n d h = le_of_parts true n d true m e (let l = ltb-false (n * up d * down e) (m * up e * down d) h in omega arith)

-- what is not less is not below, where both are numbers
pub total : (x y : Float) → lt x y ≡ false → (x ≡ nan) ⊎ ((y ≡ nan) ⊎ T (le y x))
unfolding lt le
total nan y h = inl refl
total (inf s) nan h = inr (inl refl)
total (fin s m e) nan h = inr (inl refl)
total (inf true) (inf true) h = inr (inr tt)
total (inf true) (inf false) h = absurd (true≢false h)
total (inf false) (inf true) h = inr (inr tt)
total (inf false) (inf false) h = inr (inr tt)
total (inf true) (fin t n d) h = absurd (true≢false h)
total (inf false) (fin t n d) h = inr (inr tt)
total (fin s m e) (inf true) h = inr (inr tt)
total (fin s m e) (inf false) h = absurd (true≢false h)
total (fin s m e) (fin t n d) h = inr (inr (not_above s m e t n d h))

-- and not the other way round
pub clash : (x y : Float) → lt x y ≡ true → T (le y x) → ⊥
unfolding lt le
clash nan y h k = true≢false (sym h)
clash (inf s) nan h k = true≢false (sym h)
clash (fin s m e) nan h k = true≢false (sym h)
clash (inf true) (inf true) h k = true≢false (sym h)
clash (inf true) (inf false) h k = k
clash (inf false) (inf t) h k = true≢false (sym h)
clash (inf true) (fin t n d) h k = k
clash (inf false) (fin t n d) h k = true≢false (sym h)
clash (fin s m e) (inf true) h k = true≢false (sym h)
clash (fin s m e) (inf false) h k = k
clash (fin s m e) (fin t n d) h k = let a = above s m e t n d h in let b = parts_of_le t n d s m e k in omega arith

-- ---- three values

through : (p n c q o d r k b : ℕ) → 0 < d → NotAbove p n c q o d → NotAbove q o d r k b → NotAbove p n c r k b
through p n c q o d r k b D h g = let x = mul-le-mul_right b h in let y = mul-le-mul_right c g in le_of_mul-le-mul_right {k = d} (omega arith) D

pub no_nan : (x : Float) → T (le x nan) → ⊥
unfolding le
no_nan nan k = k
no_nan (inf s) k = k
no_nan (fin s m e) k = k

pub nan_above : (y : Float) → T (le nan y) → ⊥
unfolding le
nan_above y k = k

pub lt_nan : (y : Float) → lt y nan ≡ false
unfolding lt
lt_nan nan = refl
lt_nan (inf s) = refl
lt_nan (fin s m e) = refl

pub le_trans : (x y z : Float) → T (le x y) → T (le y z) → T (le x z)
unfolding le
le_trans nan y z h k = absurd h
le_trans (inf true) y nan h k = absurd (no_nan y k)
le_trans (inf true) y (inf true) h k = tt
le_trans (inf true) y (inf false) h k = tt
le_trans (inf true) y (fin t n d) h k = tt
le_trans (inf false) nan z h k = absurd h
le_trans (inf false) (inf true) z h k = absurd h
le_trans (inf false) (inf false) z h k = k
le_trans (inf false) (fin t n d) z h k = absurd h
le_trans (fin s m e) nan z h k = absurd h
le_trans (fin s m e) (inf true) z h k = absurd h
le_trans (fin s m e) (inf false) nan h k = absurd k
le_trans (fin s m e) (inf false) (inf true) h k = absurd k
le_trans (fin s m e) (inf false) (inf false) h k = tt
le_trans (fin s m e) (inf false) (fin t n d) h k = absurd k
le_trans (fin s m e) (fin t n d) nan h k = absurd k
le_trans (fin s m e) (fin t n d) (inf true) h k = absurd k
le_trans (fin s m e) (fin t n d) (inf false) h k = tt
le_trans (fin s m e) (fin t n d) (fin r l b) h k =
    let x = fin s m e in
    let y = fin t n d in
    let z = fin r l b in
    le_of_parts s m e r l b
    (through (plus x) (less x) (den x) (plus y) (less y) (den y) (plus z) (less z) (den z) (down_pos d) (parts_of_le s m e t n d h) (parts_of_le t n d r l b k))

-- a comparison with a value that is not below the larger, and with one that is not above the smaller
pub lt_le : (x y z : Float) → lt x y ≡ true → T (le y z) → lt x z ≡ true
lt_le x y z h k = by (lt x z) refl
  where
    by : (b : Bool) → lt x z ≡ b → b ≡ true
    by true e = refl
    by false e =
        elim (total x z e) [
          | inl n ↦ absurd (true≢false (sym h ∙ rw n (unfold lt in refl)))
          | inr g ↦ elim g [
            | inl n ↦ absurd (no_nan y (rw n at k))
            | inr l ↦ absurd (clash x y h (le_trans y z x k l))
          ]
        ]

pub le_lt : (x y z : Float) → T (le x y) → lt y z ≡ true → lt x z ≡ true
le_lt x y z k h = by (lt x z) refl
  where
    by : (b : Bool) → lt x z ≡ b → b ≡ true
    by true e = refl
    by false e =
        elim (total x z e) [
          | inl n ↦ absurd (nan_above y (rw n at k))
          | inr g ↦ elim g [
            | inl n ↦ absurd (true≢false (sym h ∙ rw n (lt_nan y)))
            | inr l ↦ absurd (clash y z h (le_trans z x y l k))
          ]
        ]

-- what is not below a value is not less
pub not_less : (x y : Float) → T (le x y) → lt y x ≡ false
not_less x y h = by (lt y x) refl
  where
    by : (b : Bool) → lt y x ≡ b → b ≡ false
    by true e = absurd (clash y x e h)
    by false e = refl

-- ---- what is less

pub le_of_lt : (x y : Float) → lt x y ≡ true → T (le x y)
unfolding le
le_of_lt x y h = rw h tt

pub lt_asym : (x y : Float) → lt x y ≡ true → lt y x ≡ false
lt_asym x y h = not_less x y (le_of_lt x y h)

pub lt_irrefl : (x : Float) → lt x x ≡ false
lt_irrefl x = by (lt x x) refl
  where
    by : (b : Bool) → lt x x ≡ b → b ≡ false
    by true e = absurd (clash x x e (le_of_lt x x e))
    by false e = refl

is_nan_lem : is_nan nan ≡ true
unfolding is_nan
is_nan_lem = refl

-- x < y and not z < y give x < z
pub lt_weave : (x y z : Float) → is_nan z ≡ false → lt x y ≡ true → lt z y ≡ false → lt x z ≡ true
lt_weave x y z n h k =
    elim (total z y k) [
      | inl e ↦ absurd (true≢false (sym is_nan_lem ∙ rw e at n))
      | inr g ↦ elim g [ inl e ↦ absurd (true≢false (sym h ∙ rw e (lt_nan x))) | inr l ↦ lt_le x y z h l ]
    ]

-- ---- what is equal

pub le_of_eq : (x y : Float) → eq x y ≡ true → T (le x y)
unfolding le
le_of_eq x y h = by (lt x y)
  where
    by : (b : Bool) → T (b || eq x y)
    by true = tt
    by false = rw h tt

level_turned : (s t : Bool) (a : ℕ) → level s a t a ≡ true → level t a s a ≡ true
level_turned true true a h = h
level_turned true false a h = h
level_turned false true a h = h
level_turned false false a h = h

level_back : (s t : Bool) (a b : ℕ) → level s a t b ≡ true → level t b s a ≡ true
level_back s t a b h =
    let e : a ≡ b = eqb-true a b (both (eqb a b) _ h).0 in
    subst (λ (x : ℕ). level t x s a ≡ true) e (level_turned s t a (subst (λ (x : ℕ). level s a t x ≡ true) (sym e) h))

pub eq_back : (x y : Float) → eq x y ≡ true → eq y x ≡ true
unfolding eq
eq_back nan y h = absurd (true≢false (sym h))
eq_back (inf s) nan h = absurd (true≢false (sym h))
eq_back (inf true) (inf true) h = refl
eq_back (inf true) (inf false) h = absurd (true≢false (sym h))
eq_back (inf false) (inf true) h = absurd (true≢false (sym h))
eq_back (inf false) (inf false) h = refl
eq_back (inf s) (fin t n d) h = absurd (true≢false (sym h))
eq_back (fin s m e) nan h = absurd (true≢false (sym h))
eq_back (fin s m e) (inf t) h = absurd (true≢false (sym h))
eq_back (fin s m e) (fin t n d) h = level_back s t (m * up e * down d) (n * up d * down e) h

pub eq_self : (x : Float) → is_nan x ≡ false → eq x x ≡ true
unfolding eq is_nan
eq_self nan h = absurd (true≢false h)
eq_self (inf true) h = refl
eq_self (inf false) h = refl
eq_self (fin true m e) h = rw (eq-eqb (m * up e * down e) _ refl)
eq_self (fin false m e) h = rw (eq-eqb (m * up e * down e) _ refl)

-- ---- the infinity

pub lt_of_infinity : (y : Float) → lt (inf false) y ≡ false
unfolding lt
lt_of_infinity nan = refl
lt_of_infinity (inf s) = refl
lt_of_infinity (fin s m e) = refl

pub le_of_infinity : (y : Float) → T (le (inf false) y) → y ≡ inf false
unfolding le
le_of_infinity nan h = absurd h
le_of_infinity (inf true) h = absurd h
le_of_infinity (inf false) h = refl
le_of_infinity (fin s m e) h = absurd h

pub lt_infinity : (x : Float) → T (positive x) → lt x (inf false) ≡ true
unfolding lt
lt_infinity nan p = absurd p
lt_infinity (inf s) p = absurd p
lt_infinity (fin s m e) p = refl
