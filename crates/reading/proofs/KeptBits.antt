-- A coordinate's bits as a book keeps them: what holds of them, in the laws that the book's proofs use. Assumes nothing.
use Prim.Native.Nat.{ℕ, zero, suc, ◌*◌, ◌^◌, ◌≤◌, ◌<◌}
use native.Mathlib.Omega.{arith}
use native.Mathlib.Nat.{mul-pos, zero-lt-suc}
use mathlib.Core.Path.{◌≡◌, refl, sym, ap, subst, ◌∙◌}
use mathlib.Core.Bool.{Bool, true, false, not, ◌&&◌, ◌||◌, or-true, beq}
use lib.IntN.{ℤ}
use lib.Dec.{T, eqb}
use lib.Ieee.{Float, nan, inf, fin, binary64, eq, lt, up, down, is_nan, fits, of_bits, to_bits}
use lib.Ieee.Bits.{of_bits-to_bits, of_bits-fits, to_bits-lt}
use lib.Ieee.Fits.{up_pos, down_pos}
use borrow.Author.Tests.{eqb-true, eq-eqb, le-ltb, ltb-false}
use Rattle.laws.proofs.Both.{both}
use Rattle.scalar.specs.Float.{f0}
use Rattle.scalar.specs.Scalar.{ahead, minus_zero}
use Rattle.scalar.proofs.Zero.{zero_eq, some_eq}
use Rattle.reading.specs.Reading.{ord}
use Rattle.reading.specs.Lent.{kept}
use Rattle.reading.proofs.Order.{no_bool, ord_inj}
use Rattle.reading.proofs.Size.{by_size}

-- ---- a zero, or else its own bits

pub kept_zero : (x : Float) → eq x f0 ≡ true → kept x ≡ 0
unfolding kept
kept_zero x e = rw e

pub kept_own : (x : Float) → eq x f0 ≡ false → kept x ≡ to_bits binary64 x
unfolding kept
kept_own x e = rw e

plus_zero : eq f0 f0 ≡ true
unfolding eq of_bits
plus_zero = refl

-- what holds of +0.0 and of the number holds of what is kept of it
pub of_kept : (P : Float → Type 0) (x : Float) → T (fits binary64 x) → P f0 → P x → P (of_bits binary64 (kept x))
of_kept P x f z p = go (eq x f0) refl
  where
    go : (b : Bool) → eq x f0 ≡ b → P (of_bits binary64 (kept x))
    go true e = subst (λ (b : ℕ). P (of_bits binary64 b)) (sym (kept_zero x e)) z
    go false e = subst (λ (b : ℕ). P (of_bits binary64 b)) (sym (kept_own x e)) (subst P (sym (of_bits-to_bits binary64 x f)) p)

-- they are 8 bytes
pub kept_lt : (x : Float) → T (fits binary64 x) → kept x < 2 ^ 64
kept_lt x f = go (eq x f0) refl
  where
    go : (b : Bool) → eq x f0 ≡ b → kept x < 2 ^ 64
    go true e = omega (arith, kept_zero x e)
    go false e = omega (arith, kept_own x e, to_bits-lt binary64 x f)

-- what is kept is kept as it is
pub kept_again : (x : Float) → T (fits binary64 x) → kept (of_bits binary64 (kept x)) ≡ kept x
kept_again x f = go (eq x f0) refl
  where
    go : (b : Bool) → eq x f0 ≡ b → kept (of_bits binary64 (kept x)) ≡ kept x
    go true e = ap (λ (b : ℕ). kept (of_bits binary64 b)) (kept_zero x e) ∙ kept_zero f0 plus_zero ∙ sym (kept_zero x e)
    go false e = ap (λ (b : ℕ). kept (of_bits binary64 b)) (kept_own x e) ∙ ap kept (of_bits-to_bits binary64 x f)

-- a NaN is kept as one
pub kept_number : (x : Float) → T (fits binary64 x) → T (not (is_nan (of_bits binary64 (kept x)))) → T (not (is_nan x))
unfolding is_nan eq
kept_number nan f n = subst (λ (x : Float). T (not (is_nan x))) (ap (of_bits binary64) (kept_own nan refl) ∙ of_bits-to_bits binary64 nan f) n
kept_number (inf s) f n = tt
kept_number (fin s m e) f n = tt

-- ---- two numbers are kept alike exactly if they are equal

-- what is no NaN equals itself
same_eq : (x : Float) → T (not (is_nan x)) → eq x x ≡ true
unfolding eq is_nan
same_eq nan n = absurd n
same_eq (inf true) n = refl
same_eq (inf false) n = refl
same_eq (fin true m e) n = rw (eq-eqb (m * up e * down e) (m * up e * down e) refl)
same_eq (fin false m e) n = rw (eq-eqb (m * up e * down e) (m * up e * down e) refl)

-- and so are two zeros
zeros_eq : (x y : Float) → eq x f0 ≡ true → eq y f0 ≡ true → eq x y ≡ true
unfolding eq of_bits
zeros_eq nan y h k = no_bool h
zeros_eq (inf s) y h k = no_bool h
zeros_eq (fin s (suc m) e) y h k = no_bool (sym (some_eq s m e) ∙ h)
zeros_eq (fin s zero e) nan h k = no_bool k
zeros_eq (fin s zero e) (inf t) h k = no_bool k
zeros_eq (fin s zero e) (fin t (suc n) d) h k = no_bool (sym (some_eq t n d) ∙ k)
zeros_eq (fin s zero e) (fin t zero d) h k =
    rw (eq-eqb (0 * up e * down d) (0 * up d * down e) (omega arith), eq-eqb (0 * up e * down d) 0 (omega arith)) (or-true (beq s t))

-- what has the bits of +0.0 is a zero
no_zero : (y : Float) → T (fits binary64 y) → 0 ≡ to_bits binary64 y → eq y f0 ≡ false → ⊥
no_zero y f h k = no_bool (sym k ∙ subst (λ (z : Float). eq z f0 ≡ true) (ap (of_bits binary64) h ∙ of_bits-to_bits binary64 y f) plus_zero)

pub eq_kept : (x y : Float) → T (fits binary64 x) → T (fits binary64 y) → T (not (is_nan y)) → kept x ≡ kept y → eq x y ≡ true
eq_kept x y f g n h = go (eq x f0) refl (eq y f0) refl
  where
    go : (a : Bool) → eq x f0 ≡ a → (b : Bool) → eq y f0 ≡ b → eq x y ≡ true
    go true p true q = zeros_eq x y p q
    go true p false q = absurd (no_zero y g (sym (kept_zero x p) ∙ h ∙ kept_own y q) q)
    go false p true q = absurd (no_zero x f (sym (kept_zero y q) ∙ sym h ∙ kept_own x p) p)
    go false p false q =
        let e : x ≡ y = sym (of_bits-to_bits binary64 x f) ∙ ap (of_bits binary64) (sym (kept_own x p) ∙ h ∙ kept_own y q) ∙ of_bits-to_bits binary64 y g in
        subst (λ (z : Float). eq z y ≡ true) (sym e) (same_eq y n)

-- neither of two equal numbers that are not zeros is before the other
not_ahead : (s : Bool) (m n : ℕ) (e d : ℤ) → suc m * up e * down d ≡ suc n * up d * down e → ahead (fin s (suc m) e) (fin s (suc n) d) ≡ false
unfolding ahead lt minus_zero
not_ahead true m n e d h = rw (le-ltb (suc n * up d * down e) (suc m * up e * down d) (omega arith))
not_ahead false m n e d h = rw (le-ltb (suc m * up e * down d) (suc n * up d * down e) (omega arith))

-- equal numbers that are not zeros have the same bits
same_bits : (s : Bool) (m n : ℕ) (e d : ℤ) → T (fits binary64 (fin s (suc m) e)) → T (fits binary64 (fin s (suc n) d)) → suc m * up e * down d ≡ suc n * up d * down e
    → to_bits binary64 (fin s (suc m) e) ≡ to_bits binary64 (fin s (suc n) d)
same_bits s m n e d f g h =
    let x = fin s (suc m) e in
    let y = fin s (suc n) d in
    let p : ord (to_bits binary64 y) ≤ ord (to_bits binary64 x) = ltb-false _ _ (by_size x y f g refl refl ∙ not_ahead s m n e d h) in
    let q : ord (to_bits binary64 x) ≤ ord (to_bits binary64 y) = ltb-false _ _ (by_size y x g f refl refl ∙ not_ahead s n m d e (sym h)) in
    ord_inj _ _ (omega arith)

-- and one sign
by_level : (s t : Bool) (A B : ℕ) → eqb A B && (beq s t || eqb A 0) ≡ true → 0 < A → s ≡ t
by_level true true A B h k = refl
by_level false false A B h k = refl
by_level true false A B h k = absurd (omega (arith, eqb-true A 0 (both (eqb A B) (eqb A 0) h).1))
by_level false true A B h k = absurd (omega (arith, eqb-true A 0 (both (eqb A B) (eqb A 0) h).1))

pub kept_eq : (x y : Float) → T (fits binary64 x) → T (fits binary64 y) → eq x y ≡ true → kept x ≡ kept y
unfolding eq
kept_eq nan y f g h = no_bool h
kept_eq (inf s) nan f g h = no_bool h
kept_eq (inf true) (inf true) f g h = refl
kept_eq (inf true) (inf false) f g h = no_bool h
kept_eq (inf false) (inf true) f g h = no_bool h
kept_eq (inf false) (inf false) f g h = refl
kept_eq (inf s) (fin t n d) f g h = no_bool h
kept_eq (fin s m e) nan f g h = no_bool h
kept_eq (fin s m e) (inf t) f g h = no_bool h
kept_eq (fin s zero e) (fin t zero d) f g h = kept_zero (fin s 0 e) (zero_eq s e) ∙ sym (kept_zero (fin t 0 d) (zero_eq t d))
kept_eq (fin s zero e) (fin t (suc n) d) f g h =
    let l = eqb-true (0 * up e * down d) (suc n * up d * down e) (both _ _ h).0 in
    absurd (omega (arith, mul-pos (mul-pos (zero-lt-suc n) (up_pos d)) (down_pos e)))
kept_eq (fin s (suc m) e) (fin t zero d) f g h =
    let l = eqb-true (suc m * up e * down d) (0 * up d * down e) (both _ _ h).0 in
    absurd (omega (arith, mul-pos (mul-pos (zero-lt-suc m) (up_pos e)) (down_pos d)))
kept_eq (fin s (suc m) e) (fin t (suc n) d) f g h =
    let l = eqb-true (suc m * up e * down d) (suc n * up d * down e) (both _ _ h).0 in
    let z = by_level s t (suc m * up e * down d) (suc n * up d * down e) h (mul-pos (mul-pos (zero-lt-suc m) (up_pos e)) (down_pos d)) in
    kept_own (fin s (suc m) e) (some_eq s m e)
    ∙ same_bits s m n e d f (subst (λ (b : Bool). T (fits binary64 (fin b (suc n) d))) (sym z) g) l
    ∙ ap (λ (b : Bool). to_bits binary64 (fin b (suc n) d)) z
    ∙ sym (kept_own (fin t (suc n) d) (some_eq t n d))

-- no number is changed by being kept
pub kept_equal : (x : Float) → T (fits binary64 x) → T (not (is_nan x)) → eq (of_bits binary64 (kept x)) x ≡ true
kept_equal x f n = eq_kept (of_bits binary64 (kept x)) x (of_bits-fits binary64 (kept x)) f n (kept_again x f)
