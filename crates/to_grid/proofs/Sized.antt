-- A float's value in units of 2 ^ -1074, by its pattern; what is nearest to n times it, and whether that fits the grid. Assumes
-- nothing.
use Prim.Native.Nat.{ℕ, zero, suc, ◌+◌, ◌*◌, ◌-◌, ◌/◌, ◌%◌, ◌^◌, ◌≤◌, ◌<◌}
use native.Mathlib.Omega.{arith}
use native.Mathlib.Nat.{le_trans, lt_of_not-le, lt_irrefl, lt_of_lt_of_le, le_of_mul-le-mul_right, mul-le-mul_right}
use mathlib.Core.Path.{◌≡◌, refl, sym, ap, ap₂, subst, ◌∙◌}
use mathlib.Core.Logic.{inl, inr}
use mathlib.Core.Bool.{Bool, true, true≢false}
use lib.IntN.{ℤ, pos, neg_ℤ, ◌-ℤ◌, +ℤ_idl}
use lib.Signed.{mag}
use mir.Syntax.{w32}
use mir.Val.{SFits, to_z}
use mir.ValLaws.{to_z_pos}
use lib.Dec.{T, leb, lit≤}
use lib.Pow.{pow_pos}
use lib.Ieee.{Float, nan, inf, fin, binary64, up, down, fits, to_bits}
use lib.Ieee.Fits.{down_pos}
use lib.Ieee.Exact.{HasValue}
use borrow.Author.Tests.{leb-true, le-leb, lt-leb}
use Rattle.reading.proofs.Size as size
use Rattle.square_root.specs.Nearest.{val}
use Rattle.square_root.proofs.Numbers.{lt_or_le}
use Rattle.square_root.proofs.Values.{val_low, val_high, val_at, val_mono}
use Rattle.refusals.specs.Bounds.{coordinate}
use Rattle.to_grid.specs.Grid.{signed, nearest_to, nearest, OnGrid, fits_grid}
use Rattle.to_grid.proofs.Rounding.{rounded, nearest_most, nearest_same}

-- ---- by its pattern

same_val : (b : ℕ) → size.val b ≡ val b
unfolding size.val
same_val b = elim (lt_or_le b (2 ^ 52)) [ inl l ↦ low l | inr g ↦ high g ]
  where
    low : b < 2 ^ 52 → size.val_of (b / 2 ^ 52) (b % 2 ^ 52) ≡ val b
    low l =
        let q : b / 2 ^ 52 ≡ 0 = omega arith in
        let r : b % 2 ^ 52 ≡ b = omega arith in
        rw (q, r, val_low b l)

    high : 2 ^ 52 ≤ b → size.val_of (b / 2 ^ 52) (b % 2 ^ 52) ≡ val b
    high g =
        let q : b / 2 ^ 52 ≡ suc (b / 2 ^ 52 - 1) = omega arith in
        rw (val_high b g) (ap (λ k. size.val_of k (b % 2 ^ 52)) q ∙ ap (λ d. d * 2 ^ (b / 2 ^ 52 - 1)) (omega arith))

-- the sign, and the pattern without it
abbrev pub sign_of : Float → Bool
sign_of x = leb (2 ^ 63) (to_bits binary64 x)

abbrev pub size_of : Float → ℕ
size_of x = val (to_bits binary64 x % 2 ^ 63)

pub valued : (x : Float) → T (fits binary64 x) → size.finite x ≡ true → HasValue x (sign_of x) (size_of x) (2 ^ 1074)
valued x f h = rw (same_val (to_bits binary64 x % 2 ^ 63)) at (size.pattern x f h).value

-- ---- a value that is v / u

pub nearest_at : (n : ℕ) (x : Float) (s : Bool) (v u : ℕ) → 0 < u → HasValue x s v u → nearest n x ≡ signed s (nearest_to (n * v) u)
unfolding nearest
nearest_at n nan s v u o k = absurd k
nearest_at n (inf t) s v u o k = absurd k
nearest_at n (fin t m e) s v u o k =
    let f : n * (m * up e) * u ≡ n * v * down e = omega (arith, ap (λ z. n * z) k.1) in
    let g : down e * u ≡ u * down e = omega arith in
    let h : nearest_to (n * (m * up e)) (down e) ≡ nearest_to (n * v) u =
    sym (nearest_same (n * (m * up e)) (down e) u o) ∙ (rw (f, g) (nearest_same (n * v) u (down e) (down_pos e))) in
    ap₂ signed k.0 h

pub on_grid : {n : ℕ} {x : Float} {z : ℤ} → z ≡ nearest n x → OnGrid n x z
on_grid {n} {x} e =
    let u = pow_pos 1074 in
    record {
      is = e;
      nearby = rw e (λ s v k. (nearest_to (n * v) (2 ^ 1074), nearest_at n x s v (2 ^ 1074) u k, rounded (n * v) (2 ^ 1074) u));
    }

-- ---- what fits the grid

pub leb_same : (a b c d : ℕ) → (a ≤ b → c ≤ d) → (c ≤ d → a ≤ b) → leb a b ≡ leb c d
leb_same a b c d h k =
    elim (lt_or_le b a) [
      | inl l ↦ lt-leb a b l ∙ sym (lt-leb c d (lt_of_not-le (λ g. lt_irrefl b (lt_of_lt_of_le l (k g)))))
      | inr g ↦ le-leb a b g ∙ sym (le-leb c d (h g))
    ]

pub fits_at : (n : ℕ) (x : Float) (s : Bool) (v u : ℕ) → 0 < u → HasValue x s v u → fits_grid n x ≡ leb (n * v) (1000000 * u)
unfolding fits_grid
fits_at n nan s v u o k = absurd k
fits_at n (inf t) s v u o k = absurd k
fits_at n (fin t m e) s v u o k =
    let f : n * (m * up e) * u ≡ n * v * down e = omega (arith, ap (λ z. n * z) k.1) in
    leb_same (n * (m * up e)) (1000000 * down e) (n * v) (1000000 * u)
    (λ l. le_of_mul-le-mul_right {k = down e} (omega (arith, f, mul-le-mul_right u l)) (down_pos e))
    (λ l. le_of_mul-le-mul_right {k = u} (omega (arith, f, mul-le-mul_right (down e) l)) o)

pub fits_finite : (n : ℕ) (x : Float) → fits_grid n x ≡ true → size.finite x ≡ true
unfolding fits_grid
fits_finite n nan h = absurd (true≢false (sym h))
fits_finite n (inf s) h = absurd (true≢false (sym h))
fits_finite n (fin s m e) h = refl

pub fits_coordinate : (n : ℕ) (x : Float) → 1 ≤ n → fits_grid n x ≡ true → coordinate x ≡ true
unfolding fits_grid coordinate
fits_coordinate n nan o h = absurd (true≢false (sym h))
fits_coordinate n (inf s) o h = absurd (true≢false (sym h))
fits_coordinate n (fin s m e) o h =
    le-leb (m * up e) (1000000 * down e) (omega (arith, leb-true (n * (m * up e)) (1000000 * down e) h, mul-le-mul_right (m * up e) o))

module _ (n : ℕ) (x : Float) (F : T (fits binary64 x)) (h : fits_grid n x ≡ true) where
  pub value : HasValue x (sign_of x) (size_of x) (2 ^ 1074)
  value = valued x F (fits_finite n x h)

  -- with the sign clear, and with the sign set
  pub plus : {r : ℕ} → to_bits binary64 x < 2 ^ 63 → r ≡ nearest_to (n * size_of x) (2 ^ 1074) → pos r ≡ nearest n x
  plus l e =
      ap pos e ∙ ap (λ s. signed s (nearest_to (n * size_of x) (2 ^ 1074))) (sym (lt-leb (2 ^ 63) (to_bits binary64 x) l))
      ∙ sym (nearest_at n x (sign_of x) (size_of x) (2 ^ 1074) (pow_pos 1074) value)

  pub minus : {r : ℕ} → 2 ^ 63 ≤ to_bits binary64 x → r ≡ nearest_to (n * size_of x) (2 ^ 1074) → neg_ℤ (pos r) ≡ nearest n x
  minus g e =
      ap (λ k. neg_ℤ (pos k)) e ∙ ap (λ s. signed s (nearest_to (n * size_of x) (2 ^ 1074))) (sym (le-leb (2 ^ 63) (to_bits binary64 x) g))
      ∙ sym (nearest_at n x (sign_of x) (size_of x) (2 ^ 1074) (pow_pos 1074) value)

  pub within : n * size_of x ≤ 1000000 * 2 ^ 1074
  within = leb-true _ _ (sym (fits_at n x _ _ (2 ^ 1074) (pow_pos 1074) value) ∙ h)

  pub nearest_small : nearest_to (n * size_of x) (2 ^ 1074) ≤ 1000000
  nearest_small = nearest_most (n * size_of x) (2 ^ 1074) 1000000 (pow_pos 1074) within

  pub pattern_small : 1 ≤ n → to_bits binary64 x % 2 ^ 63 < 1043 * 2 ^ 52
  pattern_small o =
      lt_of_not-le
      (λ (g : 1043 * 2 ^ 52 ≤ to_bits binary64 x % 2 ^ 63).
      let l : 2 ^ 52 * 2 ^ 1042 ≤ size_of x =
      rw (val_at 1042 (2 ^ 52) (omega arith) (omega arith)) at
      (val_mono {b = 1042 * 2 ^ 52 + 2 ^ 52} {c = to_bits binary64 x % 2 ^ 63} g) in
      let r : 1000000 * 2 ^ 1074 < 2 ^ 52 * 2 ^ 1042 = lit≤ tt in
      let k : 1 * size_of x ≤ n * size_of x = mul-le-mul_right (size_of x) o in
      let i : 1 * size_of x ≡ size_of x = omega arith in
      lt_irrefl (1000000 * 2 ^ 1074) (lt_of_lt_of_le r (le_trans l (le_trans (rw i at k) within))))

-- ---- what the machine makes of a small number, taken from zero

pub taken_off : (r : ℕ) → r ≤ 1000000 → pos 0 -ℤ to_z w32 r ≡ neg_ℤ (pos r)
taken_off r h = ap (λ z. pos 0 -ℤ z) (to_z_pos w32 r (omega arith)) ∙ +ℤ_idl (neg_ℤ (pos r))

small : (r : ℕ) → r ≤ 1000000 → mag (neg_ℤ (pos r)) < 2 ^ 31
small zero h = omega arith
small (suc r) h = omega arith

pub off_fits : (r : ℕ) → r ≤ 1000000 → SFits w32 (pos 0 -ℤ to_z w32 r)
off_fits r h = subst (SFits w32) (sym (taken_off r h)) (record { sfits = small r h })
