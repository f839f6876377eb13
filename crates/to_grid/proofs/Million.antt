-- A million divided by n to 53 digits, as `most` works it out: the pattern of the largest float that times n is at most a million,
-- and that a float is compared with it. Assumes nothing.
use Prim.Native.Nat.{ℕ, suc, ◌+◌, ◌*◌, ◌-◌, ◌/◌, ◌%◌, ◌^◌, ◌≤◌, ◌<◌}
use native.Mathlib.Omega.{arith}
use native.Mathlib.Nat.{le_of_eq, le_trans, lt_of_not-le, not-le_of_lt, lt_of_le_of_lt, lt_of_lt_of_le, le_of_mul-le-mul_right}
use native.Mathlib.Nat.{mod-lt, mod-eq_of_lt, div-add-mod, div-le_self, mul-pos, mul_assoc, mul-le-mul_left, mul-le-mul_right}
use native.Mathlib.Nat.{lt_of_mul-lt-mul_right, mul-lt-mul_of_pos_right}
use mathlib.Core.Path.{◌≡◌, refl, sym, ap, subst, ◌∙◌}
use mathlib.Core.Logic.{inl, inr}
use mathlib.Core.Bool.{Bool, true, false, ◌&&◌, true≢false}
use lib.Count.{count_leading_zeros, leading_top}
use lib.Dec.{T, leb}
use lib.Pow.{pow-add, pow_mono, pow_pos}
use lib.Ieee.{Float, nan, inf, fin, binary64, up, down, fits, le, lt, eq, neg, of_bits, to_bits}
use lib.Ieee.Fits.{down_pos}
use lib.Ieee.Exact.{HasValue}
use borrow.Author.Tests.{le-leb, lt-leb}
use Rattle.square_root.specs.Nearest.{val}
use Rattle.square_root.proofs.Numbers.{lt_or_le}
use Rattle.square_root.proofs.Values.{val_at, val_mono, val_lt, val_pos}
use Rattle.square_root.proofs.Patterns.{read}
use Rattle.refusals.proofs.Coordinate.{bounded}
use Rattle.to_grid.specs.Grid.{fits_grid, Most}
use Rattle.to_grid.proofs.Sized.{leb_same, sign_of, size_of, valued, fits_at}

-- ---- the digits

-- a million times 2 ^ 32, divided
abbrev pub first_digits : ℕ → ℕ
first_digits n = 4294967296000000 / n

abbrev pub left_over : ℕ → ℕ
left_over n = 4294967296000000 % n

abbrev pub more_digits : ℕ → ℕ
more_digits n = count_leading_zeros 64 (first_digits n) - 11

-- in numbers: q and r are quotient and remainder of c by n, and p is 2 to the number of more digits
module _ (c n q r p : ℕ) (lo : 1 ≤ n) (is : n * q + r ≡ c) (under : r < n) where
  no_more : n * (q * p + r * p / n) ≤ c * p
  no_more = omega (arith, ap (λ z. z * p) is, div-add-mod (r * p) n)

  no_less : c * p < n * (q * p + r * p / n + 1)
  no_less = omega (arith, ap (λ z. z * p) is, div-add-mod (r * p) n, mod-lt (r * p) lo)

  few : 0 < p → r * p / n < p
  few o = lt_of_mul-lt-mul_right n (omega (arith, div-add-mod (r * p) n, mul-lt-mul_of_pos_right under o))

module _ (n : ℕ) (lo : 1 ≤ n) (hi : n ≤ 1000000) where
  is : n * first_digits n + left_over n ≡ 4294967296000000
  is = div-add-mod 4294967296000000 n

  under : left_over n < n
  under = mod-lt 4294967296000000 lo

  first_least : 2 ^ 32 ≤ first_digits n
  first_least =
      let more = lt_of_not-le (λ (g : suc (first_digits n) ≤ 4294967296). omega (arith, is, under, mul-le-mul_left n g)) in
      omega arith

  first_most : first_digits n < 2 ^ 52
  first_most = omega (arith, div-le_self 4294967296000000 n)

  -- the place of the highest digit
  top : (j : ℕ) × (count_leading_zeros 64 (first_digits n) + suc j ≡ 64) × (2 ^ j ≤ first_digits n) × (first_digits n < 2 ^ suc j)
  top = leading_top 64 (first_digits n) (omega (arith, first_least)) (omega (arith, first_most))

  place : (32 ≤ top.0) × (top.0 < 52)
  place =
      let t = top in
      let low = lt_of_not-le (λ (g : suc t.0 ≤ 32). not-le_of_lt (lt_of_lt_of_le t.3 (pow_mono g)) first_least) in
      (omega arith, lt_of_not-le (λ (g : 52 ≤ t.0). not-le_of_lt (lt_of_le_of_lt t.2 first_most) (pow_mono g)))

  pub zeros : (11 < count_leading_zeros 64 (first_digits n)) × (count_leading_zeros 64 (first_digits n) ≤ 31)
  zeros = omega (arith, place, top.1)

  at_place : top.0 + more_digits n ≡ 52
  at_place = omega (arith, place, top.1)

  -- the first digits moved up are 53, and what is left over stays small
  moved_least : 2 ^ 52 ≤ first_digits n * 2 ^ more_digits n
  moved_least = rw (← pow-add 2 top.0 (more_digits n), at_place) at (mul-le-mul_right (2 ^ more_digits n) top.2)

  moved_most : (first_digits n + 1) * 2 ^ more_digits n ≤ 2 ^ 53
  moved_most =
      let e : suc top.0 + more_digits n ≡ 53 = omega (arith, at_place) in
      let h : first_digits n + 1 ≤ 2 ^ suc top.0 = omega (arith, top.3) in
      rw (← pow-add 2 (suc top.0) (more_digits n), e) at (mul-le-mul_right (2 ^ more_digits n) h)

  left_small : left_over n * 2 ^ more_digits n < 2 ^ 64
  left_small =
      let l : left_over n + 1 ≤ first_digits n + 1 = omega (arith, under, first_least) in
      omega (arith, mul-le-mul_right (2 ^ more_digits n) l, moved_most, pow_pos (more_digits n))

  -- so no digit is lost at the top of a word
  pub first_moved : first_digits n * 2 ^ more_digits n % 2 ^ 64 ≡ first_digits n * 2 ^ more_digits n
  first_moved = mod-eq_of_lt (omega (arith, moved_most, pow_pos (more_digits n)))

  pub left_moved : left_over n * 2 ^ more_digits n % 2 ^ 64 ≡ left_over n * 2 ^ more_digits n
  left_moved = mod-eq_of_lt left_small

-- all 53 digits, and the pattern
abbrev pub digits_by : ℕ → ℕ
digits_by n = first_digits n * 2 ^ more_digits n + left_over n * 2 ^ more_digits n / n

abbrev pub pattern_by : ℕ → ℕ
pattern_by n = (1042 - more_digits n) * 4503599627370496 + digits_by n

module _ (n : ℕ) (lo : 1 ≤ n) (hi : n ≤ 1000000) where
  pub digits_most : digits_by n < 2 ^ 53
  digits_most =
      omega (
        arith,
        moved_most n lo hi,
        few 4294967296000000 n (first_digits n) (left_over n) (2 ^ more_digits n) lo (is n lo hi) (under n lo hi) (pow_pos (more_digits n)),
      )

  digits_least : 2 ^ 52 ≤ digits_by n
  digits_least = omega (arith, moved_least n lo hi)

  pub pattern_most : pattern_by n < 1043 * 2 ^ 52
  pattern_most = omega (arith, zeros n lo hi, digits_most)

  -- a million in units of 2 ^ -1074
  million_is : 4294967296000000 * 2 ^ more_digits n * 2 ^ (1042 - more_digits n) ≡ 1000000 * 2 ^ 1074
  million_is =
      let e : more_digits n + (1042 - more_digits n) ≡ 1042 = omega (arith, zeros n lo hi) in
      mul_assoc 4294967296000000 (2 ^ more_digits n) (2 ^ (1042 - more_digits n))
      ∙ ap (λ z. 4294967296000000 * z) (sym (pow-add 2 (more_digits n) (1042 - more_digits n)) ∙ ap (λ z. 2 ^ z) e)
      ∙ ap (λ z. 1000000 * z) (sym (pow-add 2 32 1042))

  -- the value of the pattern, and of the next
  value_is : val (pattern_by n) ≡ digits_by n * 2 ^ (1042 - more_digits n)
  value_is = val_at (1042 - more_digits n) (digits_by n) digits_least (omega (arith, digits_most))

  next_is : val (pattern_by n + 1) ≡ (digits_by n + 1) * 2 ^ (1042 - more_digits n)
  next_is =
      let e : pattern_by n + 1 ≡ (1042 - more_digits n) * 2 ^ 52 + (digits_by n + 1) = omega arith in
      ap val e ∙ val_at (1042 - more_digits n) (digits_by n + 1) (omega (arith, digits_least)) (omega (arith, digits_most))

  pub fits_by : n * val (pattern_by n) ≤ 1000000 * 2 ^ 1074
  fits_by =
      rw (value_is, ← million_is, ← mul_assoc)
      (mul-le-mul_right (2 ^ (1042 - more_digits n))
      (no_more 4294967296000000 n (first_digits n) (left_over n) (2 ^ more_digits n) lo (is n lo hi) (under n lo hi)))

  pub last_by : 1000000 * 2 ^ 1074 < n * val (pattern_by n + 1)
  last_by =
      let k = 2 ^ (1042 - more_digits n) in
      lt_of_le_of_lt (le_of_eq (sym million_is))
      (lt_of_lt_of_le
      (mul-lt-mul_of_pos_right
      (no_less 4294967296000000 n (first_digits n) (left_over n) (2 ^ more_digits n) lo (is n lo hi) (under n lo hi))
      (pow_pos (1042 - more_digits n)))
      (le_of_eq (mul_assoc n (digits_by n + 1) k ∙ ap (λ z. n * z) (sym next_is))))

  pub most_by : {t : Float} → t ≡ of_bits binary64 (pattern_by n) → Most n t
  most_by e =
      record { pattern = pattern_by n; is = e; some = omega (arith, digits_least); small = pattern_most; fits = fits_by; last = last_by }

-- ---- compared with it

-- of two patterns
between : {n : ℕ} {t : Float} (w : Most n t) (b : ℕ) → leb (val b) (val w.pattern) ≡ leb (n * val b) (1000000 * 2 ^ 1074)
between {n} w b =
    elim (lt_or_le w.pattern b) [
      | inl l ↦
          let g : n * val (w.pattern + 1) ≤ n * val b = mul-le-mul_left n (val_mono (omega arith)) in
          lt-leb _ _ (val_lt l) ∙ sym (lt-leb _ _ (lt_of_lt_of_le w.last g))
      | inr g ↦ le-leb _ _ (val_mono g) ∙ sym (le-leb _ _ (le_trans (mul-le-mul_left n (val_mono g)) w.fits))
    ]

-- of two values that are v / u and w / u
compared : (x t : Float) (s : Bool) (v w u : ℕ) → 0 < u → 0 < w → HasValue x s v u → HasValue t false w u
    → (le x t && le (neg t) x) ≡ leb v w
compared nan t s v w u o p h k = absurd h
compared (inf r) t s v w u o p h k = absurd h
compared (fin r m e) nan s v w u o p h k = absurd k
compared (fin r m e) (inf q) s v w u o p h k = absurd k
compared (fin r m e) (fin true i d) s v w u o p h k = absurd (true≢false k.0)
compared (fin r m e) (fin false i d) s v w u o p h k =
    let a : m * up e * down d * u ≡ v * (down e * down d) = omega (arith, ap (λ z. z * down d) h.1) in
    let b : i * up d * down e * u ≡ w * (down e * down d) = omega (arith, ap (λ z. z * down e) k.1) in
    let c : 0 < down e * down d = mul-pos (down_pos e) (down_pos d) in
    let some : 0 < i * up d * down e = lt_of_mul-lt-mul_right u (omega (arith, b, mul-pos p c)) in
    bounded r m e i d some
    ∙ leb_same (m * up e * down d) (i * up d * down e) v w
    (λ l. le_of_mul-le-mul_right {k = down e * down d} (omega (arith, a, b, mul-le-mul_right u l)) c)
    (λ l. le_of_mul-le-mul_right {k = u} (omega (arith, a, b, mul-le-mul_right (down e * down d) l)) o)

infinite : (s : Bool) (t : Float) (w u : ℕ) → HasValue t false w u → (le (inf s) t && le (neg t) (inf s)) ≡ false
unfolding le lt eq neg
infinite s nan w u k = absurd k
infinite s (inf q) w u k = absurd k
infinite s (fin true i d) w u k = absurd (true≢false k.0)
infinite true (fin false i d) w u k = refl
infinite false (fin false i d) w u k = refl

pub within_exactly : (n : ℕ) (x t : Float) → T (fits binary64 x) → Most n t → (le x t && le (neg t) x) ≡ fits_grid n x
unfolding le lt eq fits_grid
within_exactly n x t F w = go x F
  where
    known : HasValue t false (val w.pattern) (2 ^ 1074)
    known =
        subst (λ (y : Float). HasValue y false (val w.pattern) (2 ^ 1074)) (sym w.is) (read w.pattern (omega (arith, w.small)))

    go : (x : Float) → T (fits binary64 x) → (le x t && le (neg t) x) ≡ fits_grid n x
    go nan F = refl
    go (inf s) F = infinite s t (val w.pattern) (2 ^ 1074) known
    go (fin s m e) F =
        let x = fin s m e in
        let u = pow_pos 1074 in
        let h = valued x F refl in
        compared x t (sign_of x) (size_of x) (val w.pattern) (2 ^ 1074) u (val_pos w.some) h known
        ∙ between w (to_bits binary64 x % 2 ^ 63)
        ∙ sym (fits_at n x (sign_of x) (size_of x) (2 ^ 1074) u h)
