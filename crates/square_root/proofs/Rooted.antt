-- What `rooted` makes of a number whose root lies between q and q + 1, times 2 ^ k, for a q of 53 digits. And of a
-- number whose root has the 54 digits r: an even r is cut, an odd one is rounded up. Assumes nothing.
use mathlib.Core.Path.{◌≡◌, refl, ap, ◌∙◌, subst}
use mathlib.Core.Bool.{false, not}
use Prim.Native.Nat.{ℕ, zero, suc, ◌+◌, ◌-◌, ◌*◌, ◌/◌, ◌%◌, ◌^◌, ◌≤◌, ◌<◌}
use Prim.Native.Nat.{compare, Ordering}
use native.Mathlib.Omega.{arith}
use native.Mathlib.Nat.{le_antisymm, lt_of_not-le, not-le_of_lt, lt_irrefl, lt_of_le_of_lt, lt_of_lt_of_le}
use native.Mathlib.Nat.{mul-le-mul_right, mul_assoc, pow-succ', div-lt_iff_lt-mul, le-div_iff_mul-le}
use lib.Dec.{T, is_le, compare_is_eq, leb→le, nleb→lt, eqb→eq}
use lib.Pow.{pow-add, pow_pos, pow_mono}
use lib.Ieee.{Float, binary64, size, nearest, units}
use lib.Ieee.Digits.{size-lt, size-le}
use Rattle.square_root.specs.Root.{WholeRoot, isqrt, rooted}
use Rattle.square_root.proofs.Numbers.{scaled, times_four, side_lt}
use Rattle.square_root.proofs.Isqrt.{isqrt_root}

-- ---- a number's digits, and what `nearest` picks

size_is : (a n : ℕ) → 2 ^ a ≤ n → n < 2 * 2 ^ a → size n ≡ suc a
size_is a n lo hi = le_antisymm (size-le n (suc a) (rw pow-succ' hi)) (lt_of_not-le (λ (g : size n ≤ a). clash g))
  where
    clash : size n ≤ a → ⊥
    clash g = lt_irrefl (2 ^ a) (lt_of_le_of_lt lo (lt_of_lt_of_le (size-lt n) (pow_mono g)))

picks_low : (q a b : ℕ) → a < b → nearest q (compare a b) ≡ q
picks_low q a b h = go (compare a b) (nleb→lt a b) (eqb→eq a b)
  where
    go : (o : Ordering) → (T (not (is_le o)) → b < a) → (T (compare_is_eq o) → a ≡ b) → nearest q o ≡ q
    go Ordering.lt x y = refl
    go Ordering.eq x y = let e = y tt in absurd (omega arith)
    go Ordering.gt x y = let l = x tt in absurd (omega arith)

picks_high : (q a b : ℕ) → b < a → nearest q (compare a b) ≡ suc q
picks_high q a b h = go (compare a b) (leb→le a b)
  where
    go : (o : Ordering) → (T (is_le o) → a ≤ b) → nearest q o ≡ suc q
    go Ordering.lt x = absurd (not-le_of_lt h (x tt))
    go Ordering.eq x = absurd (not-le_of_lt h (x tt))
    go Ordering.gt x = refl

-- ---- `rooted`, by the q and the k that it finds

abbrev made : ℕ → ℕ → ℕ → Float
made n k q = units binary64 false (nearest q (compare (4 * n) ((2 * q + 1) * (2 * q + 1) * 4 ^ k))) k

opened : (n : ℕ) → rooted binary64 n ≡ made n (size (isqrt n) - 53) (isqrt n / 2 ^ (size (isqrt n) - 53))
unfolding rooted
opened n = refl

module _ (n k q : ℕ) (lo : 2 ^ 52 ≤ q) (hi : q < 2 ^ 53)
    (above : q * q * 4 ^ k ≤ n) (below : n < (q + 1) * (q + 1) * 4 ^ k) where
  root_ge : q * 2 ^ k ≤ isqrt n
  root_ge =
      let h : q * 2 ^ k * (q * 2 ^ k) ≤ n = rw scaled above in
      let l : q * 2 ^ k < isqrt n + 1 = side_lt (lt_of_le_of_lt h (isqrt_root n).1) in
      omega arith

  root_lt : isqrt n < (q + 1) * 2 ^ k
  root_lt = side_lt (lt_of_le_of_lt (isqrt_root n).0 (rw scaled below))

  root_size : size (isqrt n) ≡ suc (52 + k)
  root_size =
      let a : 2 ^ 52 * 2 ^ k ≤ q * 2 ^ k = mul-le-mul_right (2 ^ k) lo in
      let b : (q + 1) * 2 ^ k ≤ 2 ^ 53 * 2 ^ k = mul-le-mul_right (2 ^ k) (omega arith) in
      size_is (52 + k) (isqrt n) (rw pow-add (omega (arith, root_ge))) (rw pow-add (omega (arith, root_lt)))

  dropped : size (isqrt n) - 53 ≡ k
  dropped = let s = root_size in omega arith

  kept : isqrt n / 2 ^ k ≡ q
  kept =
      let l : isqrt n / 2 ^ k < q + 1 = (div-lt_iff_lt-mul (pow_pos k)).1 root_lt in
      let g : q ≤ isqrt n / 2 ^ k = (le-div_iff_mul-le (pow_pos k)).1 root_ge in
      omega arith

  rooted_is : rooted binary64 n ≡ made n k q
  rooted_is = opened n ∙ ap (λ (x : ℕ). made n x (isqrt n / 2 ^ x)) dropped ∙ ap (λ (x : ℕ). made n k x) kept

-- ---- from the 54 digits r of the root of 4 * w, by the first 53 of them, q. An odd r is no tie: its square is odd,
-- and so no multiple of 4

-- r is even, and the root lies below halfway; or it is odd, and the root lies above
abbrev pub Even : ℕ → ℕ → Type 0
Even w q = (2 ^ 52 ≤ q) × (q < 2 ^ 53) × (2 * q * (2 * q) ≤ 4 * w) × (4 * w < (2 * q + 1) * (2 * q + 1))

abbrev pub Odd : ℕ → ℕ → Type 0
Odd w q = (2 ^ 52 ≤ q) × (q < 2 ^ 53) × ((2 * q + 1) * (2 * q + 1) < 4 * w) × (4 * w < (2 * q + 2) * (2 * q + 2))

module _ (P : ℕ → Type 0) (w r : ℕ) (lo : 2 ^ 53 ≤ r) (hi : r < 2 ^ 54) (root : WholeRoot (4 * w) r) where
  pub by_parity : ((q : ℕ) → Even w q → P q) → ((q : ℕ) → Odd w q → P (q + 1)) → P ((r + 1) / 2)
  by_parity even odd = go (r % 2) refl
    where
      go : (d : ℕ) → r % 2 ≡ d → P ((r + 1) / 2)
      go zero e =
          let q = r / 2 in
          let s : r ≡ 2 * q = omega arith in
          let t : q ≡ (r + 1) / 2 = omega arith in
          let h : WholeRoot (4 * w) (2 * q) = subst (λ (x : ℕ). WholeRoot (4 * w) x) s root in
          subst P t (even q (omega arith, omega arith, h.0, h.1))
      go (suc d) e =
          let q = r / 2 in
          let s : r ≡ 2 * q + 1 = omega arith in
          let t : q + 1 ≡ (r + 1) / 2 = omega arith in
          let h : WholeRoot (4 * w) (2 * q + 1) = subst (λ (x : ℕ). WholeRoot (4 * w) x) s root in
          subst P t (odd q (omega arith, omega arith, omega arith, omega arith))

module _ (w k : ℕ) where
  rooted_even : (q : ℕ) → Even w q → rooted binary64 (w * 4 ^ k) ≡ units binary64 false q k
  rooted_even q (lo, hi, a, b) =
      rooted_is (w * 4 ^ k) k q lo hi (mul-le-mul_right (4 ^ k) (omega arith)) (times_four k (omega arith))
      ∙ ap (λ (x : ℕ). units binary64 false x k)
      (picks_low q (4 * (w * 4 ^ k)) ((2 * q + 1) * (2 * q + 1) * 4 ^ k) (rw (← mul_assoc) (times_four k b)))

  rooted_odd : (q : ℕ) → Odd w q → rooted binary64 (w * 4 ^ k) ≡ units binary64 false (q + 1) k
  rooted_odd q (lo, hi, a, b) =
      rooted_is (w * 4 ^ k) k q lo hi (mul-le-mul_right (4 ^ k) (omega arith)) (times_four k (omega arith))
      ∙ ap (λ (x : ℕ). units binary64 false x k)
      (picks_high q (4 * (w * 4 ^ k)) ((2 * q + 1) * (2 * q + 1) * 4 ^ k) (rw (← mul_assoc) (times_four k a))
      ∙ omega arith)

  pub rooted_of : (r : ℕ) → 2 ^ 53 ≤ r → r < 2 ^ 54 → WholeRoot (4 * w) r
      → rooted binary64 (w * 4 ^ k) ≡ units binary64 false ((r + 1) / 2) k
  rooted_of r lo hi root =
      by_parity (λ (x : ℕ). rooted binary64 (w * 4 ^ k) ≡ units binary64 false x k) w r lo hi root rooted_even
      rooted_odd
