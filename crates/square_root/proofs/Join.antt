-- From the 54 digits of a root to the root's bit pattern. The radicand is m * 2 ^ t; the digits are those of m's root,
-- or of 2 * m's where t is odd, and half of t goes into the exponent. Assumes nothing.
use mathlib.Core.Path.{◌≡◌, sym, ap, ◌∙◌}
use Prim.Native.Nat.{ℕ, ◌+◌, ◌-◌, ◌*◌, ◌/◌, ◌%◌, ◌^◌, ◌≤◌, ◌<◌}
use native.Mathlib.Omega.{arith}
use native.Mathlib.Nat.{le_trans, le-mul_of_pos_right, mul-le-mul, mul_assoc}
use lib.Pow.{pow-add, pow_pos, pow_mono}
use lib.Ieee.{binary64, of_bits}
use Rattle.square_root.specs.Root.{WholeRoot, Radicand, isqrt, rooted}
use Rattle.square_root.specs.Nearest.{Near}
use Rattle.square_root.proofs.Numbers.{four_pow, side_lt}
use Rattle.square_root.proofs.Isqrt.{isqrt_root}
use Rattle.square_root.proofs.Rooted.{rooted_of}
use Rattle.square_root.proofs.Near.{near_of}
use Rattle.square_root.proofs.Patterns.{written}

-- the pattern b is that of n's root
pub record Pattern (n b : ℕ) : Type 0 where
  pub is : of_bits binary64 b ≡ rooted binary64 n
  pub some : 0 < b
  pub finite : b < 2047 * 2 ^ 52
  pub near : Near n b

module _ (m r : ℕ) (lo : 2 ^ 52 ≤ m) (hi : m + 2 ≤ 2 ^ 54) (root : WholeRoot (m * 2 ^ 54) r) where
  long : 2 ^ 53 ≤ r
  long = let h : 2 ^ 53 < r + 1 = side_lt (omega arith) in omega arith

  -- the root does not round up to one digit more
  short : r + 1 < 2 ^ 54
  short = let h : r < 2 ^ 54 - 1 = side_lt (omega arith) in omega arith

  pattern_is : (h : ℕ) → 26 ≤ h → h < 2000 → Pattern (m * 4 ^ h) ((h - 26) * 2 ^ 52 + (r + 1) / 2)
  pattern_is h a b =
      let k = h - 26 in
      let s = short in
      let l = long in
      let w : WholeRoot (4 * (m * 4 ^ 26)) r = (omega arith, omega arith) in
      let join : 26 + k ≡ h = omega arith in
      let same : m * 4 ^ 26 * 4 ^ k ≡ m * 4 ^ h =
      mul_assoc m (4 ^ 26) (4 ^ k) ∙ ap (λ (x : ℕ). m * x) (sym (pow-add 4 26 k) ∙ ap (λ (x : ℕ). 4 ^ x) join) in
      record {
        is =
            written ((r + 1) / 2) k (omega arith) (omega arith) (omega arith)
            ∙ sym (rooted_of (m * 4 ^ 26) k r l (omega arith) w)
            ∙ ap (rooted binary64) same;
        some = omega arith;
        finite = omega arith;
        near = rw same at (near_of (m * 4 ^ 26) k r l (omega arith) w);
      }

-- ---- by the exponent t

halves : (t : ℕ) → 2 ^ (t % 2) * 4 ^ (t / 2) ≡ 2 ^ t
halves t =
    let h = t / 2 in
    let e : t % 2 + (h + h) ≡ t = omega arith in
    ap (λ (x : ℕ). 2 ^ (t % 2) * x) (four_pow h ∙ sym (pow-add 2 h h))
    ∙ sym (pow-add 2 (t % 2) (h + h))
    ∙ ap (λ (x : ℕ). 2 ^ x) e

-- what is known of the digits r
abbrev pub Joined : ℕ → ℕ → ℕ → Type 0
Joined m t r = Pattern (m * 2 ^ t) ((t / 2 - 26) * 2 ^ 52 + (r + 1) / 2) × (r + 1 < 2 ^ 54)

pub joined : (m t r : ℕ) → Radicand m t → WholeRoot (m * 2 ^ (t % 2) * 2 ^ 54) r → Joined m t r
joined m t r form root =
    let f = 2 ^ (t % 2) in
    let d : t % 2 ≤ 1 = omega arith in
    let top : m ≤ 2 ^ 53 - 1 = omega arith in
    let a : 2 ^ 52 ≤ m * f = le_trans form.long (le-mul_of_pos_right m (pow_pos (t % 2))) in
    let b : m * f ≤ (2 ^ 53 - 1) * 2 ^ 1 = mul-le-mul top (pow_mono d) in
    let b' : m * f + 2 ≤ 2 ^ 54 = omega arith in
    let same : m * f * 4 ^ (t / 2) ≡ m * 2 ^ t = mul_assoc m f (4 ^ (t / 2)) ∙ ap (λ (x : ℕ). m * x) (halves t) in
    (rw same at (pattern_is (m * f) r a b' root (t / 2) (omega arith) (omega arith)), short (m * f) r a b' root)

-- every radicand has a root, whose pattern is at hand
pub root_of : (m t : ℕ) → Radicand m t → (b : ℕ) × Pattern (m * 2 ^ t) b
root_of m t form =
    let n = m * 2 ^ (t % 2) * 2 ^ 54 in
    let r = isqrt n in
    ((t / 2 - 26) * 2 ^ 52 + (r + 1) / 2, (joined m t r form (isqrt_root n)).0)
