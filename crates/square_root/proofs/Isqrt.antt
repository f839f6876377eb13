-- `isqrt n` is the whole part of n's root: by its digits, each of which leaves a quarter of n. Assumes nothing.
use mathlib.Core.Logic.{inl, inr}
use Prim.Native.Nat.{ℕ, zero, suc, ◌+◌, ◌*◌, ◌/◌, ◌^◌, ◌≤◌, ◌<◌}
use native.Mathlib.Omega.{arith}
use native.Mathlib.Nat.{lt_of_lt_of_le, pow-le-pow_left, pow-succ'}
use lib.Dec.{lit≤}
use borrow.Author.Tests.{le-leb, lt-leb}
use lib.Ieee.{size}
use lib.Ieee.Digits.{size-lt}
use Rattle.square_root.specs.Root.{WholeRoot, next, isqrt_by, isqrt}
use Rattle.square_root.proofs.Numbers.{lt_or_le}

-- r is no larger than the whole part, and at most one smaller
next_root : (n r : ℕ) → r * r ≤ n → n < (r + 2) * (r + 2) → WholeRoot n (next n r)
next_root n r a b =
    elim (lt_or_le n ((r + 1) * (r + 1))) [
      | inl l ↦ rw (lt-leb ((r + 1) * (r + 1)) n l) (omega arith)
      | inr g ↦ rw (le-leb ((r + 1) * (r + 1)) n g) (omega arith)
    ]

-- by the root s of n / 4
digit_root : (n s : ℕ) → WholeRoot (n / 4) s → WholeRoot n (next n (2 * s))
digit_root n s h = next_root n (2 * s) (omega arith) (omega arith)

quarter_lt : (n p : ℕ) → n < 4 * p → n / 4 < p
quarter_lt n p h = omega arith

by_root : (d n : ℕ) → n < 4 ^ d → WholeRoot n (isqrt_by d n)
unfolding isqrt_by
by_root zero n h = omega arith
by_root (suc d) n h =
    digit_root n (isqrt_by d (n / 4)) (by_root d (n / 4) (quarter_lt n (4 ^ d) (rw pow-succ' at h)))

pub isqrt_root : (n : ℕ) → WholeRoot n (isqrt n)
unfolding isqrt
isqrt_root n = by_root (size n) n (lt_of_lt_of_le (size-lt n) (pow-le-pow_left (lit≤ tt) (size n)))
