-- A whole number by its sign: how far it is from zero, and its digits. Assumes nothing.
use Prim.Native.Nat.{suc, ◌+◌, ◌-◌, ◌<◌}
use mathlib.Core.Path.{◌≡◌, refl, ap}
use mathlib.Core.Bool.{true, false, true≢false}
use mathlib.Core.List.{[], ◌∷◌, ◌++◌}
use native.Mathlib.Omega.{arith}
use lib.IntN.{ℤ, pos, negsuc, ◌-ℤ◌, nat_abs}
use lib.Signed.{lt_z, mag}
use borrow.Author.Tests.{ltb-true, le-ltb}
use Rattle.print.specs.Digits.{decimal}
use Rattle.clear_move.specs.Lines.{signed}

-- below zero: what it leaves of -1, and one more
pub turned : (z : ℤ) → lt_z z (pos 0) ≡ true → negsuc 0 -ℤ z ≡ pos (mag z)
turned (pos n) h = let l : n < 0 = ltb-true _ _ h in absurd (omega arith)
turned (negsuc n) h = rw (le-ltb (suc n) 1 (omega arith)) (ap pos (let e : suc n - 1 ≡ n = omega arith in e))

pub one_more : (z : ℤ) → lt_z z (pos 0) ≡ true → mag z + 1 ≡ nat_abs z
one_more (pos n) h = let l : n < 0 = ltb-true _ _ h in absurd (omega arith)
one_more (negsuc n) h = omega arith

-- from zero on
pub kept : (z : ℤ) → lt_z z (pos 0) ≡ false → z ≡ pos (mag z)
kept (pos n) h = refl
kept (negsuc n) h = absurd (true≢false h)

-- the digits, after a minus or alone
pub with_minus : (z : ℤ) → lt_z z (pos 0) ≡ true → (45 ∷ []) ++ decimal (nat_abs z) ≡ signed z
unfolding signed
with_minus (pos n) h = let l : n < 0 = ltb-true _ _ h in absurd (omega arith)
with_minus (negsuc n) h = refl

pub digits_alone : (z : ℤ) → lt_z z (pos 0) ≡ false → decimal (nat_abs z) ≡ signed z
unfolding signed
digits_alone (pos n) h = refl
digits_alone (negsuc n) h = absurd (true≢false h)
