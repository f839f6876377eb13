-- The number of a word of 32 bits, by its half. Assumes nothing.
use Rattle.std.proofs.Common.{◌≡◌, ℕ, zero, suc, ◌+◌, ◌-◌, ◌<◌, ◌≤◌, pos, negsuc, ◌-ℤ◌, refl, ap, arith, le-ltb, lt-ltb}
use Rattle.whole_input.specs.Whole.{signed_of}

pub low_half : (w : ℕ) → w < 2147483648 → pos w ≡ signed_of w
unfolding signed_of
low_half w h = rw (lt-ltb w 2147483648 h)

pub high_half : (w : ℕ) → 2147483648 ≤ w → negsuc (4294967295 - w) ≡ signed_of w
unfolding signed_of
high_half w h = rw (le-ltb w 2147483648 h)

-- what a number takes from -1
pub from_last : (k : ℕ) → negsuc 0 -ℤ pos k ≡ negsuc k
from_last zero = refl
from_last (suc k) = ap negsuc (let e : suc (0 + k) ≡ suc k = omega arith in e)
