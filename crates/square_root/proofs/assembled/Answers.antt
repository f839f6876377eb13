-- `square_root::assembled` meets its contract. The digits are those of the root of m * 2 ^ (t % 2), and
-- `proofs/Join.antt` says what they make. Assumes nothing.
use mathlib.Core.Path.{◌≡◌}
use Prim.Native.Nat.{ℕ, zero, suc, ◌+◌, ◌-◌, ◌*◌, ◌/◌, ◌%◌, ◌^◌, ◌≤◌, ◌<◌}
use native.Mathlib.Omega.{arith}
use lib.Bits.{bit_and, and_mask}
use Rattle.square_root.proofs.Join.{Pattern, Joined, joined}
use Rattle.square_root.proofs.assembled.Goals as goal
use Rattle.square_root.proofs.assembled.Goals.{After-digits-r, Start}

-- what the shift by d, 0 or 1, makes of m
record Shifted (m d n : ℕ) : Type 0 where
  is : n ≡ m * 2 ^ d
  long : 2 ^ 52 ≤ n
  short : n < 2 ^ 54

shifted : (m d : ℕ) → 2 ^ 52 ≤ m → m < 2 ^ 53 → d < 2 → Shifted m d (m * 2 ^ d % 2 ^ 64)
shifted m zero lo hi b = record { is = omega arith; long = omega arith; short = omega arith }
shifted m (suc zero) lo hi b = record { is = omega arith; long = omega arith; short = omega arith }
shifted m (suc (suc d)) lo hi b = absurd (omega arith)

-- the mask is t's last digit
form : (c : Start) →
    let m = c.args.m in
    let d = c.args.t % 2 in
    Shifted m d (m * 2 ^ bit_and c.args.t 1 % 2 ^ 64)
form c = rw (and_mask c.args.t 1) (shifted _ _ c.requires.long c.requires.short (omega arith))

digits_joined : (c : After-digits-r) → Joined c.args.m c.args.t c.digits-r.result
digits_joined c =
    joined _ c.args.t _ c.requires (rw (form c.before).is at c.digits-r.ensures)

-- the exponent is not shifted out
placed : (n r t : ℕ) → t < 4000 → Pattern n ((t / 2 - 26) * 2 ^ 52 + (r + 1) / 2)
    → Pattern n ((t / 2 - 26) * 2 ^ 52 % 2 ^ 64 + (r + 1) / 2)
placed n r t h p =
    let e : (t / 2 - 26) * 2 ^ 52 % 2 ^ 64 ≡ (t / 2 - 26) * 2 ^ 52 = omega arith in
    rw e p

pub overflow_shl-m : goal.overflow_shl-m
overflow_shl-m c = omega (arith, and_mask c.args.t 1)

pub digits-r-requires : goal.digits-r-requires
digits-r-requires c = (form c).short

pub overflow_add-result : goal.overflow_add-result
overflow_add-result c = omega (arith, (digits_joined c).1)

pub returns : goal.returns
returns c =
    let p = placed _ _ c.args.t c.requires.most (digits_joined c).0 in
    (p.is, p.finite)
