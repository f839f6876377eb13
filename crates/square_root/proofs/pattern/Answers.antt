-- `square_root::pattern` meets its contract. `proofs/Normal.antt` says that each arm hands on the radicand of b's
-- value, in the form that `assembled` takes. Assumes nothing.
use mathlib.Core.Path.{◌≡◌, sym, ap, ◌∙◌}
use native.Mathlib.Omega.{arith}
use Prim.Native.Nat.{ℕ, ◌+◌, ◌-◌, ◌*◌, ◌/◌, ◌%◌, ◌^◌}
use lib.Bits.{bit_and, and_mask}
use lib.Count.{leading_le}
use lib.Ieee.{binary64}
use Rattle.square_root.specs.Root.{rooted}
use Rattle.square_root.proofs.Patterns.{sqrt_at}
use Rattle.square_root.proofs.Normal.{zeros, low_digits, low_same, high_same}
use Rattle.square_root.proofs.pattern.Goals as goal
use Rattle.square_root.proofs.pattern.Goals.{Else-b-lt4503599627370496}

-- the mask keeps the low field
masked : (b : ℕ) →
    let t = b / 2 ^ 52 + 1073 in
    (bit_and b (2 ^ 52 - 1) + 2 ^ 52) * 2 ^ t ≡ (b % 2 ^ 52 + 2 ^ 52) * 2 ^ t
masked b = ap (λ (x : ℕ). (x + 2 ^ 52) * 2 ^ (b / 2 ^ 52 + 1073)) (and_mask b 52)

low_fields : (c : Else-b-lt4503599627370496) → bit_and c.args.b (2 ^ 52 - 1) ≡ c.args.b % 2 ^ 52
low_fields c = and_mask c.args.b 52

pub overflow_cast-z : goal.overflow_cast-z
overflow_cast-z c = omega (arith, leading_le 64 c.args.b)

pub overflow_sub-z : goal.overflow_sub-z
overflow_sub-z c = omega (arith, zeros c.args.b c.requires.0 c.if-b-lt4503599627370496.true)

pub overflow_shl-b : goal.overflow_shl-b
overflow_shl-b c = omega (arith, zeros c.args.b c.requires.0 c.if-b-lt4503599627370496.true)

pub overflow_sub-z-then-b-lt4503599627370496 : goal.overflow_sub-z-then-b-lt4503599627370496
overflow_sub-z-then-b-lt4503599627370496 c = omega (arith, zeros c.args.b c.requires.0 c.if-b-lt4503599627370496.true)

pub assembled-requires : goal.assembled-requires
assembled-requires c =
    let z = zeros c.args.b c.requires.0 c.if-b-lt4503599627370496.true in
    let m = low_digits c.args.b c.requires.0 c.if-b-lt4503599627370496.true in
    record { long = m.0; short = m.1; least = omega arith; most = omega arith }

pub overflow_add-b : goal.overflow_add-b
overflow_add-b c = omega (arith, low_fields c)

pub assembled-requires-else-b-lt4503599627370496 : goal.assembled-requires-else-b-lt4503599627370496
assembled-requires-else-b-lt4503599627370496 c =
    let e = low_fields c in
    record { long = omega arith; short = omega arith; least = omega arith; most = omega arith }

pub returns-then-b-lt4503599627370496 : goal.returns-then-b-lt4503599627370496
returns-then-b-lt4503599627370496 c =
    let b = c.args.b in
    let e = c.assembled.ensures in
    let same = low_same b c.requires.0 c.if-b-lt4503599627370496.true in
    (e.0 ∙ ap (rooted binary64) same ∙ sym (sqrt_at b c.requires.0 c.requires.1), e.1)

pub returns-else-b-lt4503599627370496 : goal.returns-else-b-lt4503599627370496
returns-else-b-lt4503599627370496 c =
    let b = c.args.b in
    let e = c.assembled-else-b-lt4503599627370496.ensures in
    let same = masked b ∙ high_same b c.if-b-lt4503599627370496.false c.requires.1 in
    (e.0 ∙ ap (rooted binary64) same ∙ sym (sqrt_at b c.requires.0 c.requires.1), e.1)
