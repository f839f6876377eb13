-- A coordinate lies well within 64 bits, and its whole part within 32. Assumes nothing.
use Rattle.std.proofs.Common.{◌≡◌, ℕ, zero, suc, ◌+◌, ◌*◌, ◌/◌, ◌^◌, ◌<◌, ◌≤◌, min, true, false, ℤ, pos, neg_ℤ, sym, true≢false, arith, lt-ltb, leb-true}
use native.Mathlib.Nat.{div-le_of_le-mul}
use lib.Signed.{mag}
use lib.Ieee.{Float, nan, inf, fin, up, down, lt, le, to_signed}
use lib.Ieee.Fits.{down_pos}
use Rattle.refusals.specs.Bounds.{coordinate}
use Rattle.whole_input.specs.Whole.{whole_part}

pub above_least : (x : Float) → coordinate x ≡ true → le (fin true 1 (pos 63)) x ≡ true
unfolding coordinate le lt
above_least nan h = absurd (true≢false (sym h))
above_least (inf s) h = absurd (true≢false (sym h))
above_least (fin false m e) h = rw (lt-ltb 0 (1 * up (pos 63) * down e + m * up e * down (pos 63)) (omega (arith, down_pos e)))
above_least (fin true m e) h =
    let l : m * up e ≤ 1000000 * down e = leb-true _ _ h in
    rw (lt-ltb (m * up e * down (pos 63)) (1 * up (pos 63) * down e) (omega (arith, down_pos e)))

pub below_most : (x : Float) → coordinate x ≡ true → lt x (fin false 1 (pos 63)) ≡ true
unfolding coordinate lt
below_most nan h = absurd (true≢false (sym h))
below_most (inf s) h = absurd (true≢false (sym h))
below_most (fin false m e) h =
    let l : m * up e ≤ 1000000 * down e = leb-true _ _ h in
    lt-ltb (m * up e * down (pos 63)) (1 * up (pos 63) * down e) (omega (arith, down_pos e))
below_most (fin true m e) h = lt-ltb 0 (m * up e * down (pos 63) + 1 * up (pos 63) * down e) (omega (arith, down_pos e))

negative : (n : ℕ) → n ≤ 1000000 → mag (neg_ℤ (pos n)) < 2147483648
negative zero h = omega arith
negative (suc n) h = omega arith

whole_most : (m : ℕ) (e : ℤ) → m * up e ≤ 1000000 * down e → m * up e / down e ≤ 1000000
whole_most m e h = div-le_of_le-mul (down e) (omega arith)

pub part_small : (x : Float) → coordinate x ≡ true → mag (whole_part x) < 2147483648
unfolding coordinate to_signed
part_small nan h = absurd (true≢false (sym h))
part_small (inf s) h = absurd (true≢false (sym h))
part_small (fin false m e) h =
    let l = whole_most m e (leb-true _ _ h) in
    omega arith
part_small (fin true m e) h =
    let l = whole_most m e (leb-true _ _ h) in
    negative (min (m * up e / down e) (2 ^ 63)) (omega arith)
