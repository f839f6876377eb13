-- A distance of 1.5 or more reaches 1.0. Assumes nothing.
use Prim.Native.Nat.{◌+◌, ◌*◌, ◌≤◌}
use native.Mathlib.Omega.{arith}
use mathlib.Core.Path.{◌≡◌, refl, sym, ◌∙◌}
use mathlib.Core.Bool.{true, false, true≢false}
use lib.Ieee.{Float, nan, inf, fin, binary64, up, down, lt, of_bits}
use lib.Ieee.Fits.{down_pos}
use borrow.Author.Tests.{lt-ltb, ltb-false}
use Rattle.scalar.specs.Float.{f1}
use Rattle.vectors.specs.Courses.{f1·5}
use Rattle.scalar.specs.Scalar.{smaller_of, or_number, ahead, minus_zero}

pub above_none : lt (of_bits binary64 0) f1·5 ≡ true
unfolding lt of_bits
above_none = refl

pub far_one : (d : Float) → lt d f1·5 ≡ false → smaller_of d f1 ≡ f1
unfolding smaller_of or_number ahead minus_zero lt of_bits
far_one nan h = refl
far_one (inf true) h = absurd (true≢false h)
far_one (inf false) h = refl
far_one (fin true m e) h = absurd (true≢false (sym (lt-ltb 0 (m * up e * 2 + 3 * down e) (omega (arith, down_pos e))) ∙ h))
far_one (fin false m e) h =
    let far : 3 * down e ≤ m * up e * 2 = ltb-false (m * up e * 2) (3 * down e) h in
    rw (lt-ltb (1 * down e) (m * up e * 1) (omega (arith, down_pos e))) refl
