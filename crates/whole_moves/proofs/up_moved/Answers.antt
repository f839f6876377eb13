-- `whole_moves::up_moved` meets its contract: both bounds, then the sum. Assumes nothing.
use mathlib.Core.Path.{◌≡◌, sym, ap, subst, ◌∙◌}
use native.Mathlib.Omega.{arith}
use lib.IntN.{ℤ, pos, ◌+ℤ◌, nat_abs}
use lib.Signed.{non_neg}
use lib.Dec.{T}
use mir.Syntax.{w64}
use mir.Val.{to_z, of_z, SFits, Fits}
use mir.ValLaws.{to_z-of_z}
use Rattle.shifted.specs.Shifted.{up_of}
use Rattle.shifted.proofs.Laws.{low, high, sum, bound}
use Rattle.whole_moves.proofs.Sums.{stands}
use Rattle.whole_moves.proofs.up_moved.Goals as goal
use Rattle.whole_moves.proofs.up_moved.Goals.{After-moved-s, Else-s-gt1000000}

plain : (c : After-moved-s) → to_z w64 (of_z w64 c.moved-s.result) ≡ c.args.z +ℤ c.args.d
plain c = stands c.ranges.z c.ranges.d c.moved-s.ensures

-- what is asked for
asked : (c : Else-s-gt1000000) → ℤ
asked c = c.args.z +ℤ c.args.d

-- the sum, as the machine has it
summed : (c : Else-s-gt1000000) → to_z w64 (of_z w64 c.moved-s.result) +ℤ pos 1000000 ≡ pos (up_of (asked c))
unfolding asked
summed c =
    let p = plain c.before.before in
    ap (λ (z : ℤ). z +ℤ pos 1000000) p ∙ sum _ (rw p at c.if-s-ltminus1000000.false) (rw p at c.if-s-gt1000000.false)

pub overflow_add-result : goal.overflow_add-result
overflow_add-result c = subst (SFits w64) (sym (summed c)) (record { sfits = omega (arith, bound (asked c)) })

back : (c : Else-s-gt1000000)
    → to_z w64 (of_z w64 (to_z w64 (of_z w64 c.moved-s.result) +ℤ pos 1000000)) ≡ pos (up_of (asked c))
back c = to_z-of_z w64 _ (overflow_add-result c) ∙ summed c

pub returns-then-s-ltminus1000000 : goal.returns-then-s-ltminus1000000
returns-then-s-ltminus1000000 c = low _ (rw (plain c.before) at c.if-s-ltminus1000000.true)

pub returns-then-s-gt1000000 : goal.returns-then-s-gt1000000
returns-then-s-gt1000000 c = high _ (rw (plain c.before.before) at c.if-s-gt1000000.true)

pub overflow_cast-result : goal.overflow_cast-result
overflow_cast-result c = (
  subst (λ (z : ℤ). T (non_neg z)) (sym (back c)) tt,
  subst (λ (z : ℤ). Fits w64 (nat_abs z)) (sym (back c)) (record { fits = omega (arith, bound (asked c)) }),
)

pub returns : goal.returns
unfolding asked
returns c = ap nat_abs (back c)
