-- `up` meets its contract. Assumes nothing.
use mathlib.Core.Path.{◌≡◌, sym, ap, subst, ◌∙◌}
use native.Mathlib.Omega.{arith}
use lib.IntN.{pos, ◌+ℤ◌, nat_abs}
use mir.Syntax.{w32}
use mir.Val.{to_z, of_z, SFits}
use mir.ValLaws.{to_z-of_z}
use Rattle.shifted.specs.Shifted.{up_of}
use Rattle.shifted.proofs.Laws.{low, high, sum, bound}
use Rattle.shifted.proofs.up.Goals as goal
use Rattle.shifted.proofs.up.Goals.{Else-x-gt1000000, Start}

plain : (c : Start) → to_z w32 (of_z w32 c.args.x) ≡ c.args.x
plain c = to_z-of_z w32 c.args.x c.ranges.x

-- the sum, as the machine has it
summed : (c : Else-x-gt1000000) → to_z w32 (of_z w32 c.args.x) +ℤ pos 1000000 ≡ pos (up_of c.args.x)
summed c = ap (λ z. z +ℤ pos 1000000) (plain c.before.before)
    ∙ sum _ (rw (plain c.before.before) at c.if-x-ltminus1000000.false) (rw (plain c.before.before) at c.if-x-gt1000000.false)

back : (c : Else-x-gt1000000) → to_z w32 (of_z w32 (to_z w32 (of_z w32 c.args.x) +ℤ pos 1000000)) ≡ pos (up_of c.args.x)
back c = to_z-of_z w32 _ (subst (SFits w32) (sym (summed c)) (record { sfits = omega (arith, bound c.args.x) })) ∙ summed c

pub returns-then-x-ltminus1000000 : goal.returns-then-x-ltminus1000000
returns-then-x-ltminus1000000 c = low _ (rw (plain c.before) at c.if-x-ltminus1000000.true)

pub returns-then-x-gt1000000 : goal.returns-then-x-gt1000000
returns-then-x-gt1000000 c = high _ (rw (plain c.before.before) at c.if-x-gt1000000.true)

pub returns : goal.returns
returns c = ap nat_abs (back c)
