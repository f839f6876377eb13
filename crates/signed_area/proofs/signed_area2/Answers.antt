-- `signed_area::signed_area2` meets its contract. The invariant: the sum is that of the first i terms. Assumes nothing.
use native.Mathlib.Omega.{arith}
use Prim.Native.Nat.{ℕ, ◌+◌}
use mathlib.Core.Path.{◌≡◌, refl, ap, ◌∙◌}
use mathlib.Core.List.{List}
use native.Mathlib.Numerals.{add-one}
use lib.Ieee.{Float}
use Rattle.scalar.specs.Float.{◌⊕◌}
use Rattle.signed_area.specs.Area.{term_of, sum_to, area2_of}
use Rattle.signed_area.proofs.signed_area2.Goals as goal

-- one term more
step : (r : List Float) (i : ℕ) {s t : Float} → s ≡ sum_to r i → t ≡ term_of r i → s ⊕ t ≡ sum_to r (i + 1)
unfolding sum_to
step r i h k = rw (h, k, add-one i)

pub loop-i-init : goal.loop-i-init
unfolding sum_to
loop-i-init c = refl

pub loop-i-preserved : goal.loop-i-preserved
loop-i-preserved c =
    step _ _ c.loop-i.invariant c.term-sum.ensures

pub returns : goal.returns
unfolding area2_of
returns c = c.loop-i.invariant ∙ ap (sum_to _) (omega arith)
