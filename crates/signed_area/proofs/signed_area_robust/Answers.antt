-- `signed_area::signed_area_robust` meets its contract. The invariant: the compensated sum is that of the first i terms. Assumes nothing.
use native.Mathlib.Omega.{arith}
use Prim.Native.Nat.{ℕ, ◌+◌, ◌≤◌}
use mathlib.Core.Path.{◌≡◌, refl}
use mathlib.Core.List.{List}
use native.Mathlib.Numerals.{add-one}
use borrow.Author.Tests.{lt-ltb, le-ltb}
use lib.Ieee.{Float}
use Rattle.scalar.specs.Float.{◌⊘◌, f2}
use Rattle.ring.specs.Ring.{count}
use Rattle.signed_area.specs.Area.{term_of, added_of, kahan_to, robust_of}
use Rattle.signed_area.specs.declared.Kahan.{Kahan}
use Rattle.signed_area.proofs.signed_area_robust.Goals as goal

-- one term more
step : (r : List Float) (i : ℕ) {k m : Kahan} {t : Float} → k ≡ kahan_to r i → t ≡ term_of r i → m ≡ added_of k t → m ≡ kahan_to r (i + 1)
unfolding kahan_to
step r i h q e = rw (e, h, q, add-one i)

end : (r : List Float) (i : ℕ) {k : Kahan} → i ≤ count r → count r ≤ i → 3 ≤ count r → k ≡ kahan_to r i → k.sum ⊘ f2 ≡ robust_of r
unfolding robust_of
end r i lo hi big h = let e : i ≡ count r = omega arith in rw (le-ltb (count r) 3 big, h, e)

pub returns-then-n-lt3 : goal.returns-then-n-lt3
unfolding robust_of
returns-then-n-lt3 c = rw (lt-ltb _ _ c.if-n-lt3.true)

pub loop-i-init : goal.loop-i-init
unfolding kahan_to
loop-i-init c = refl

pub loop-i-preserved : goal.loop-i-preserved
loop-i-preserved c =
    step _ _ c.loop-i.invariant c.term.ensures c.added-k.ensures

pub returns : goal.returns
returns c =
    end _ _ c.loop-i.auto.i-end c.loop-i-test.false c.if-n-lt3.false c.loop-i.invariant
