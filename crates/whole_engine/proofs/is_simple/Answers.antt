-- `whole_engine::is_simple` meets its contract. The invariant: the rows from i on decide. Assumes nothing.
use native.Mathlib.Omega.{arith}
use borrow.Author.Tests.{le-leb, lt-leb}
use Prim.Native.Nat.{ℕ, ◌-◌, ◌≤◌}
use mathlib.Core.Path.{◌≡◌, sym, ◌∙◌}
use Rattle.ring.specs.Each.{each}
use Rattle.ring.proofs.Each.{each_on, each_off, each_end}
use Rattle.shifted.specs.declared.Spot.{Spot}
use Rattle.whole_rules.specs.Simple.{whole_clear_row, whole_simple}
use Rattle.whole_engine.proofs.is_simple.Goals as goal

-- of three vertices or more all rows are left
start : (at : ℕ → Spot) (n : ℕ) → 3 ≤ n → whole_simple at n ≡ each (whole_clear_row at n) 0 (n - 0)
unfolding whole_simple
start at n h = let e : n - 0 ≡ n = omega arith in rw (le-leb 3 n h, e)

pub returns-then-n-lt3 : goal.returns-then-n-lt3
unfolding whole_simple
returns-then-n-lt3 c = rw (lt-leb _ _ c.if-n-lt3.true)

pub loop-i-init : goal.loop-i-init
loop-i-init c = start _ _ c.if-n-lt3.false

pub loop-i-preserved : goal.loop-i-preserved
loop-i-preserved c =
    let t = c.if-not-clear_row.false in
    c.loop-i.invariant ∙ each_on _ _ _ c.loop-i-test.true (sym c.clear_row.ensures ∙ t)

pub returns-then-not-clear_row : goal.returns-then-not-clear_row
returns-then-not-clear_row c =
    sym (c.loop-i.invariant ∙ each_off _ _ _ c.loop-i-test.true (sym c.clear_row.ensures ∙ c.if-not-clear_row.true))

pub returns : goal.returns
returns c = sym (c.loop-i.invariant ∙ each_end _ _ _ c.loop-i-test.false)
