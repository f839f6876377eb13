-- `simple_polygon::is_simple_polygon` meets its contract. The invariant: the rows from i on decide. Assumes nothing.
use native.Mathlib.Omega.{arith}
use mathlib.Core.List.{List}
use lib.Ieee.{Float}
use Rattle.ring.specs.Ring.{count}
use borrow.Author.Tests.{le-leb, lt-leb}
use Prim.Native.Nat.{◌-◌, ◌≤◌}
use mathlib.Core.Path.{◌≡◌, sym, ◌∙◌}
use Rattle.ring.specs.Each.{each}
use Rattle.ring.proofs.Each.{each_on, each_off, each_end}
use Rattle.simple_polygon.specs.Simple.{clear_row, is_simple}
use Rattle.simple_polygon.proofs.is_simple_polygon.Goals as goal

-- of three vertices or more all rows are left
start : (r : List Float) → 3 ≤ count r → is_simple r ≡ each (clear_row r) 0 (count r - 0)
unfolding is_simple
start r h = let e : count r - 0 ≡ count r = omega arith in rw (le-leb 3 (count r) h, e)

pub returns-then-n-lt3 : goal.returns-then-n-lt3
unfolding is_simple
returns-then-n-lt3 c = rw (lt-leb _ _ c.if-n-lt3.true)

pub loop-i-init : goal.loop-i-init
loop-i-init c = start _ c.if-n-lt3.false

pub loop-i-preserved : goal.loop-i-preserved
loop-i-preserved c =
    c.loop-i.invariant ∙ each_on _ _ _ c.loop-i-test.true (sym c.clear_row.ensures ∙ c.if-not-clear_row.false)

pub returns-then-not-clear_row : goal.returns-then-not-clear_row
returns-then-not-clear_row c =
    sym (c.loop-i.invariant ∙ each_off _ _ _ c.loop-i-test.true (sym c.clear_row.ensures ∙ c.if-not-clear_row.true))

pub returns : goal.returns
returns c = sym (c.loop-i.invariant ∙ each_end _ _ _ c.loop-i-test.false)
