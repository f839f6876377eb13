-- `clear_drawn_path::first_leg` meets its contract. The invariant: the legs from i on decide, deepened by those before. Assumes
-- nothing.
use Prim.Native.Nat.{max}
use mathlib.Core.Path.{◌≡◌, sym, ap, ◌∙◌}
use Rattle.std.proofs.Common.{rules}
use native.Mathlib.Omega.{arith}
use Rattle.clear_aside.specs.Aside.{least}
use Rattle.clear_drawn_path.proofs.Legs.{all_left, leg_on, leg_edge, leg_enclosed, leg_end}
use Rattle.clear_drawn_path.proofs.first_leg.Goals as goal

pub loop-i-init : goal.loop-i-init
loop-i-init c = all_left _ _

pub search_next-requires : goal.search_next-requires
search_next-requires c =
    let p = c.requires in
    (p.0, omega (arith, p.1))

pub loop-i-preserved : goal.loop-i-preserved
loop-i-preserved c =
    let told = ap least c.in-Clear.is in
    let deeper : c.max-depth.result ≡ max c.loop-i.depth c.depth_of.result = search rules in
    c.loop-i.invariant ∙ leg_on _ _ _ _ c.loop-i-test.true c.search_next.ensures told c.depth_of.ensures.0 deeper

pub returns-in-Edge : goal.returns-in-Edge
returns-in-Edge c =
    let told = ap least c.in-Edge.is in
    sym (c.loop-i.invariant ∙ leg_edge _ _ _ _ c.loop-i-test.true c.search_next.ensures told)

pub returns-in-Enclosed : goal.returns-in-Enclosed
returns-in-Enclosed c =
    let told = ap least c.in-Enclosed.is in
    sym (c.loop-i.invariant ∙ leg_enclosed _ _ _ _ c.loop-i-test.true c.search_next.ensures told)

pub returns : goal.returns
returns c = sym (c.loop-i.invariant ∙ leg_end _ _ _ _ c.loop-i-test.false)
