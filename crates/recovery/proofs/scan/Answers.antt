-- `recovery::scan` meets its contract. The invariant: the first i vertices are taken. Assumes nothing.
use native.Mathlib.Omega.{arith}
use Prim.Native.Nat.{ℕ, ◌+◌}
use mathlib.Core.Path.{◌≡◌, refl, ap, ◌∙◌}
use mathlib.Core.List.{List}
use lib.Ieee.{Float, div, of_bits}
use Rattle.plane.specs.declared.Point.{Point}
use Rattle.ring.specs.Ring.{count, point_at}
use Rattle.laws.specs.FirstBest.{over, nest}
use Rattle.laws.proofs.FirstBest.{nest_turn}
use Rattle.recovery.specs.Recovery.{closest_on, closest_at, nearer_point, afar, closest_of}
use Rattle.recovery.specs.declared.Closest.{Closest}
use Rattle.recovery.proofs.scan.Goals as goal

-- one vertex more
step : (s o : List Float) (i : ℕ) {a b : Closest} {v : Point} → a ≡ nest nearer_point (closest_at s o) (count s) afar i → v ≡ point_at o i → b ≡ over nearer_point (closest_on v s) a (count s)
    → b ≡ nest nearer_point (closest_at s o) (count s) afar (i + 1)
step s o i {a} h k e = nest_turn nearer_point (closest_at s o) (count s) afar i h (e ∙ ap (λ (q : Point). over nearer_point (closest_on q s) a (count s)) k)

pub loop-i-init : goal.loop-i-init
unfolding nest div of_bits
loop-i-init c = refl

pub loop-i-preserved : goal.loop-i-preserved
loop-i-preserved c = step _ _ _ c.loop-i.invariant c.point_at.ensures c.row-near.ensures

pub returns : goal.returns
unfolding closest_of
returns c = c.loop-i.invariant ∙ ap (nest nearer_point _ _ _) (omega arith)
