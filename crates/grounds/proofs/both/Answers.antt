-- `grounds::both` meets its contract: one scan after the other. Assumes nothing.
use native.Mathlib.Omega.{arith}
use Prim.Native.Nat.{ℕ, ◌*◌, ◌≤◌}
use native.Mathlib.Nat.{mul-le-mul}
use mathlib.Core.List.{List}
use mathlib.Core.Path.{◌≡◌}
use lib.Ieee.{Float}
use Rattle.ring.specs.Ring.{count}
use Rattle.collision.specs.declared.Sweep.{Sweep}
use Rattle.grounds.specs.Scan.{kind_most, AtMost, no_tally, scan_noted, both_noted}
use Rattle.grounds.specs.declared.Tally.{Tally}
use Rattle.grounds.proofs.Counts.{rows_most, most_more}
use Rattle.grounds.proofs.both.Goals as goal

none : (m : ℕ) → AtMost no_tally m
none m = record { others_below = omega arith; near_below = omega arith; between_below = omega arith; far_below = omega arith }

after_one : (vs es : List Float) (w : Sweep) (kind : ℕ) {s t : Tally} → s ≡ no_tally → t ≡ scan_noted vs es w kind s
    → count vs ≤ 256 → count es ≤ 256 → AtMost t kind_most
unfolding scan_noted
after_one vs es w kind g h a b =
    let m : count vs * count es ≤ 256 * 256 = mul-le-mul a b in
    rw (h, g) (most_more _ _ _ (rows_most vs es w kind no_tally 0 (none 0) (count es) (count vs)) (omega (arith, m)))

pub scan-tally-requires : goal.scan-tally-requires
scan-tally-requires c =
    let p = c.requires in
    (p.1, p.0, rw c.no_tally.ensures (none kind_most))

pub scan-requires : goal.scan-requires
scan-requires c =
    let p = c.requires in
    (omega (arith, p.0, p.1), omega (arith, p.0, p.1), after_one _ _ _ _ c.no_tally.ensures c.scan-tally.ensures p.1 p.0)

pub returns : goal.returns
unfolding both_noted
returns c =
    rw (c.scan.ensures, c.scan-tally.ensures, c.no_tally.ensures, c.back-against.ensures)
