-- `grounds::explain_collision` meets its contract: the length of the move, both scans, and the ground by the counts. Assumes nothing.
use mathlib.Core.Path.{◌≡◌}
use mathlib.Core.List.{List}
use lib.Ieee.{Float}
use Rattle.plane.specs.Vector.{length_of}
use Rattle.plane.specs.declared.Point.{Point}
use Rattle.collision.specs.Check.{rays_by, sweep_of}
use Rattle.collision.specs.declared.Sweep.{Sweep}
use Rattle.grounds.specs.Scan.{both_noted}
use Rattle.grounds.specs.Explanation.{explanation_of, tally_of}
use Rattle.grounds.specs.declared.Tally.{Tally}
use Rattle.grounds.proofs.Explained.{scanned_is}
use Rattle.grounds.proofs.explain_collision.Goals as goal

tally_is : (st orb : List Float) (move : Point) (tol : Float) {len : Float} {w : Sweep} {t : Tally} → len ≡ length_of move → w ≡ rays_by move len tol
    → t ≡ both_noted st orb w → t ≡ tally_of st orb move tol
unfolding sweep_of
tally_is st orb move tol l r h = rw (h, r, l) (scanned_is st orb move tol)

pub returns-then-len-tolerance : goal.returns-then-len-tolerance
unfolding explanation_of
returns-then-len-tolerance c =
    rw (c.no_tally.ensures, ← c.length-len.ensures, c.if-len-tolerance.true)

pub both-tally-requires : goal.both-tally-requires
both-tally-requires c = c.requires

pub returns : goal.returns
unfolding explanation_of
returns c =
    let t = tally_is _ _ _ _ c.length-len.ensures c.rays.ensures c.both-tally.ensures in
    rw (← c.length-len.ensures, c.if-len-tolerance.false, c.ground_by.ensures, ← t)
