use Prim.Native.Nat.{◌*◌, ◌-◌, ◌≤◌}
use mathlib.Core.Path.{◌≡◌}
use lib.ListN.{length}
use Rattle.pass_run.specs.Run.{run_of}
use Rattle.pass.specs.Pass.{scene}
use Rattle.pass_run.proofs.run.run.Given as goal

abbrev pub invariant-loop-passes : goal.invariant-loop-passes
invariant-loop-passes l =
    (length l.room ≡ length l.initial.room)
    × (2 * l.state.stored ≤ length l.room)
    × (run_of (scene l.stationary l.orbiting l.margins l.centroid l.start) l.limit 0 l.initial.state l.initial.room ≡ run_of (scene l.stationary l.orbiting l.margins l.centroid l.start) (l.limit - l.passes) l.passes l.state l.room)
    × (length l.moved ≡ length l.initial.moved)
