-- The tally can be counted on, and as many records are left as there are rounds. The comparison may be called again.
use Rattle.std.proofs.Common.{◌≡◌, ◌+◌}
use denote.Param.Always.{always_mut}
use Rattle.replay.specs.Tally.{Counted}
use Rattle.replay.proofs.run.Given as goal

abbrev pub invariant-loop : goal.invariant-loop
invariant-loop g l =
    (always_mut g.F.FnMut l.initial.agrees → always_mut g.F.FnMut l.agrees) × Counted l.tally × (l.tally.left + l.counter ≡ 1000000)
