-- `reason_search::note` meets its contract. The invariant: the flags of the first c lines stand. Assumes nothing.
use native.Mathlib.Omega.{arith}
use mathlib.Core.Path.{◌≡◌}
use Rattle.std.proofs.Common.{rules}
use Rattle.reasons.specs.Crossing.{one}
use Rattle.reason_search.proofs.Flags.{start, turn}
use Rattle.reason_search.proofs.note.Goals as goal

pub loop-c-init : goal.loop-c-init
loop-c-init c = start _ _ _

pub loop-c-preserved : goal.loop-c-preserved
loop-c-preserved c =
    let flag : c.from.result ≡ one c.is_useful.result = search rules in
    turn _ _ _ c.loop-c.invariant c.requires.1 c.loop-c-test.true c.is_useful.ensures flag

pub returns : goal.returns
returns c = λ i l. c.loop-c.invariant.noted i (omega (arith, c.loop-c-test.false))
