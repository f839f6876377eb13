use mathlib.Core.Path.{◌≡◌}
use lib.ListN.{length}
use Rattle.reason_search.specs.Noted.{Ready}
use Rattle.reason_search.proofs.Laying.{Laid}
use Rattle.reason_search.proofs.lay.Given as goal

abbrev pub invariant-loop-j : goal.invariant-loop-j
invariant-loop-j l =
    Laid l.st l.a l.b l.initial.lines l.lines l.l l.j × Ready l.a l.b l.flags × (length l.flags ≡ length l.initial.flags)
