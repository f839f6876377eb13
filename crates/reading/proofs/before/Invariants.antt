use mathlib.Core.Path.{◌≡◌}
use lib.ListN.{drop}
use Rattle.reading.specs.Reading.{flat, less, earlier, choice}
use Rattle.reading.specs.Lent.{ring_of}
use Rattle.reading.proofs.before.Given as goal

abbrev pub invariant-loop-j : goal.invariant-loop-j
invariant-loop-j l =
    let p = choice (ring_of l.ring) l.a in
    let q = choice (ring_of l.ring) l.b in
    earlier p q ≡ less (drop l.j (flat p)) (drop l.j (flat q))
