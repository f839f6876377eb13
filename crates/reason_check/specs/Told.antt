-- The answer of the code as that of the definition. Definitions only.
use Rattle.reasons.specs.Check as found
use Rattle.reason_check.specs.declared.Ground.{Ground}
use Rattle.reason_check.specs.declared.Ground.TheVariants.{Clear, Edge, Enclosed}

abbrev pub ground : Ground → found.Ground
ground Clear = found.clear
ground (Edge j) = found.edge j
ground Enclosed = found.enclosed
