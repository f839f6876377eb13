-- What exported answers about whole moves write to their cells, by the outcome of the call. Definitions only.
use Rattle.std.specs.Prelude.{ℕ, Option, None, Some}
use Rattle.refusals.specs.Answers.{Outcome, answers, refuses}
use Rattle.reasons.specs.Check.{Ground, clear, edge, enclosed}
use Rattle.clear_path.specs.declared.PathGround.{PathGround}
use Rattle.clear_path.specs.declared.PathGround.TheVariants.{Clear, Edge, Enclosed}

-- 0 clear, 1 an edge, 2 enclosed
unfoldable pub move_ground : Ground → ℕ
move_ground clear = 0
move_ground (edge j) = 1
move_ground enclosed = 2

-- the edge
unfoldable pub edge_of : Ground → Option ℕ
edge_of clear = None
edge_of (edge j) = Some j
edge_of enclosed = None

abbrev pub edge_in : Outcome Ground → Outcome (Option ℕ)
edge_in (answers g) = answers (edge_of g)
edge_in (refuses r) = refuses r

-- of a path the same, with the first leg that is not clear
unfoldable pub leg_ground : PathGround → ℕ
leg_ground Clear = 0
leg_ground (Edge i j) = 1
leg_ground (Enclosed i) = 2

unfoldable pub leg_of : PathGround → Option ℕ
leg_of Clear = None
leg_of (Edge i j) = Some i
leg_of (Enclosed i) = Some i

unfoldable pub leg_edge_of : PathGround → Option ℕ
leg_edge_of Clear = None
leg_edge_of (Edge i j) = Some j
leg_edge_of (Enclosed i) = None

abbrev pub leg_in : Outcome PathGround → Outcome (Option ℕ)
leg_in (answers g) = answers (leg_of g)
leg_in (refuses r) = refuses r

abbrev pub leg_edge_in : Outcome PathGround → Outcome (Option ℕ)
leg_edge_in (answers g) = answers (leg_edge_of g)
leg_edge_in (refuses r) = refuses r
