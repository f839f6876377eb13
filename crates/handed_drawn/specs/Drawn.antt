-- What exported answers about drawn moves write to their cells, by the outcome of the call. Definitions only.
use Rattle.std.specs.Prelude.{ℕ, Option, None, Some}
use Rattle.refusals.specs.Answers.{Outcome, answers, refuses}
use Rattle.drawn_aside.specs.Found.{Least, clear_by, edge_first, enclosed_by, depth_of}
use Rattle.clear_drawn_path.specs.declared.PathFound.{PathFound}
use Rattle.clear_drawn_path.specs.declared.PathFound.TheVariants.{Clear, Edge, Enclosed}

-- a part of an answer that not every answer has
abbrev pub part_in : {A B : Type 0} → (A → Option B) → Outcome A → Outcome (Option B)
part_in f (answers a) = answers (f a)
part_in f (refuses r) = refuses r

-- 0 clear, 1 an edge, 2 enclosed
unfoldable pub least_ground : Least → ℕ
least_ground (clear_by how) = 0
least_ground (edge_first j) = 1
least_ground (enclosed_by how) = 2

-- with 0 and 2 the depth and how the disc was put, with 1 the edge
unfoldable pub least_depth : Least → Option ℕ
least_depth (clear_by how) = Some (depth_of how)
least_depth (edge_first j) = None
least_depth (enclosed_by how) = Some (depth_of how)

unfoldable pub least_put : Least → Option ℕ
least_put (clear_by how) = Some how
least_put (edge_first j) = None
least_put (enclosed_by how) = Some how

unfoldable pub least_edge : Least → Option ℕ
least_edge (clear_by how) = None
least_edge (edge_first j) = Some j
least_edge (enclosed_by how) = None

-- of a path: with 0 the depth, with 1 and 2 the first leg that is not clear, with 1 the edge
unfoldable pub path_ground : PathFound → ℕ
path_ground (Clear depth) = 0
path_ground (Edge leg edge) = 1
path_ground (Enclosed leg) = 2

unfoldable pub path_depth : PathFound → Option ℕ
path_depth (Clear depth) = Some depth
path_depth (Edge leg edge) = None
path_depth (Enclosed leg) = None

unfoldable pub path_leg : PathFound → Option ℕ
path_leg (Clear depth) = None
path_leg (Edge leg edge) = Some leg
path_leg (Enclosed leg) = Some leg

unfoldable pub path_edge : PathFound → Option ℕ
path_edge (Clear depth) = None
path_edge (Edge leg edge) = Some edge
path_edge (Enclosed leg) = None
