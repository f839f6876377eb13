-- The first leg of a path that is not clear, and else the depth of all. Definitions only.
use Rattle.std.specs.Prelude.{ℕ, zero, suc, ◌-◌, max, Bool, cond}
use Rattle.drawn_aside.specs.Found.{Least, clear_by, edge_first, enclosed_by, depth_of}
use Rattle.clear_drawn_path.specs.declared.PathFound.{PathFound}
use Rattle.clear_drawn_path.specs.declared.PathFound.TheVariants.{Clear, Edge, Enclosed}

-- of so many points: as many legs where the path is closed, and else one less
abbrev pub leg_count : ℕ → Bool → ℕ
leg_count points closed = cond closed points (points - 1)

-- a leg that is clear to this depth, and what is found of the others
unfoldable pub deepened : ℕ → PathFound → PathFound
deepened depth (Clear d) = Clear (max depth d)
deepened depth (Edge leg edge) = Edge leg edge
deepened depth (Enclosed leg) = Enclosed leg

-- the leg i, by what is found there, and what follows
unfoldable pub leg_then : Least → ℕ → PathFound → PathFound
leg_then (clear_by how) i rest = deepened (depth_of how) rest
leg_then (edge_first j) i rest = Edge i j
leg_then (enclosed_by how) i rest = Enclosed i

-- so many legs, from k on
unfoldable pub legs_from : (ℕ → Least) → ℕ → ℕ → PathFound
legs_from f k zero = Clear 0
legs_from f k (suc more) = leg_then (f k) k (legs_from f (suc k) more)
