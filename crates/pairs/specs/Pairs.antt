-- The pairs of two rings' elements, by their numbers in docs/SCOPE.md's scan order. Definitions only.
use Rattle.std.specs.Prelude.{ℕ, ◌*◌, ◌/◌, ◌%◌, ◌≤◌, ◌<◌, cond, eqb}
use Rattle.pairs.specs.declared.Pair.{Pair}

-- rings of 1 to 256 vertices: sn stationary ones, on orbiting ones
pub record Sides (sn on : ℕ) : Type 0 where
  pub stationary_some : 0 < sn
  pub stationary_most : sn ≤ 256
  pub orbiting_some : 0 < on
  pub orbiting_most : on ≤ 256

-- a pair of those rings
pub record Within (sn on : ℕ) (p : Pair) : Type 0 where
  pub kind_below : p.kind < 3
  pub stationary_below : p.stationary < sn
  pub orbiting_below : p.orbiting < on

abbrev pub pair : ℕ → ℕ → ℕ → Pair
pair kd s o = record { kind = kd; stationary = s; orbiting = o }

-- as many of each of the three kinds
abbrev pub pair_count : ℕ → ℕ → ℕ
pair_count sn on = 3 * (sn * on)

-- those of a vertex and an edge, kinds 0 and 1, come first
abbrev pub vertex_pairs : ℕ → ℕ → ℕ
vertex_pairs sn on = 2 * (sn * on)

-- pair k: of kind 0 the stationary edges of one orbiting vertex after the other, of kinds 1 and 2 the orbiting edges of one stationary
-- vertex or edge after the other
unfoldable pub pair_of : ℕ → ℕ → ℕ → Pair
pair_of sn on k =
    let kd = k / (sn * on) in
    let r = k % (sn * on) in
    cond (eqb kd 0) (pair kd (r % sn) (r / sn)) (pair kd (r / on) (r % on))
