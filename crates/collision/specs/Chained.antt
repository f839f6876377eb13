-- What the scan by chains of edges goes by. Definitions only.
use Rattle.std.specs.Prelude.{ℕ, ◌≤◌, ◌<◌, ◌≡◌, List, length, T, None, Float}
use Rattle.std.specs.Float.Ieee.{le}
use Rattle.scalar.specs.Float.{f0·5}
use Rattle.plane.specs.declared.Point.{Point}
use Rattle.ring.specs.Ring.{count}
use Rattle.chains.specs.Chain.{Tabled}
use Rattle.collision.specs.Ray.{edge_ray}
use Rattle.collision.specs.declared.Sweep.{Sweep}

-- the ray from o along d misses the edges from one on and below another
abbrev pub MissesTo : List Float → Point → Float → Point → ℕ → ℕ → Type 0
MissesTo es d tol o from to = (k : ℕ) → from ≤ k → k < to → edge_ray o d es k tol ≡ None

-- few enough edges and a small enough tolerance for chains
pub record Few (es : List Float) (w : Sweep) : Type 0 where
  pub edges : count es ≤ 256
  pub near : T (le w.tolerance f0·5)

-- a table has the chains of all edges for the sweep's rays
pub record Ready (table es : List Float) (w : Sweep) : Type 0 where
  pub few : Few es w
  pub room : 192 ≤ length table
  pub chains : Tabled table w.dir es (count es)
