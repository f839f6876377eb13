-- Misses of edges one after the other. Assumes nothing.
use Prim.Native.Nat.{ℕ, ◌+◌, ◌<◌}
use native.Mathlib.Omega.{arith}
use native.Mathlib.Decide.{dec_lt}
use mathlib.Core.Path.{◌≡◌, sym, ◌∙◌}
use mathlib.Core.List.{List}
use lib.Ieee.{Float}
use Rattle.plane.specs.declared.Point.{Point}
use Rattle.collision.specs.Ray.{edge_ray}
use Rattle.collision.specs.Chained.{MissesTo}
use Rattle.std.specs.Prelude.{Option, None}

pub none_missed : (es : List Float) (d : Point) (tol : Float) (o : Point) (from : ℕ) → MissesTo es d tol o from from
none_missed es d tol o from k l h = absurd (omega arith)

-- some edges more
pub more_missed : (es : List Float) (d : Point) (tol : Float) (o : Point) (from a b : ℕ) → MissesTo es d tol o from a → MissesTo es d tol o a b → MissesTo es d tol o from b
more_missed es d tol o from a b before on k l h = go (dec_lt k a)
  where
    go : Dec (k < a) → edge_ray o d es k tol ≡ None
    go (yes i) = before k l i
    go (no i) = on k (omega (arith, i)) h

pub one_missed : (es : List Float) (d : Point) (tol : Float) (o : Point) (e : ℕ) {r : Option Float} → r ≡ edge_ray o d es e tol → r ≡ None → MissesTo es d tol o e (e + 1)
one_missed es d tol o e er h k l m = let z : k ≡ e = omega arith in rw z (sym er ∙ h)
