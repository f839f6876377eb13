-- The score of a translation vector, in the order of operations of `nfp_sliding.rs`. Definitions only.
use Rattle.std.specs.Prelude.{cond, Float, Option, Some, None}
use Rattle.std.specs.Float.Ieee.{lt, neg}
use Rattle.scalar.specs.Float.{◌⊕◌, ◌⊖◌, ◌⊗◌, float, f0·5, f1e_6}
use Rattle.plane.specs.Vector.{point, minus_of, dot_of, normalize_of}
use Rattle.plane.specs.declared.Point.{Point}
use Rattle.vectors.specs.declared.TranslationVector.{TranslationVector}

-- 100.0
abbrev pub f100 : Float
f100 = float 0x4059_0000_0000_0000

-- at right angles to the way from the centroid to the position, counter-clockwise
unfoldable pub preferred_of : Point → Point → Point
preferred_of centroid position =
    let radial = normalize_of (minus_of position centroid) in
    point (neg radial.y) radial.x

-- the bonus for going on as before
unfoldable pub continued_of : Float → Point → Option Point → Float
continued_of s d None = s
continued_of s d (Some p) = s ⊕ f0·5 ⊗ dot_of d p

unfoldable pub score_of : TranslationVector → Option Point → Point → Float
score_of v previous ccw =
    let s = continued_of (dot_of v.direction ccw) v.direction previous in
    cond (lt v.distance f1e_6) (s ⊖ f100) s
