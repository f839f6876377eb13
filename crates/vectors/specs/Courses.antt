-- The vector that a course is. Definitions only.
use Rattle.std.specs.Prelude.{ℕ, cond, eqb, Float}
use Rattle.scalar.specs.Float.{◌⊕◌, float}
use Rattle.plane.specs.Vector.{length_of}
use Rattle.plane.specs.declared.Point.{Point}
use Rattle.contacts.specs.declared.Edges.{Edges}
use Rattle.vectors.specs.Vectors.{vector, direction_of}
use Rattle.vectors.specs.declared.TranslationVector.{TranslationVector}
use Rattle.vectors.specs.declared.course.Course.{Course}

-- 1.5
abbrev pub f1·5 : Float
f1·5 = float 0x3ff8_0000_0000_0000

unfoldable pub vector_is : Course → TranslationVector
vector_is c = vector c.direction (cond (eqb c.gaps 1) (length_of c.first) (length_of c.first ⊕ length_of c.second))

-- along the orbiting edge of kind 1, and else along the stationary one
unfoldable pub along_by : ℕ → Edges → Point
along_by kd e = cond (eqb kd 1) (direction_of e.c e.d) (direction_of e.a e.b)
