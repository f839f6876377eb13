-- The vector that a pass slides along. Definitions only.
use Rattle.std.specs.Prelude.{ℕ, zero, suc, Bool, true, false, cond, List, [], ◌∷◌, eqb, Option, Some, None, Float}
use Rattle.std.specs.Float.{inf}
use Rattle.std.specs.Float.Ieee.{lt}
use Rattle.scalar.specs.Float.{f0}
use Rattle.plane.specs.Vector.{point}
use Rattle.plane.specs.declared.Point.{Point}
use Rattle.vectors.specs.Vectors.{Sourced, vector, vector_numbers}
use Rattle.vectors.specs.declared.TranslationVector.{TranslationVector}
use Rattle.vectors.specs.Courses.{vector_is}
use Rattle.selection.specs.Score.{score_of}
use Rattle.selection.specs.Select.{select_of}
use Rattle.choose.specs.declared.Best.{Best}

-- vector i of a list, where it has one
unfoldable pub vector_no : List Sourced → ℕ → Option TranslationVector
vector_no [] i = None
vector_no (s ∷ ss) zero = Some s.slide
vector_no (s ∷ ss) (suc i) = vector_no ss i

-- the one whose index selection answers
unfoldable pub choice_of : List Sourced → Option Point → Point → Option TranslationVector
choice_of vs previous ccw = vector_no vs (select_of (vector_numbers vs) previous ccw)

-- the best vector so far and its score, where one is found
pub record Standing : Type 0 where
  pub found : Bool
  pub score : Float
  pub best : TranslationVector

abbrev pub stands : Bool → Float → TranslationVector → Standing
stands f s v = record { found = f; score = s; best = v }

abbrev pub standing : Best → Standing
standing b = stands (eqb b.found 1) b.score (vector_is b.course)

-- none is found
unfoldable pub unset : Standing
unset = stands false (inf true) (vector (point f0 f0) f0)

-- of the best so far and a vector: only a strictly greater score replaces, but the first is always taken
unfoldable pub raised : Option Point → Point → Standing → TranslationVector → Standing
raised previous ccw b v =
    let s = score_of v previous ccw in
    cond (lt b.score s) (stands true s v) (cond b.found b (stands true b.score v))

-- the same of a vector of which a test holds
unfoldable pub weigh_of : (TranslationVector → Bool) → Option Point → Point → Standing → TranslationVector → Standing
weigh_of keep previous ccw b v = cond (keep v) (raised previous ccw b v) b

-- the same in two steps: what a vector makes of the best, by whether one is found and its score, and what the best is then
unfoldable pub raised_by : Bool → Float → Float → Option Float
raised_by found top s = cond (lt top s) (Some s) (cond found None (Some top))

unfoldable pub weighed_by : (TranslationVector → Bool) → Option Point → Point → Bool → Float → TranslationVector → Option Float
weighed_by keep previous ccw found top v = cond (keep v) (raised_by found top (score_of v previous ccw)) None

unfoldable pub taken_by : Option Float → Standing → TranslationVector → Standing
taken_by None b v = b
taken_by (Some s) b v = stands true s v

-- the best so far, and the vectors of a list
unfoldable pub climb_of : Option Point → Point → Standing → List Sourced → Standing
climb_of previous ccw b [] = b
climb_of previous ccw b (s ∷ ss) = climb_of previous ccw (raised previous ccw b s.slide) ss
