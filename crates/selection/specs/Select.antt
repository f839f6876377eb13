-- The scan for the greatest score. Definitions only.
use Rattle.std.specs.Prelude.{ℕ, ◌+◌, ◌*◌, ◌/◌, Bool, true, List, length, get_or, Float, Option}
use Rattle.std.specs.Float.{nan, inf}
use Rattle.std.specs.Float.Ieee.{lt}
use Rattle.plane.specs.Vector.{point}
use Rattle.plane.specs.declared.Point.{Point}
use Rattle.laws.specs.FirstBest.{better, over}
use Rattle.selection.specs.Score.{score_of}
use Rattle.vectors.specs.declared.TranslationVector.{TranslationVector}
use Rattle.selection.specs.declared.Scored.{Scored}

-- how many vectors
abbrev pub vector_count : List Float → ℕ
vector_count vs = length vs / 3

-- vector i
unfoldable pub vector_at : List Float → ℕ → TranslationVector
vector_at vs i = record { direction = point (get_or vs (3 * i) nan) (get_or vs (3 * i + 1) nan); distance = get_or vs (3 * i + 2) nan }

-- the score of vector i
unfoldable pub score_at : List Float → Option Point → Point → ℕ → Float
score_at vs previous ccw i = score_of (vector_at vs i) previous ccw

abbrev pub scored : ℕ → Float → Scored
scored i s = record { index = i; score = s }

unfoldable pub scored_at : List Float → Option Point → Point → ℕ → Scored
scored_at vs previous ccw i = scored i (score_at vs previous ccw i)

-- a strictly greater score
abbrev pub above : Scored → Scored → Bool
above new best = lt best.score new.score

abbrev pub kept_score : Scored → Scored → Scored
kept_score best new = better above best new

-- index 0, -infinity
unfoldable pub unscored : Scored
unscored = scored 0 (inf true)

unfoldable pub select_of : List Float → Option Point → Point → ℕ
select_of vs previous ccw = (over above (scored_at vs previous ccw) unscored (vector_count vs)).index
