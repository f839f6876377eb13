-- `selection::select` meets its contract. The invariant: the first i vectors are scored. Assumes nothing.
use native.Mathlib.Omega.{arith}
use Prim.Native.Nat.{ℕ, ◌+◌}
use mathlib.Core.Path.{◌≡◌, ap, ◌∙◌}
use mathlib.Core.List.{List}
use lib.Ieee.{Float}
use Rattle.std.specs.Prelude.{Option}
use Rattle.plane.specs.declared.Point.{Point}
use Rattle.laws.specs.FirstBest.{over}
use Rattle.laws.proofs.FirstBest.{over_turn}
use Rattle.selection.specs.Score.{score_of}
use Rattle.selection.specs.Select.{vector_at, score_at, scored, scored_at, above, kept_score, unscored, select_of}
use Rattle.vectors.specs.declared.TranslationVector.{TranslationVector}
use Rattle.selection.specs.declared.Scored.{Scored}
use Rattle.selection.proofs.select.Goals as goal

-- one vector more
turn : (vs : List Float) (previous : Option Point) (ccw : Point) (i : ℕ) {best new : Scored} {v : TranslationVector} {s : Float}
    → best ≡ over above (scored_at vs previous ccw) unscored i → v ≡ vector_at vs i → s ≡ score_of v previous ccw → new ≡ kept_score best (scored i s)
    → new ≡ over above (scored_at vs previous ccw) unscored (i + 1)
unfolding scored_at score_at
turn vs previous ccw i h ev es e = over_turn above _ _ _ h (rw (es, ev)) e

pub loop-i-init : goal.loop-i-init
unfolding over
loop-i-init c = c.start-best.ensures

pub loop-i-preserved : goal.loop-i-preserved
loop-i-preserved c =
    turn _ _ _ _ c.loop-i.invariant c.vector_at.ensures c.score-s.ensures c.keep-best.ensures

pub returns : goal.returns
unfolding select_of
returns c = ap (λ (b : Scored). b.index) (c.loop-i.invariant ∙ ap (over above _ _) (omega arith))
