-- What the call answers is what the theorem of the choice demands: an index is the first of the greatest scores, and
-- nothing is answered for an empty list alone. Assumes nothing.
use Prim.Native.Nat.{ℕ}
use native.Mathlib.Omega.{arith}
use mathlib.Core.Path.{◌≡◌, refl}
use mathlib.Core.Bool.{Bool, true, false, cond}
use mathlib.Core.List.{List}
use lib.ListN.{length}
use lib.Dec.{eqb}
use lib.Ieee.{Float}
use borrow.Author.Tests.{eqb-true}
use Rattle.std.specs.Prelude.{Option, Some, None, Ok}
use Rattle.plane.specs.declared.Point.{Point}
use Rattle.refusals.specs.Refusals.{passed}
use Rattle.refusals.specs.Rows.{of_vectors}
use Rattle.refusals.specs.Answers.{Outcome, answers, refuses, answered}
use Rattle.selection.specs.Score.{preferred_of}
use Rattle.selection.specs.Select.{vector_count, score_at, select_of}
use Rattle.selection.specs.Chosen.{Chosen}
use Rattle.selection.specs.Calls.{chosen_index, select_call}
use Rattle.selection.proofs.Greatest.{select_chosen}

module _ (vs : List Float) (previous : Option Point) (centroid position : Point) where
  abbrev ccw : Point
  ccw = preferred_of centroid position

  pub answer_chosen : (i : ℕ) → answered (Ok (Some i)) ≡ select_call vs previous centroid position → Chosen (score_at vs previous ccw) (vector_count vs) i
  unfolding chosen_index
  answer_chosen i h = go (passed (of_vectors vs)) (eqb (length vs) 0) h
    where
      go : (a b : Bool) → answers (Some i) ≡ cond a (answers (cond b None (Some (select_of vs previous ccw)))) (refuses (of_vectors vs))
          → Chosen (score_at vs previous ccw) (vector_count vs) i
      go true true e = absurd (let z : ◌≡◌ {A = ℕ} 0 1 = cc in omega arith)
      go true false e = let q : i ≡ select_of vs previous ccw = cc in rw q (select_chosen vs previous ccw)
      go false b e = absurd (let z : ◌≡◌ {A = ℕ} 0 1 = cc in omega arith)

  pub answer_nothing : answered {A = Option ℕ} (Ok None) ≡ select_call vs previous centroid position → length vs ≡ 0
  unfolding chosen_index
  answer_nothing h = go (passed (of_vectors vs)) (eqb (length vs) 0) refl h
    where
      go : (a b : Bool) → eqb (length vs) 0 ≡ b
          → ◌≡◌ {A = Outcome (Option ℕ)} (answers None) (cond a (answers (cond b None (Some (select_of vs previous ccw)))) (refuses (of_vectors vs)))
          → length vs ≡ 0
      go true true q e = eqb-true (length vs) 0 q
      go true false q e = absurd (let z : ◌≡◌ {A = ℕ} 0 1 = cc in omega arith)
      go false b q e = absurd (let z : ◌≡◌ {A = ℕ} 0 1 = cc in omega arith)
