-- The theorem of the choice: the first of the greatest scores, NaN passed over, and index 0 where no score is above -infinity. Assumes nothing.
use Prim.Native.Nat.{ℕ}
use mathlib.Core.Path.{◌≡◌, refl}
use mathlib.Core.Bool.{Bool, true, false}
use mathlib.Core.List.{List}
use lib.Ieee.{Float, inf, lt, is_nan}
use Rattle.std.specs.Prelude.{Option}
use Rattle.plane.specs.declared.Point.{Point}
use Rattle.laws.specs.FirstBest.{First, none, some}
use Rattle.laws.proofs.Order.{lt_irrefl, lt_asym}
use Rattle.laws.proofs.FirstBest.{over_first}
use Rattle.selection.specs.Select.{vector_count, score_at, scored_at, above, unscored, select_of}
use Rattle.selection.specs.Chosen.{Chosen, greatest}
use Rattle.selection.specs.Chosen as chosen_is
use Rattle.selection.specs.declared.Scored.{Scored}
use Rattle.selection.proofs.Above.{least, below, weave}

module _ (vs : List Float) (previous : Option Point) (ccw : Point) where
  chosen : (n : ℕ) (r : Scored) → First above (scored_at vs previous ccw) unscored n r → Chosen (score_at vs previous ccw) n r.index
  unfolding scored_at unscored
  chosen n r (none z all) = rw z (chosen_is.none all)
  chosen n r (some k l q h first most) =
      rw q
      (greatest l h most (λ j before n. smaller j n (lt (inf true) (score_at vs previous ccw j)) refl (first j before)))
    where
      smaller : (j : ℕ) → is_nan (score_at vs previous ccw j) ≡ false → (b : Bool) → lt (inf true) (score_at vs previous ccw j) ≡ b
          → (lt (inf true) (score_at vs previous ccw j) ≡ true → lt (score_at vs previous ccw j) (score_at vs previous ccw k) ≡ true)
          → lt (score_at vs previous ccw j) (score_at vs previous ccw k) ≡ true
      smaller j n true e f = f e
      smaller j n false e f = below _ _ n e h

  -- the theorem
  pub select_chosen : Chosen (score_at vs previous ccw) (vector_count vs) (select_of vs previous ccw)
  unfolding select_of unscored
  select_chosen =
      chosen (vector_count vs) _
      (over_first above (scored_at vs previous ccw) unscored
      (λ x y j t h k. weave x.score y.score (scored_at vs previous ccw j).score t h k)
      (λ x. lt_irrefl x.score)
      (λ x y h. lt_asym y.score x.score h)
      (λ x y h t. least x.score y.score h)
      (vector_count vs))
