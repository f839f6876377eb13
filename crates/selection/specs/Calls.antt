-- What the call answers: the refusal of the list's length, or the vector chosen. Definitions only.
use Rattle.std.specs.Prelude.{ℕ, cond, List, length, eqb, Float, Option, Some, None}
use Rattle.plane.specs.declared.Point.{Point}
use Rattle.refusals.specs.Rows.{of_vectors}
use Rattle.refusals.specs.Answers.{Outcome, outcome}
use Rattle.selection.specs.Score.{preferred_of}
use Rattle.selection.specs.Select.{select_of}

-- an empty list gives nothing
unfoldable pub chosen_index : List Float → Option Point → Point → Point → Option ℕ
chosen_index vs previous centroid position = cond (eqb (length vs) 0) None (Some (select_of vs previous (preferred_of centroid position)))

abbrev pub select_call : List Float → Option Point → Point → Point → Outcome (Option ℕ)
select_call vs previous centroid position = outcome (of_vectors vs) (chosen_index vs previous centroid position)
