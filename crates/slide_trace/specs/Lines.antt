-- The lines that are printed, as bytes. Definitions only.
use Rattle.std.specs.Prelude.{ℕ, ◌*◌, ◌≤◌, List, [], ◌∷◌, ◌++◌, Float, Result, Ok, Err}
use Rattle.print.specs.Digits.{decimal}
use Rattle.print.specs.Text.{newline}
use Rattle.lines.specs.Lines.{refusal_line, point_lines}
use Rattle.nfp_sliding.specs.Calls.{untraced, refusal_of}
use Rattle.nfp_sliding.specs.declared.answer.Trace.{Trace}
use Rattle.nfp_sliding.specs.declared.answer.Untraced.{Untraced}

-- "path " and the points, " passes " and the passes, " stop " and the stop reason
unfoldable pub heading_line : ℕ → ℕ → ℕ → List ℕ
heading_line points passes stop =
    (112 ∷ 97 ∷ 116 ∷ 104 ∷ 32 ∷ [])
    ++ (decimal points
    ++ ((32 ∷ 112 ∷ 97 ∷ 115 ∷ 115 ∷ 101 ∷ 115 ∷ 32 ∷ [])
    ++ (decimal passes ++ ((32 ∷ 115 ∷ 116 ∷ 111 ∷ 112 ∷ 32 ∷ []) ++ (decimal stop ++ newline)))))

-- the heading and the points
abbrev pub path_text : ℕ → ℕ → ℕ → List Float → List ℕ
path_text points passes stop xs = heading_line points passes stop ++ point_lines xs points

-- what a trace answered, with the points of the result at the front of a list
abbrev pub answer_text : Result Trace Untraced → List Float → List ℕ
answer_text (Ok t) xs = path_text t.points t.passes t.stop xs
answer_text (Err e) xs = refusal_line (refusal_of (untraced e))

-- the points are in a list of so many numbers
abbrev pub InList : Result Trace Untraced → ℕ → Type 0
InList (Ok t) n = 2 * t.points ≤ n
InList (Err e) n = Unit
