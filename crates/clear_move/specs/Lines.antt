-- The lines that are printed, as bytes. Definitions only.
use Rattle.std.specs.Prelude.{ℕ, zero, suc, ◌*◌, ◌+◌, cond, List, [], ◌∷◌, ◌++◌, get_or, ℤ, pos, negsuc}
use Rattle.print.specs.Digits.{decimal}
use Rattle.print.specs.Text.{space, newline}
use Rattle.lines.specs.Lines.{refusal_line}
use Rattle.refusals.specs.Answers.{Outcome, answers, refuses}
use Rattle.reasons.specs.Check.{Ground, clear, edge, enclosed}
use Rattle.clear_move.specs.Shared.{owner, has, line_count, ranges_to}

-- a whole number in decimal digits, with a minus before one below zero
unfoldable pub signed : ℤ → List ℕ
signed (pos n) = decimal n
signed (negsuc n) = 45 ∷ decimal (suc n)

-- number i of a list, and what follows it
abbrev pub field : List ℤ → ℕ → List ℕ → List ℕ
field ls i after = signed (get_or ls i (pos 0)) ++ after

-- the line of edge j: p.x p.y q.x q.y of a reason's numbers
unfoldable pub reason_line : List ℤ → ℕ → List ℕ
reason_line ls j =
    field ls (4 * j) space ++ (field ls (4 * j + 1) space ++ (field ls (4 * j + 2) space ++ field ls (4 * j + 3) newline))

-- "edges ", which they are of m edges, ": ", and the line of edge j
unfoldable pub shared_line : (ℕ → ℕ) → List ℤ → ℕ → ℕ → List ℕ
shared_line o ls m j =
    (101 ∷ 100 ∷ 103 ∷ 101 ∷ 115 ∷ 32 ∷ []) ++ (ranges_to o m j m ++ ((58 ∷ 32 ∷ []) ++ reason_line ls j))

-- this where edge j is the first with its line
unfoldable pub first_line : (ℕ → ℕ) → List ℤ → ℕ → ℕ → List ℕ
first_line o ls m j = cond (has o j j) (shared_line o ls m j) []

-- those of the first so many edges
unfoldable pub shared_lines : (ℕ → ℕ) → List ℤ → ℕ → ℕ → List ℕ
shared_lines o ls m zero = []
shared_lines o ls m (suc k) = shared_lines o ls m k ++ first_line o ls m k

-- "clear lines ", how many, and each line once
unfoldable pub lines_text : (ℕ → ℕ) → List ℤ → ℕ → List ℕ
lines_text o ls m =
    (99 ∷ 108 ∷ 101 ∷ 97 ∷ 114 ∷ 32 ∷ 108 ∷ 105 ∷ 110 ∷ 101 ∷ 115 ∷ 32 ∷ [])
    ++ (decimal (line_count o m) ++ (newline ++ shared_lines o ls m m))

abbrev pub clear_text : List ℤ → ℕ → List ℕ
clear_text ls m = lines_text (owner ls) ls m

-- "edge " and its index
unfoldable pub edge_line : ℕ → List ℕ
edge_line j = (101 ∷ 100 ∷ 103 ∷ 101 ∷ 32 ∷ []) ++ (decimal j ++ newline)

-- "enclosed"
abbrev pub enclosed_line : List ℕ
enclosed_line = 101 ∷ 110 ∷ 99 ∷ 108 ∷ 111 ∷ 115 ∷ 101 ∷ 100 ∷ 10 ∷ []

-- what the call answers, with the reason's numbers of m edges
unfoldable pub ground_text : Ground → List ℤ → ℕ → List ℕ
ground_text clear ls m = clear_text ls m
ground_text (edge j) ls m = edge_line j
ground_text enclosed ls m = enclosed_line

unfoldable pub judged_text : Outcome Ground → List ℤ → ℕ → List ℕ
judged_text (answers g) ls m = ground_text g ls m
judged_text (refuses r) ls m = refusal_line r
