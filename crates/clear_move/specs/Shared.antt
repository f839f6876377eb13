-- Which edges of a reason have the same line, and the text that lists them: ranges of their numbers. Definitions only.
use Rattle.std.specs.Prelude.{ℕ, zero, suc, ◌+◌, ◌*◌, Bool, false, ◌&&◌, cond, List, [], ◌∷◌, ◌++◌, eqb, ltb, get_or, ℤ, pos, negsuc}
use Rattle.laws.specs.Turns.{tally}
use Rattle.print.specs.Digits.{decimal}
use Rattle.reasons.specs.First.{first_from}

-- ---- the same line

unfoldable pub same_whole : ℤ → ℤ → Bool
same_whole (pos m) (pos n) = eqb m n
same_whole (pos m) (negsuc n) = false
same_whole (negsuc m) (pos n) = false
same_whole (negsuc m) (negsuc n) = eqb m n

-- numbers i and j of a list
abbrev pub same_number : List ℤ → ℕ → ℕ → Bool
same_number ls i j = same_whole (get_or ls i (pos 0)) (get_or ls j (pos 0))

-- edges i and j have the same four numbers
unfoldable pub same_line : List ℤ → ℕ → ℕ → Bool
same_line ls i j =
    same_number ls (4 * i) (4 * j)
    && (same_number ls (4 * i + 1) (4 * j + 1) && (same_number ls (4 * i + 2) (4 * j + 2) && same_number ls (4 * i + 3) (4 * j + 3)))

-- the first edge with the line of edge j
unfoldable pub owner : List ℤ → ℕ → ℕ
owner ls j = first_from (λ i. same_line ls i j) 0 j

-- ---- of m edges, `o k` being the first with the line of edge k

-- edge k has the line of edge j; so has the edge before it, and the one after it
abbrev pub has : (ℕ → ℕ) → ℕ → ℕ → Bool
has o j k = eqb (o k) j

unfoldable pub has_before : (ℕ → ℕ) → ℕ → ℕ → Bool
has_before o j zero = false
has_before o j (suc k) = has o j k

unfoldable pub has_after : (ℕ → ℕ) → ℕ → ℕ → ℕ → Bool
has_after o m j k = ltb (suc k) m && has o j (suc k)

-- how many lines there are: one for each edge that is the first with its own
abbrev pub line_count : (ℕ → ℕ) → ℕ → ℕ
line_count o m = tally (λ k. has o k k) m

-- ---- the edges of the line of edge j

-- a run of edges begins: its first, after a comma but for edge j itself
unfoldable pub start_text : ℕ → ℕ → List ℕ
start_text j k = cond (eqb k j) (decimal k) ((44 ∷ 32 ∷ []) ++ decimal k)

-- and ends: a hyphen and its last
abbrev pub end_text : ℕ → List ℕ
end_text k = (45 ∷ []) ++ decimal k

-- what is written of edge k where it has the line, and what is written of it
unfoldable pub run_text : (ℕ → ℕ) → ℕ → ℕ → ℕ → List ℕ
run_text o m j k = cond (has_before o j k) (cond (has_after o m j k) [] (end_text k)) (start_text j k)

unfoldable pub range_part : (ℕ → ℕ) → ℕ → ℕ → ℕ → List ℕ
range_part o m j k = cond (has o j k) (run_text o m j k) []

-- of the first so many edges
unfoldable pub ranges_to : (ℕ → ℕ) → ℕ → ℕ → ℕ → List ℕ
ranges_to o m j zero = []
ranges_to o m j (suc k) = ranges_to o m j k ++ range_part o m j k
