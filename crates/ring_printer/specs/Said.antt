-- What is printed for a book: every byte. Definitions only.
use Rattle.std.specs.Prelude.{ℕ, zero, suc, ◌*◌, cond, List, [], ◌∷◌, ◌++◌, length, get_or, take, drop, Float}
use Rattle.print.specs.Digits.{decimal}
use Rattle.print.specs.Text.{newline}
use Rattle.lines.specs.Lines.{refusal_line, point_lines}
use Rattle.refusals.specs.Refusals.{passed}
use Rattle.refusals.specs.Rings.{total}
use Rattle.book_layout.specs.Layout.{counts_of, parts_of}
use Rattle.book_layout.specs.Faults.{book_check}
use Rattle.book_layout.specs.Reader.{numbers_of}

-- "rings " and how many
unfoldable pub rings_line : ℕ → List ℕ
rings_line k = (114 ∷ 105 ∷ 110 ∷ 103 ∷ 115 ∷ 32 ∷ []) ++ (decimal k ++ newline)

-- "ring " and which, " vertices " and how many, " part " and its number
unfoldable pub ring_line : ℕ → ℕ → ℕ → List ℕ
ring_line i n p =
    (114 ∷ 105 ∷ 110 ∷ 103 ∷ 32 ∷ [])
    ++ (decimal i
    ++ ((32 ∷ 118 ∷ 101 ∷ 114 ∷ 116 ∷ 105 ∷ 99 ∷ 101 ∷ 115 ∷ 32 ∷ [])
    ++ (decimal n ++ ((32 ∷ 112 ∷ 97 ∷ 114 ∷ 116 ∷ 32 ∷ []) ++ (decimal p ++ newline)))))

-- ring i, of n vertices and part p
abbrev pub ring_text : ℕ → ℕ → ℕ → List Float → List ℕ
ring_text i n p ring = ring_line i n p ++ point_lines ring n

-- the first k rings of these vertex counts and parts, which lie in a list one after the other
unfoldable pub ring_texts : List ℕ → List ℕ → List Float → ℕ → List ℕ
ring_texts ns ps xs zero = []
ring_texts ns ps xs (suc i) =
    let n = get_or ns i 0 in
    ring_texts ns ps xs i ++ ring_text i n (get_or ps i 0) (take (2 * n) (drop (2 * total (take i ns)) xs))

-- the rings of these vertex counts and parts
abbrev pub rings_text : List ℕ → List ℕ → List Float → List ℕ
rings_text ns ps xs = rings_line (length ns) ++ ring_texts ns ps xs (length ns)

-- a book: its rings, or its fault
unfoldable pub book_text : List ℕ → List ℕ
book_text f = cond (passed (book_check f)) (rings_text (counts_of f) (parts_of f) (numbers_of f)) (refusal_line (book_check f))
