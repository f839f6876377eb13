-- The search for a reason: for each edge the line of the edge before, or else the first line that parts it from the way, and then
-- the balance. All lists hold x, y, x, y .. moved up: st the stationary corners, a the orbiting ones at the start, b at the end.
-- Definitions only.
use Rattle.std.specs.Prelude.{ℕ, zero, suc, ◌+◌, ◌*◌, ◌/◌, Bool, not, cond, List, length, Option, Some, None}
use Rattle.shifted.specs.Shifted.{spot_at}
use Rattle.shifted.specs.declared.Spot.{Spot}
use Rattle.reasons.specs.Parting.{parts}
use Rattle.reasons.specs.Lowest.{lowest}
use Rattle.reasons.specs.First.{first_from}
use Rattle.reasons.specs.Check.{Ground, balance, judged, corner}
use Rattle.reason_search.specs.Lines.{line_of}
use Rattle.reason_search.specs.declared.Line.{Line}

-- ---- the edge from s to t

-- the line parts it from the way
abbrev pub parts_by : List ℕ → List ℕ → Spot → Spot → Line → Bool
parts_by a b s t l = parts (spot_at a) (spot_at b) (length a / 2) s t l.p l.q

-- a line where it does
abbrev pub parting : List ℕ → List ℕ → Spot → Spot → Line → Option Line
parting a b s t l = cond (parts_by a b s t l) (Some l) None

-- line k, and how many there are
abbrev pub line_for : List ℕ → List ℕ → Spot → Spot → ℕ → Line
line_for a b s t k = line_of (spot_at a) (spot_at b) (length a / 2) s t k

abbrev pub tried : List ℕ → ℕ
tried a = 6 + 6 * (length a / 2)

-- the first of them that parts it, or the number after the last
unfoldable pub first_line : List ℕ → List ℕ → Spot → Spot → ℕ
first_line a b s t = first_from (λ k. parts_by a b s t (line_for a b s t k)) 0 (tried a)

-- that line, and the last of them where none does
abbrev pub anew : List ℕ → List ℕ → Spot → Spot → Line
anew a b s t = line_for a b s t (first_line a b s t)

-- the line that is taken where l was taken for the edge before: l, if it parts this edge too
unfoldable pub onward : List ℕ → List ℕ → Spot → Spot → Line → Line
onward a b s t l = cond (parts_by a b s t l) l (anew a b s t)

-- ---- edge j

-- its line
unfoldable pub line_at : List ℕ → List ℕ → List ℕ → ℕ → Line
line_at st a b zero = anew a b (corner st 0) (corner st 1)
line_at st a b (suc j) = onward a b (corner st (suc j)) (corner st (suc (suc j))) (line_at st a b j)

-- that parts it
abbrev pub is_parted : List ℕ → List ℕ → List ℕ → ℕ → Bool
is_parted st a b j = parts_by a b (corner st j) (corner st (suc j)) (line_at st a b j)

-- the first edge that no line parts, or the number of all edges
unfoldable pub reached : List ℕ → List ℕ → List ℕ → ℕ
reached st a b = first_from (λ j. not (is_parted st a b j)) 0 (length st / 2)

-- what is found
unfoldable pub search_of : List ℕ → List ℕ → List ℕ → Ground
search_of st a b =
    let m = length st / 2 in
    let low = lowest (spot_at a) (spot_at b) (length a / 2) in
    judged m (reached st a b) (balance low (λ j. (line_at st a b j).p) (λ j. (line_at st a b j).q) (corner st) m)
