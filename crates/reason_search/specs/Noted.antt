-- What the search holds of a way: its box, and which of its lines have the whole way on their left, which is noted when it is
-- first asked for. Definitions only.
use Rattle.std.specs.Prelude.{ℕ, ◌*◌, ◌/◌, ◌≤◌, ◌<◌, ◌≡◌, Bool, true, ◌&&◌, List, length, get_or}
use Rattle.shifted.specs.Shifted.{spot_at, Small}
use Rattle.shifted.specs.declared.Spot.{Spot}
use Rattle.reasons.specs.Crossing.{one}
use Rattle.reasons.specs.Parting.{differ, way_left, edge_right}
use Rattle.reasons.specs.First.{first_from}
use Rattle.reason_check.specs.Lent.{WayLent}
use Rattle.reason_search.specs.Lines.{box_low, box_high, box_line, way_line}
use Rattle.reason_search.specs.declared.Line.{Line}
use Rattle.reason_search.specs.declared.Span.{Span}

-- ---- its box

abbrev pub IsBox : List ℕ → List ℕ → Span → Type 0
IsBox a b x =
    (x.low ≡ box_low (spot_at a) (spot_at b) (length a / 2)) × (x.high ≡ box_high (spot_at a) (spot_at b) (length a / 2))

-- the edge from s to t is right of side c of a box or on it
unfoldable pub beside_box : Spot → Spot → Spot → Spot → ℕ → Bool
beside_box low high s t c = let l = box_line c low high in edge_right l.p l.q s t

-- the first side of which that holds, or 4
abbrev pub first_side : Spot → Spot → Spot → Spot → ℕ
first_side low high s t = first_from (beside_box low high s t) 0 4

-- ---- its other lines

-- a line has two points, and the whole way left of it or on it
abbrev pub leaves : (ℕ → Spot) → (ℕ → Spot) → ℕ → Line → Bool
leaves a b n l = differ l.p l.q && way_left a b n l.p l.q

-- so has line c of the way
unfoldable pub useful : (ℕ → Spot) → (ℕ → Spot) → ℕ → ℕ → Bool
useful a b n c = leaves a b n (way_line a b n c)

-- how many lines the way has besides the sides of its box
abbrev pub way_lines : List ℕ → ℕ
way_lines a = 6 * (length a / 2)

-- one of them
abbrev pub line_in : List ℕ → List ℕ → ℕ → Line
line_in a b c = way_line (spot_at a) (spot_at b) (length a / 2) c

-- a flag for each of the first k: 1 where it is of use
abbrev pub Noted : List ℕ → List ℕ → List ℕ → ℕ → Type 0
Noted a b flags k = (c : ℕ) → c < k → get_or flags c 0 ≡ one (useful (spot_at a) (spot_at b) (length a / 2) c)

-- a way of at most 256 corners with its flags
pub record Prepared (a b flags : List ℕ) : Type 0 where
  pub moved : WayLent a b
  pub most : length a ≤ 512
  pub room : way_lines a ≤ length flags
  pub noted : Noted a b flags (way_lines a)

-- a way of 1 to 256 corners with room for its flags, which stand there once number 1536 is 255; below 8 it counts the edges that
-- asked for them
pub record Ready (a b flags : List ℕ) : Type 0 where
  pub moved : WayLent a b
  pub some : 0 < length a / 2
  pub most : length a ≤ 512
  pub room : 1536 < length flags
  pub marked : get_or flags 1536 0 ≡ 255 → Noted a b flags (way_lines a)

-- line c of the way is of use, and the edge from s to t right of it or on it
unfoldable pub helpful : List ℕ → List ℕ → Spot → Spot → ℕ → Bool
helpful a b s t c =
    let l = line_in a b c in
    useful (spot_at a) (spot_at b) (length a / 2) c && edge_right l.p l.q s t

-- the first of them that does, or their number
abbrev pub first_of_way : List ℕ → List ℕ → Spot → Spot → ℕ
first_of_way a b s t = first_from (helpful a b s t) 0 (way_lines a)

-- ---- the line before: it has the way on its left

pub record Held (a b : List ℕ) (l : Line) : Type 0 where
  pub left : leaves (spot_at a) (spot_at b) (length a / 2) l ≡ true
  pub from_small : Small l.p
  pub to_small : Small l.q
