-- The room that the search is lent, and what it holds afterwards: the lines of the edges that are passed, and then what it held.
-- Definitions only.
use Rattle.std.specs.Prelude.{ℕ, zero, suc, ◌*◌, ◌/◌, ◌≤◌, ◌<◌, List, [], ◌∷◌, ◌++◌, length}
use Rattle.ring.specs.Room.{laid}
use Rattle.shifted.specs.Shifted.{SmallRing}
use Rattle.reason_check.specs.Lent.{WayLent}
use Rattle.reason_search.specs.Search.{line_at, reached}
use Rattle.reason_search.specs.declared.Line.{Line}

-- a ring, a way of 1 to 256 corners, and room for four numbers for each edge of the ring
pub record SearchLent (st a b room : List ℕ) : Type 0 where
  pub moved : WayLent a b
  pub some : 0 < length a / 2
  pub most : length a ≤ 512
  pub ring_small : SmallRing st
  pub enough : 4 * (length st / 2) ≤ length room

-- the numbers of a line, and of the lines of the first k edges
abbrev pub numbers : Line → List ℕ
numbers l = l.p.x ∷ l.p.y ∷ l.q.x ∷ l.q.y ∷ []

unfoldable pub lines_to : List ℕ → List ℕ → List ℕ → ℕ → List ℕ
lines_to st a b zero = []
lines_to st a b (suc k) = lines_to st a b k ++ numbers (line_at st a b k)

-- what the room holds afterwards
abbrev pub room_of : List ℕ → List ℕ → List ℕ → List ℕ → List ℕ
room_of st a b room = laid (lines_to st a b (reached st a b)) room
