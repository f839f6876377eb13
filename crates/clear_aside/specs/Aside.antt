-- What the search over the ways of putting a disc aside is lent and leaves. All lists hold x, y, x, y .. moved up: st the
-- stationary corners, a the disc's at the start, b at the end. Definitions only.
use Rattle.std.specs.Prelude.{ℕ, ◌*◌, ◌/◌, ◌≤◌, ◌<◌, ◌≡◌, List, length, take}
use Rattle.shifted.specs.Shifted.{SmallRing, Small}
use Rattle.shifted.specs.declared.Spot.{Spot}
use Rattle.reason_search.specs.Room.{lines_to}
use Rattle.put_aside.specs.Aside.{aside}
use Rattle.drawn_aside.specs.Found.{Least, clear_by, edge_first, enclosed_by}
use Rattle.clear_aside.specs.declared.Found.{Found}
use Rattle.clear_aside.specs.declared.Found.TheVariants.{Clear, Edge, Enclosed}

-- the answer of the code as that of the definition
abbrev pub least : Found → Least
least (Clear how) = clear_by how
least (Edge j) = edge_first j
least (Enclosed how) = enclosed_by how

-- a disc of 1 to 256 corners, no half of one, at the start and at the end of a move, all within the bounds
pub record DiscMoved (a b : List ℕ) (from to : Spot) : Type 0 where
  pub pairs : (k : ℕ) × (length a ≡ 2 * k)
  pub same : length b ≡ length a
  pub some : 0 < length a / 2
  pub most : length a ≤ 512
  pub starts_small : SmallRing a
  pub ends_small : SmallRing b
  pub from_small : Small from
  pub to_small : Small to

-- beside a ring of corners within the bounds, with four numbers or room for them for each of its edges
pub record Asked (st a b : List ℕ) (from to : Spot) (lines : List ℕ) : Type 0 where
  pub moved : DiscMoved a b from to
  pub ring_small : SmallRing st
  pub enough : 4 * (length st / 2) ≤ length lines

-- two rooms have the disc, put aside, at their fronts
pub record BothHold (a b : List ℕ) (from to : Spot) (how : ℕ) (start end : List ℕ) : Type 0 where
  pub starts : take (length a) start ≡ aside a from to how
  pub ends : take (length b) end ≡ aside b from to how

-- a room has the lines of the search at its front
abbrev pub LinesHeld : List ℕ → List ℕ → List ℕ → Spot → Spot → ℕ → List ℕ → Type 0
LinesHeld st a b from to how lines =
    take (4 * (length st / 2)) lines ≡ lines_to st (aside a from to how) (aside b from to how) (length st / 2)

-- so has it where the answer is clear
abbrev pub Kept : List ℕ → List ℕ → List ℕ → Spot → Spot → Found → List ℕ → Type 0
Kept st a b from to r lines = (how : ℕ) → r ≡ Clear how → LinesHeld st a b from to how lines
