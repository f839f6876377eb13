-- What the check is lent: lists of coordinates that are moved up, within the bounds. Definitions only.
use Rattle.std.specs.Prelude.{ℕ, ◌*◌, ◌/◌, ◌≤◌, ◌<◌, ◌≡◌, List, length}
use Rattle.shifted.specs.Shifted.{SmallRing}

-- a way: the corners at the start, and as many at the end
pub record WayLent (a b : List ℕ) : Type 0 where
  pub same : length b ≡ length a
  pub starts_small : SmallRing a
  pub ends_small : SmallRing b

-- a ring, a way of one corner or more, and four numbers for each edge of the ring
pub record ReasonLent (st a b ls : List ℕ) : Type 0 where
  pub moved : WayLent a b
  pub some : 0 < length a / 2
  pub ring_small : SmallRing st
  pub lines_small : SmallRing ls
  pub enough : 4 * (length st / 2) ≤ length ls
