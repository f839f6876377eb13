-- The loop of `check`: the edges from j on decide, and after the last the balance. Assumes nothing.
use Prim.Native.Nat.{ℕ, ◌+◌, ◌/◌, ◌≤◌, ◌<◌}
use mathlib.Core.Path.{◌≡◌, ap}
use mathlib.Core.Bool.{Bool, true, false, not}
use mathlib.Core.List.{List}
use lib.ListN.{length}
use borrow.Author.Tests.{lt-ltb, le-ltb}
use Rattle.shifted.specs.Shifted.{spot_at}
use Rattle.reasons.specs.Lowest.{lowest}
use Rattle.reasons.specs.Check.{clear, edge, enclosed, judged, ground_of, balance_at, parts_at, check_of}
use Rattle.reasons.proofs.First as row

module _ (st a b ls : List ℕ) where
  -- the line of edge j does not part it
  abbrev off : ℕ → Bool
  off j = not (parts_at st a b ls j)

  pub record Edges (j : ℕ) : Type 0 where
    pub rest : row.Rest off (length st / 2) j

  pub start : Edges 0
  start = record { rest = row.start off _ }

  module _ {j : ℕ} {x : Bool} (E : Edges j) (h : j < length st / 2) (e : x ≡ parts_at st a b ls j) where
    pub turn : x ≡ true → Edges (j + 1)
    turn t = record { rest = row.turn off _ E.rest h (ap not e) (ap not t) }

    pub stop : x ≡ false → edge j ≡ check_of st a b ls
    unfolding ground_of judged
    stop t = rw (← row.here off _ E.rest h (ap not e) (ap not t), lt-ltb j _ h)

  -- all edges are parted: the balance at the way's least height decides
  module _ {j h : ℕ} {x : Bool} (E : Edges j) (all : length st / 2 ≤ j)
      (e : h ≡ lowest (spot_at a) (spot_at b) (length a / 2)) (f : x ≡ balance_at st ls h) where
    even : x ≡ balance_at st ls (lowest (spot_at a) (spot_at b) (length a / 2))
    even = rw (← e) f

    pub all_clear : x ≡ true → clear ≡ check_of st a b ls
    unfolding ground_of judged
    all_clear t = rw (← row.end off _ E.rest all, le-ltb j _ all, ← even, t)

    pub all_enclosed : x ≡ false → enclosed ≡ check_of st a b ls
    unfolding ground_of judged
    all_enclosed t = rw (← row.end off _ E.rest all, le-ltb j _ all, ← even, t)
