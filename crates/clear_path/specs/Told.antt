-- What an answer says of a path. Definitions only.
use Rattle.std.specs.Prelude.{ℕ, ◌/◌, ◌<◌, ◌≡◌, List, map, length, ℤ}
use Rattle.shifted.specs.Shifted.{up_of}
use Rattle.reasons.specs.Check.{clear, edge, enclosed}
use Rattle.clear_path.specs.Path.{leg_found}
use Rattle.clear_path.specs.declared.PathGround.{PathGround}
use Rattle.clear_path.specs.declared.PathGround.TheVariants.{Clear, Edge, Enclosed}

module _ (st orb path : List ℤ) where
  -- the search on each leg below i is clear
  abbrev pub ClearTo : ℕ → Type 0
  ClearTo i = (k : ℕ) → k < i → leg_found (map up_of st) orb path k ≡ clear

  -- on all legs; or all before this one, and on it this edge is not parted; or the way is enclosed
  pub data Told : PathGround → Type 0 where
    all_clear : ClearTo (length path / 2) → Told Clear
    at_edge : {i j : ℕ} → i < length path / 2 → ClearTo i → leg_found (map up_of st) orb path i ≡ edge j → Told (Edge i j)
    at_enclosed : {i : ℕ} → i < length path / 2 → ClearTo i → leg_found (map up_of st) orb path i ≡ enclosed → Told (Enclosed i)
