-- The places of a path, 0 to n - 1, in path order, the last on to the first, and those of one shift. Definitions only.
use Rattle.std.specs.Prelude.{ℕ, zero, suc, ◌+◌, cond, List, [], ◌∷◌, ◌++◌, ltb, leb}

-- the place after p on a path of n places: after the last, the first
unfoldable pub next_place : ℕ → ℕ → ℕ
next_place n p = cond (ltb (p + 1) n) (p + 1) 0

-- the place that is i places on from p
unfoldable pub place_after : ℕ → ℕ → ℕ → ℕ
place_after n p zero = p
place_after n p (suc i) = next_place n (place_after n p i)

-- the first m places from p on
unfoldable pub places_from : ℕ → ℕ → ℕ → List ℕ
places_from n p zero = []
places_from n p (suc m) = places_from n p m ++ (place_after n p m ∷ [])

-- how many places a shift of k inspects: all where there are fewer
unfoldable pub per_shift : ℕ → ℕ → ℕ
per_shift n k = cond (leb k n) k n

-- the places that a shift inspects, and where the following one starts
abbrev pub shift_places : ℕ → ℕ → ℕ → List ℕ
shift_places n k start = places_from n start (per_shift n k)

abbrev pub following_start : ℕ → ℕ → ℕ → ℕ
following_start n k start = place_after n start (per_shift n k)
