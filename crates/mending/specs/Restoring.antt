-- What the theorems on mending say: dropped vertices put back, neighbours that differ, indices that rise. Definitions only.
use Rattle.std.specs.Prelude.{ℕ, ◌+◌, ◌*◌, ◌<◌, ◌≡◌, true, false, ◌⊎◌, List, [], ◌∷◌, ◌++◌, length, get_or, take, drop, Float}
use Rattle.plane.specs.Vector.{same_of}
use Rattle.ring.specs.Ring.{count, point_at, next_of}
use Rattle.mending.specs.Mending.{goes_at, why_of, why_run, why_trailing}

-- a vertex put into a ring as its vertex i; those from i on move up
abbrev pub put_in : List Float → ℕ → Float → Float → List Float
put_in r i a b = take (2 * i) r ++ (a ∷ b ∷ drop (2 * i) r)

-- the dropped vertices put back into a mended ring one after the other, each at its index
unfoldable pub put_back : List Float → List ℕ → List Float → List Float
put_back r [] ps = r
put_back r (i ∷ []) ps = r
put_back r (i ∷ why ∷ is) [] = r
put_back r (i ∷ why ∷ is) (a ∷ []) = r
put_back r (i ∷ why ∷ is) (a ∷ b ∷ ps) = put_back (put_in r i a b) is ps

-- no vertex equals the next as numbers, the first being the next of the last
abbrev pub Differing : List Float → Type 0
Differing r = (k : ℕ) → k < count r → same_of (point_at r k) (point_at r (next_of k (count r))) ≡ false

-- each number of a list is above the one before it
abbrev pub Climbing : List ℕ → Type 0
Climbing is = (k : ℕ) → k + 1 < length is → get_or is k 0 < get_or is (k + 1) 0

-- of a vertex i that goes as one of a run, the vertex that its run begins with: it stays, or it goes as trailing; each between the two goes as one of the
-- run; and both are equal as numbers
pub record Begun (r : List Float) (i : ℕ) : Type 0 where
  pub head : ℕ
  pub earlier : head < i
  pub begins : (goes_at r head ≡ false) ⊎ ((goes_at r head ≡ true) × (why_of r head ≡ why_trailing))
  pub between : (j : ℕ) → head < j → j < i → (goes_at r j ≡ true) × (why_of r j ≡ why_run)
  pub equal : same_of (point_at r head) (point_at r i) ≡ true
