-- Where the readings of one direction start, and which starts are left as two of them push each other on. Definitions only.
use Rattle.std.specs.Prelude.{ℕ, suc, ◌+◌, ◌-◌, ◌*◌, ◌/◌, ◌%◌, ◌<◌, ◌≡◌, Bool, cond, List, length, get_or, ltb, eqb}
use Rattle.reading.specs.declared.Starts.{Starts}
use Rattle.reading.specs.Reading.{Vertex, flat, ord, choice}

-- the number of the reading that starts u vertices on in a direction: onward from the first vertex, or back from the last
abbrev pub number_of : ℕ → Bool → ℕ → ℕ
number_of n back u = cond back (2 * n - suc u) u

-- a ring read round and round in a direction: the place of coordinate m in the order of numbers
unfoldable pub along : List Vertex → Bool → ℕ → ℕ
along r back m = ord (get_or (flat (choice r (number_of (length r) back 0))) (m % (2 * length r)) 0)

-- what is read from a on is before what is read from b on: they differ first at a place below l
pub record Ahead (g : ℕ → ℕ) (l a b : ℕ) : Type 0 where
  pub place : ℕ
  pub within : place < l
  pub same : (m : ℕ) → m < place → g (a + m) ≡ g (b + m)
  pub lower : g (a + place) < g (b + place)

-- the reading of some start is before that of the start u
pub record Beaten (g : ℕ → ℕ) (n u : ℕ) : Type 0 where
  pub by : ℕ
  pub low : by < n
  pub ahead : Ahead g (2 * n) (2 * by) (2 * u)

-- the starts i and j have one reading, and every other start before j is beaten
pub record Settled (g : ℕ → ℕ) (n i j : ℕ) : Type 0 where
  pub order : i < j
  pub others : (u : ℕ) → u < j → (u ≡ i → ⊥) → Beaten g n u
  pub again : (m : ℕ) → g (2 * i + m) ≡ g (2 * j + m)

-- how far the start of the later reading is pushed on: as far as the two agree, and one vertex more
abbrev pub stride : Starts → ℕ
stride s = s.alike / 2 + 1

-- the first start, pushed on
abbrev pub further : Starts → ℕ
further s = s.first + stride s

-- The two starts that are left where the next coordinates of their readings have the places u and v. Where it is the first that is
-- pushed, it begins anew there or at the second, whichever is later, and the second one vertex after it.
unfoldable pub pushed_by : Starts → ℕ → ℕ → Starts
pushed_by s u v =
    cond (eqb u v) (record { first = s.first; second = s.second; alike = s.alike + 1 })
    (cond (ltb u v) (record { first = s.first; second = s.second + stride s; alike = 0 })
    (cond (ltb (further s) s.second) (record { first = s.second; second = s.second + 1; alike = 0 })
    (record { first = further s; second = further s + 1; alike = 0 })))
