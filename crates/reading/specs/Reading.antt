-- A ring's readings, their order and the least of them. Definitions only.
-- A coordinate is the bit pattern of an f64, a number below 2 ^ 64: two coordinates are the same bit for bit exactly if they are equal
-- here.
use Rattle.std.specs.Prelude.{ℕ, zero, suc, ◌+◌, ◌-◌, ◌*◌, ◌^◌, ◌<◌, ◌≡◌, Bool, true, false, not, cond, List, [], ◌∷◌, ◌++◌, reverse, length, take, drop, ltb, eqb}

-- ---- "A reading of a ring starts at any vertex and goes either way round."

-- begun at the vertex k, and read onward
abbrev pub rot : {A : Type 0} → ℕ → List A → List A
rot k r = drop k r ++ take k r

-- begun at the vertex s: onward, or back. Back from s is the ring that begins after s, read from its end
abbrev pub reading : {A : Type 0} → List A → ℕ → Bool → List A
reading r s false = rot s r
reading r s true = reverse (rot (suc s) r)

-- x is a reading of r
pub record Reads {A : Type 0} (r x : List A) : Type 0 where
  pub start : ℕ
  pub back : Bool
  pub within : start < length r
  pub is : x ≡ reading r start back

-- ---- vertices

pub record Vertex : Type 0 where
  pub x : ℕ
  pub y : ℕ

-- the coordinates in turn, and the vertices that coordinates in turn are
abbrev pub flat : List Vertex → List ℕ
flat [] = []
flat (v ∷ vs) = v.x ∷ v.y ∷ flat vs

abbrev pub vertices : List ℕ → List Vertex
vertices [] = []
vertices (a ∷ []) = []
vertices (a ∷ b ∷ r) = record { x = a; y = b } ∷ vertices r

-- equally long, and place by place related
abbrev pub Alike : {A : Type 0} → (A → A → Type 0) → List A → List A → Type 0
Alike R [] [] = Unit {0}
Alike R [] (b ∷ q) = ⊥
Alike R (a ∷ p) [] = ⊥
Alike R (a ∷ p) (b ∷ q) = R a b × Alike R p q

-- x is a reading of r, where coordinates are compared by a relation
pub record ReadsUpTo (R : ℕ → ℕ → Type 0) (r x : List Vertex) : Type 0 where
  pub read : List Vertex
  pub reads : Reads r read
  pub alike : Alike R (flat read) (flat x)

-- ---- "Numbers are ordered by size, -0.0 before +0.0; points by x, then y; readings by the first difference."

-- The place of a bit pattern in the order of numbers. The patterns below 2 ^ 63 have no sign, and grow with the number. Those from 2 ^ 63
-- on are negative, and grow as the number falls. No pattern is 2 ^ 64 or more: such a number is its own place, so that no two numbers
-- share one.
unfoldable pub ord : ℕ → ℕ
ord b = cond (ltb b (2 ^ 63)) (2 ^ 63 + b) (cond (ltb b (2 ^ 64)) (2 ^ 64 - suc b) b)

-- before, after, or neither: then what follows decides
abbrev pub difference : Bool → Bool → Bool → Bool
difference true b rest = true
difference false true rest = false
difference false false rest = rest

-- of two lists of coordinates
unfoldable pub less : List ℕ → List ℕ → Bool
less [] [] = false
less [] (b ∷ q) = true
less (a ∷ p) [] = false
less (a ∷ p) (b ∷ q) = difference (ltb (ord a) (ord b)) (ltb (ord b) (ord a)) (less p q)

-- of two readings
abbrev pub earlier : List Vertex → List Vertex → Bool
earlier p q = less (flat p) (flat q)

-- ---- the least reading

-- The 2 * n readings of a ring of n vertices, by number: onward from 0, 1, .. n - 1, and then back from 0, 1, .. n - 1.
abbrev pub choice : {A : Type 0} → List A → ℕ → List A
choice r c = reading r (cond (ltb c (length r)) c (c - length r)) (not (ltb c (length r)))

-- the first of the least of the readings 0 .. c
unfoldable pub best : List Vertex → ℕ → ℕ
best r zero = 0
best r (suc c) = cond (earlier (choice r (suc c)) (choice r (best r c))) (suc c) (best r c)

unfoldable pub best_of : List Vertex → ℕ
best_of r = best r (2 * length r - 1)

unfoldable pub least_reading : List Vertex → List Vertex
least_reading r = choice r (best_of r)

-- a ring is its own least reading if that is the reading 0
abbrev pub is_least : List Vertex → Bool
is_least r = eqb (best_of r) 0
