-- A move as it is drawn, on a grid of n units in one: the picture of the floats, exactly, and the whole numbers that they were
-- put on. A coordinate x is pictured at n * x, moved up by two million and enlarged 2 * E times, so that E is half a unit. Any E
-- will do that makes all of them whole, as 2 ^ 1073 does. By two million, since a corner and a position together may lie almost a
-- unit below the bounds. Definitions only.
use Rattle.std.specs.Prelude.{ℕ, suc, ◌+◌, ◌*◌, ◌≤◌, ◌≡◌, true, false, List, [], ◌∷◌, map, length, ℤ, pos, negsuc, ◌+ℤ◌, Float}
use Rattle.std.specs.Float.{nan, inf, fin}
use Rattle.std.specs.Float.Ieee.{up, down}
use Rattle.whole_engine.specs.Rows.{all_in_bounds}
use Rattle.whole_moves.specs.Moved.{moved_by}
use Rattle.to_grid.specs.Grid.{nearest}

-- ---- the picture

-- X over 2 * E is n * x and two million
abbrev pub Exactly : ℕ → ℕ → Float → ℕ → Type 0
Exactly E n nan X = ⊥
Exactly E n (inf s) X = ⊥
Exactly E n (fin false m e) X = X * down e ≡ 2 * E * (2000000 * down e + n * (m * up e))
Exactly E n (fin true m e) X = X * down e + 2 * E * (n * (m * up e)) ≡ 2 * E * (2000000 * down e)

-- so is each of a list
abbrev pub Pictured : ℕ → ℕ → List Float → List ℕ → Type 0
Pictured E n [] [] = Unit
Pictured E n [] (X ∷ Xs) = ⊥
Pictured E n (x ∷ xs) [] = ⊥
Pictured E n (x ∷ xs) (X ∷ Xs) = Exactly E n x X × Pictured E n xs Xs

-- each coordinate X is at Z where the position is pictured at U across and W upward, x and y in turn: the exact sum
abbrev pub Placed : ℕ → ℕ → ℕ → List ℕ → List ℕ → Type 0
Placed E U W [] [] = Unit
Placed E U W [] (Z ∷ Zs) = ⊥
Placed E U W (X ∷ Xs) [] = ⊥
Placed E U W (X ∷ Xs) (Z ∷ Zs) = (Z + 2 * E * 2000000 ≡ X + U) × Placed E W U Xs Zs

-- the stationary corners xs are at ring; the orbiting ones ys, as drawn, are moved to (fx, fy), where they are at c, and go
-- straight on to (tx, ty), where they are at d
pub record Picture (E n : ℕ) (xs ys : List Float) (fx fy tx ty : Float) (ring c d : List ℕ) : Type 0 where
  pub corners : List ℕ
  pub from_x : ℕ
  pub from_y : ℕ
  pub to_x : ℕ
  pub to_y : ℕ
  pub stationary : Pictured E n xs ring
  pub orbiting : Pictured E n ys corners
  pub from_across : Exactly E n fx from_x
  pub from_upward : Exactly E n fy from_y
  pub to_across : Exactly E n tx to_x
  pub to_upward : Exactly E n ty to_y
  pub starts : Placed E from_x from_y corners c
  pub ends : Placed E to_x to_y corners d

-- ---- on the grid

-- corner i of the orbiting polygon is at nearest(corner) + nearest(position)
abbrev pub placed : ℕ → List Float → Float → Float → List ℤ
placed n ys px py = moved_by (nearest n px) (nearest n py) (map (nearest n) ys)

-- how large a whole number is
abbrev pub size_of : ℤ → ℕ
size_of (pos n) = n
size_of (negsuc n) = suc n

-- each number is put aside by w units at most
abbrev pub Aside : ℕ → List ℤ → List ℤ → Type 0
Aside w [] [] = Unit
Aside w [] (a ∷ bs) = ⊥
Aside w (z ∷ zs) [] = ⊥
Aside w (z ∷ zs) (a ∷ bs) = ((u : ℤ) × (size_of u ≤ w) × (a ≡ z +ℤ u)) × Aside w zs bs

-- the orbiting corners were put on a at the start and on b at the end, w units aside at most; all are within the bounds, and
-- there is an orbiting one
pub record PutOn (n w : ℕ) (xs ys : List Float) (fx fy tx ty : Float) (a b : List ℤ) : Type 0 where
  pub some : 2 ≤ length ys
  pub starts : Aside w (placed n ys fx fy) a
  pub ends : Aside w (placed n ys tx ty) b
  pub ring_within : all_in_bounds (map (nearest n) xs) ≡ true
  pub starts_within : all_in_bounds a ≡ true
  pub ends_within : all_in_bounds b ≡ true
