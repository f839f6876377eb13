-- The vertices go round once, counter-clockwise, by their table entries: from each entry to the next, the last to the first included, the
-- turn about the origin is to the left, and the first quarter's lie in the first quadrant. Assumes nothing.
use Prim.Native.Nat.{ℕ, zero, suc, ◌+◌, ◌*◌, ◌<◌}
use mathlib.Core.Path.{◌≡◌, refl}
use mathlib.Core.Bool.{Bool, true, ◌&&◌}
use native.Mathlib.Omega.{arith}
use native.Mathlib.Nat.{zero-add}
use lib.IntN.{pos, ◌*ℤ◌}
use lib.Signed.{lt_z, le_z}
use Rattle.laws.proofs.Both.{both}
use Rattle.ring.specs.Ring.{next_of}
use Rattle.ring.specs.Each.{each}
use Rattle.disc_table.specs.Table.{table_x, table_y, entry_of}
use Rattle.disc_table.specs.declared.Entry.{Entry}
use Rattle.discs.specs.Disc.{quarter_ok, quarter_turn, turned_by, entry_at}
use Rattle.discs.proofs.Seven.{of_seven}

-- the turn from e to f about the origin is to the left: e.x * f.y is above f.x * e.y
unfoldable pub turns_left : Entry → Entry → Bool
turns_left e f = lt_z (f.x *ℤ e.y) (e.x *ℤ f.y)

-- right of the origin, and not below it
unfoldable pub first_quadrant : Entry → Bool
first_quadrant e = lt_z (pos 0) e.x && le_z (pos 0) e.y

-- what holds of each number of a row holds of one
each_at : (p : ℕ → Bool) (k n i : ℕ) → each p k n ≡ true → i < n → p (k + i) ≡ true
unfolding each
each_at p k zero i h l = absurd (omega arith)
each_at p k (suc n) zero h l = let e : k + 0 ≡ k = omega arith in rw e (both (p k) (each p (suc k) n) h).0
each_at p k (suc n) (suc i) h l =
    let e : k + suc i ≡ suc k + i = omega arith in
    rw e (each_at p (suc k) n i (both (p k) (each p (suc k) n) h).1 (omega arith))

-- the tests of a disc
left_at : ℕ → ℕ → Bool
left_at m i = turns_left (entry_at m i) (entry_at m (next_of i (4 * m)))

right_at : ℕ → ℕ → Bool
right_at m j = first_quadrant (entry_at m j)

round : ℕ → Bool
round m = each (left_at m) 0 (4 * m) && each (right_at m) 0 m

-- computed for all seven
seven : (m : ℕ) → quarter_ok m ≡ true → round m ≡ true
unfolding round left_at right_at each turns_left first_quadrant entry_at turned_by quarter_turn entry_of table_x table_y
seven m h = of_seven (λ k. round k ≡ true) m refl refl refl refl refl refl refl h

module _ (m : ℕ) (h : quarter_ok m ≡ true) where
  -- each turn is to the left
  pub counter_clockwise : (i : ℕ) → i < 4 * m → turns_left (entry_at m i) (entry_at m (next_of i (4 * m))) ≡ true
  unfolding round left_at
  counter_clockwise i l = rw (zero-add i) at (each_at (left_at m) 0 (4 * m) i (both (each (left_at m) 0 (4 * m)) (each (right_at m) 0 m) (seven m h)).0 l)

  -- and a quarter of the vertices lies in the first quadrant, so that the next quarter's lie in the next
  pub first_quarter : (j : ℕ) → j < m → first_quadrant (entry_at m j) ≡ true
  unfolding round right_at
  first_quarter j l = rw (zero-add j) at (each_at (right_at m) 0 m j (both (each (left_at m) 0 (4 * m)) (each (right_at m) 0 m) (seven m h)).1 l)
