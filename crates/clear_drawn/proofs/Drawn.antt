-- A drawing that passed the tests, put on the grid: what a leg is lent, in the fronts of rooms, what is found there, and the lines
-- of a move that is clear. Assumes nothing.
use Prim.Native.Nat.{ℕ, ◌*◌, ◌/◌, ◌≤◌, ◌<◌}
use native.Mathlib.Omega.{arith}
use mathlib.Core.Path.{◌≡◌, sym, ap, subst, ◌∙◌}
use mathlib.Core.List.{List, map}
use lib.ListN.{length, get_or, take, length-map}
use lib.Seq.{take_at}
use lib.IntN.{ℤ}
use lib.Ieee.{Float}
use Rattle.ring.specs.Room.{laid}
use Rattle.shifted.specs.Shifted.{up_of, SmallRing}
use Rattle.whole_engine.proofs.Within.{small_lifted, small_in}
use Rattle.to_grid.specs.Grid.{nearest}
use Rattle.whole_moves.specs.Moved.{down_of}
use Rattle.reasons.specs.Check.{Ground, clear}
use Rattle.drawn_floats.proofs.Made.{all_stay}
use Rattle.drawn_aside.specs.Found.{Least, clear_by, unparted, least_how}
use Rattle.drawn_aside.specs.Told.{ring_up}
use Rattle.drawn_aside.proofs.Least.{least_clear}
use Rattle.clear_aside.specs.declared.Found.{Found}
use Rattle.clear_aside.specs.declared.Found.TheVariants.{Clear}
use Rattle.drawn_rows.specs.Rows.{grid_of}
use Rattle.drawn_rows.specs.Lent.{DrawnLent, LinesLent}
use Rattle.clear_drawn.specs.Legs.{leg_least, leg_found, leg_checked, leg_lines, LegLent, LegKept}
use Rattle.clear_drawn.specs.Calls.{move_least, MoveKept, move_reason, move_checked}
use Rattle.clear_drawn.proofs.Legs.{asked}
use Rattle.clear_drawn.proofs.Low.{taken_low}

-- ---- the fronts of rooms

module _ (n : ℕ) (xs : List Float) where
  pub ring_length : length (ring_up n xs) ≡ length xs
  ring_length = length-map (grid_of n xs) up_of ∙ length-map xs (nearest n)

  pub ring_front : (d : List ℕ) {room : List ℕ} → room ≡ laid (ring_up n xs) d → take (length xs) room ≡ ring_up n xs
  ring_front d e = ap (take (length xs)) e ∙ take_at (ring_up n xs) _ (length xs) ring_length

  pub grid_front : (d : List ℤ) {room : List ℤ} → room ≡ laid (grid_of n xs) d → take (length xs) room ≡ grid_of n xs
  grid_front d e = ap (take (length xs)) e ∙ take_at (grid_of n xs) _ (length xs) (length-map xs (nearest n))

-- ---- a leg

module _ {xs ys path : List Float} {n : ℕ} (D : DrawnLent xs ys path n) where
  pub leg_lent : (i k : ℕ) → i < length path / 2 → k < length path / 2 → LegLent (ring_up n xs) (grid_of n ys) (grid_of n path) i k
  leg_lent i k h l =
      let a : i < length (grid_of n path) / 2 = omega (arith, length-map path (nearest n)) in
      let b : k < length (grid_of n path) / 2 = omega (arith, length-map path (nearest n)) in
      let within = all_stay n path D.on_grid.path_fits in
      record {
        ring_small = small_lifted (grid_of n xs) (all_stay n xs D.on_grid.ring_fits);
        pairs = (D.pairs.0, length-map ys (nearest n) ∙ D.pairs.1);
        some = omega (arith, length-map ys (nearest n), D.least);
        most = omega (arith, length-map ys (nearest n), D.most);
        from_in = a;
        to_in = b;
        from_small = small_in (grid_of n path) i within a;
        to_small = small_in (grid_of n path) k within b;
        from_placed = D.on_grid.placed i h;
        to_placed = D.on_grid.placed k l;
      }

-- ---- a move, in the fronts of rooms

module _ {xs ys path : List Float} {n : ℕ} (D : DrawnLent xs ys path n) (four : length path ≡ 4) {s : List ℕ} {d p : List ℤ}
    (e : s ≡ ring_up n xs) (f : d ≡ grid_of n ys) (g : p ≡ grid_of n path) where
  pub move_lent : LegLent s d p 0 1
  move_lent = rw (e, f, g) (leg_lent D 0 1 (omega arith) (omega arith))

  pub enough : 4 * (length s / 2) ≤ 1024
  enough = rw e (omega (arith, ring_length n xs, D.ring_most))

module _ (xs ys path : List Float) (n : ℕ) {s : List ℕ} {d p : List ℤ} (e : s ≡ ring_up n xs) (f : d ≡ grid_of n ys)
    (g : p ≡ grid_of n path) where
  pub move_is : {v : Least} → v ≡ leg_least s d p 0 1 → v ≡ move_least xs ys path n
  move_is q = rw (← e, ← f, ← g) q

  pub move_kept : (r : Found) (lines : List ℕ) → LegKept s d p 0 1 r lines → MoveKept xs ys path n r lines
  move_kept r lines q = rw (← e, ← f, ← g) q

  pub move_checked_lem : (how : ℕ) (ls : List ℤ) {l : List ℕ} → l ≡ map up_of ls → {v : Ground}
      → v ≡ leg_checked s d p 0 1 how l → v ≡ move_checked xs ys path n how ls
  move_checked_lem how ls k q = rw (← e, ← f, ← g, ← k) q

-- lines that are lent, in the front of a room
pub lines_lent : (n : ℕ) (xs : List Float) (ls : List ℤ) {s l : List ℕ} → s ≡ ring_up n xs → l ≡ map up_of ls → LinesLent xs ls
    → (4 * (length s / 2) ≤ length l) × SmallRing l
lines_lent n xs ls e k L =
    rw (e, k) (omega (arith, ring_length n xs, length-map ls up_of, L.four_each), small_lifted ls L.within)

-- ---- its lines

module _ {xs ys path : List Float} {n : ℕ} (D : DrawnLent xs ys path n) (four : length path ≡ 4) (how : ℕ)
    (found : clear_by how ≡ move_least xs ys path n) where
  abbrev legs : ℕ → Ground
  legs = leg_found (ring_up n xs) (grid_of n ys) (grid_of n path) 0 1

  is_clear : legs how ≡ clear
  unfolding leg_least least_how
  is_clear = least_clear legs (unparted (legs 0)) 0 21 how (sym found)

  module _ (r : Found) (lines : List ℕ) (kept : MoveKept xs ys path n r lines) (is : r ≡ Clear how) where
    pub all_low : (m : ℕ) → length lines ≡ m → 1024 ≤ m → (k : ℕ) → k < 4 * (length xs / 2) → get_or lines k 0 ≤ 2000000
    unfolding leg_lines
    all_low m same long k h =
        let L = leg_lent D 0 1 (omega arith) (omega arith) in
        let A = asked L lines (omega (arith, ring_length n xs, D.ring_most)) in
        taken_low _ _ _ _ _ how lines A is_clear lines (kept how is) k (omega (arith, ring_length n xs))

    pub lowered : (held : List ℤ) {out : List ℤ} → out ≡ laid (map down_of (take (4 * (length xs / 2)) lines)) held
        → out ≡ laid (move_reason xs ys path n how) held
    lowered held e =
        let all = leg_lines (ring_up n xs) (grid_of n ys) (grid_of n path) 0 1 how in
        let f : take (4 * (length xs / 2)) lines ≡ all =
        subst (λ (m : ℕ). take (4 * (m / 2)) lines ≡ all) (ring_length n xs) (kept how is) in
        e ∙ ap (λ l. laid (map down_of l) held) f
