-- A drawing that passed the tests, put on the grid: what the search on the legs is lent, in the fronts of rooms, and that what is
-- found there is what is found on the path. Assumes nothing.
use Prim.Native.Nat.{ℕ, ◌/◌, ◌≤◌, ◌<◌}
use native.Mathlib.Omega.{arith}
use mathlib.Core.Path.{◌≡◌, ap, ◌∙◌}
use mathlib.Core.Bool.{Bool, true, false}
use mathlib.Core.List.{List}
use lib.ListN.{length, length-map}
use lib.IntN.{ℤ}
use lib.Ieee.{Float}
use Rattle.ring.specs.Ring.{next_of}
use Rattle.refusals.specs.Refusals.{none}
use Rattle.whole_engine.proofs.Within.{small_lifted, small_in}
use Rattle.to_grid.specs.Grid.{nearest}
use Rattle.drawn_floats.proofs.Made.{all_stay}
use Rattle.drawn_rows.specs.Rows.{grid_of, of_drawn_path}
use Rattle.drawn_rows.specs.Lent.{DrawnLent}
use Rattle.drawn_rows.proofs.Passed.{path_passed}
use Rattle.clear_drawn.specs.Legs.{leg_least, LegLent}
use Rattle.drawn_aside.specs.Told.{ring_up}
use Rattle.clear_drawn.proofs.Drawn.{ring_length}
use Rattle.clear_drawn_path.specs.Path.{leg_count, legs_from}
use Rattle.clear_drawn_path.specs.Lent.{LegsLent, leg_at}
use Rattle.clear_drawn_path.specs.Calls.{path_least, path_found}
use Rattle.clear_drawn_path.specs.declared.PathFound.{PathFound}
use Rattle.clear_drawn_path.proofs.Legs.{legs_same}

-- ---- a leg

pub leg_lent : {st : List ℕ} {disc path : List ℤ} → LegsLent st disc path → (i k : ℕ) → i < length path / 2
    → k < length path / 2 → LegLent st disc path i k
leg_lent L i k h l =
    record {
      ring_small = L.ring_small;
      pairs = L.pairs;
      some = L.some;
      most = L.most;
      from_in = h;
      to_in = l;
      from_small = L.small i h;
      to_small = L.small k l;
      from_placed = L.placed i h;
      to_placed = L.placed k l;
    }

-- ---- all legs

pub count_most : (points : ℕ) (closed : Bool) → leg_count points closed ≤ points
count_most points true = omega arith
count_most points false = omega arith

module _ {xs ys path : List Float} {n : ℕ} (D : DrawnLent xs ys path n) where
  drawn_lent : LegsLent (ring_up n xs) (grid_of n ys) (grid_of n path)
  drawn_lent =
      let within = all_stay n path D.on_grid.path_fits in
      record {
        ring_most = omega (arith, ring_length n xs, D.ring_most);
        ring_small = small_lifted (grid_of n xs) (all_stay n xs D.on_grid.ring_fits);
        pairs = (D.pairs.0, length-map ys (nearest n) ∙ D.pairs.1);
        some = omega (arith, length-map ys (nearest n), D.least);
        most = omega (arith, length-map ys (nearest n), D.most);
        small = λ i h. small_in (grid_of n path) i within h;
        placed = λ i h. D.on_grid.placed i (omega (arith, length-map path (nearest n)));
      }

  pub legs_lent : {s : List ℕ} {d p : List ℤ} → s ≡ ring_up n xs → d ≡ grid_of n ys → p ≡ grid_of n path → LegsLent s d p
  legs_lent e f g = rw (e, f, g) drawn_lent

module _ (xs ys path : List Float) (closed : Bool) (n : ℕ) {s : List ℕ} {d p : List ℤ} (e : s ≡ ring_up n xs) (f : d ≡ grid_of n ys)
    (g : p ≡ grid_of n path) where
  pub count_fits : {m : ℕ} → m ≡ leg_count (length path / 2) closed → m ≤ length p / 2
  count_fits q = rw (g, q) (omega (arith, count_most (length path / 2) closed, length-map path (nearest n)))

  leg_same : (i : ℕ) → leg_at s d p i ≡ path_least xs ys path n i
  unfolding path_least
  leg_same i =
      rw (e, f, g)
      (ap (λ (m : ℕ). leg_least (ring_up n xs) (grid_of n ys) (grid_of n path) i (next_of i (m / 2))) (length-map path (nearest n)))

  pub path_is : {m : ℕ} {v : PathFound} → m ≡ leg_count (length path / 2) closed → v ≡ legs_from (leg_at s d p) 0 m
      → v ≡ path_found xs ys path closed n
  path_is {m} q h = h ∙ legs_same (leg_at s d p) (path_least xs ys path n) leg_same 0 m ∙ ap (legs_from (path_least xs ys path n) 0) q

pub path_tested : (xs ys path : List Float) (n : ℕ) → none ≡ of_drawn_path xs ys path n
    → DrawnLent xs ys path n × (2 ≤ length path / 2) × (length path ≤ 20002)
path_tested xs ys path n e = path_passed xs ys path n (rw (← e))
