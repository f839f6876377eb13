-- What an answer of the call tells of the drawing: clear, that on each leg the floats that were lent are apart but for the depth;
-- else the first leg that is not clear, with what is found there, and each leg before it is clear. The induction goes over the
-- legs that are left. Assumes nothing.
use Prim.Native.Nat.{ℕ, zero, suc, ◌+◌, ◌*◌, ◌/◌, ◌≤◌, ◌<◌}
use native.Mathlib.Nat.{eq-or-lt_of_le, le-max_left, le-max_right, le_trans, mul-le-mul_right, mod-lt}
use native.Mathlib.Omega.{arith}
use mathlib.Core.Path.{◌≡◌, refl, sym, subst, ◌∙◌}
use mathlib.Core.Logic.{⊎_elim}
use mathlib.Core.List.{List}
use lib.ListN.{length}
use lib.Ieee.{Float}
use Rattle.ring.specs.Ring.{next_of}
use Rattle.reasons.specs.Check.{Ground}
use Rattle.reasons.specs.Drawn.{DeepAt}
use Rattle.reasons.specs.Moves.{Leg}
use Rattle.drawn.specs.Told.{ApartBy}
use Rattle.clear_calls.proofs.Reasoned.{answered}
use Rattle.drawn_floats.proofs.Made.{all_stay}
use Rattle.drawn_aside.specs.Found.{Least, clear_by, edge_first, enclosed_by, depth_of, unparted, least_how}
use Rattle.drawn_aside.specs.Told.{ring_up, disc_up, spot_up, OnTheGrid, found_on}
use Rattle.drawn_aside.proofs.Told.{found_told}
use Rattle.drawn_aside.proofs.Least.{least_clear, least_enclosed}
use Rattle.drawn_rows.specs.Rows.{of_drawn_path}
use Rattle.drawn_rows.specs.Lent.{DrawnLent}
use Rattle.drawn_rows.proofs.Placed.{grid_at}
use Rattle.drawn_rows.proofs.Passed.{path_passed}
use Rattle.clear_drawn.specs.Legs.{leg_least}
use Rattle.clear_drawn_path.specs.Path.{leg_count, deepened, leg_then, legs_from}
use Rattle.clear_drawn_path.specs.Calls.{path_least}
use Rattle.clear_drawn_path.specs.Told.{across_at, upward_at, LegApart, LegWithin, ApartTo, PathTold, CallTold}
use Rattle.clear_drawn_path.specs.declared.PathFound.{PathFound}
use Rattle.clear_drawn_path.specs.declared.PathFound.TheVariants.{Clear, Edge, Enclosed}
use Rattle.clear_drawn_path.proofs.Drawn.{count_most}

-- ---- a larger depth tells less

less_deep : {D D' : ℕ} {hs : List Leg} {a b l X Y : ℕ} → D ≤ D' → DeepAt D' hs a b l X Y → DeepAt D hs a b l X Y
less_deep {a = a} {b = b} {l = l} h d =
    record { inside = d.inside; far = omega (arith, mul-le-mul_right ((a + b) * l) h, d.far) }

apart_more : {D D' : ℕ} {st a b : List ℕ} → D ≤ D' → ApartBy D st a b → ApartBy D' st a b
apart_more h A =
    record {
      off_edges = λ u v l X Y d. A.off_edges u v l X Y (less_deep h d);
      outside = λ u v l X Y d. A.outside u v l X Y (less_deep h d);
    }

-- ---- one leg

module _ (xs ys path : List Float) (n : ℕ) (D : DrawnLent xs ys path n) (i : ℕ) (h : i < length path / 2) where
  abbrev k : ℕ
  k = next_of i (length path / 2)

  next_in : k < length path / 2
  next_in = mod-lt (i + 1) (omega arith)

  on_the_grid : OnTheGrid n xs ys (across_at path i) (upward_at path i) (across_at path k) (upward_at path k)
  on_the_grid =
      record {
        some = omega (arith, D.least);
        pairs = D.pairs;
        ring_within = all_stay n xs D.on_grid.ring_fits;
        starts_within = rw (grid_at n path (2 * i), grid_at n path (2 * i + 1)) at (D.on_grid.placed i h);
        ends_within = rw (grid_at n path (2 * k), grid_at n path (2 * k + 1)) at (D.on_grid.placed k next_in);
      }

  abbrev found : ℕ → Ground
  found = found_on n xs ys (across_at path i) (upward_at path i) (across_at path k) (upward_at path k)

  -- what is found on the leg is found of the drawing
  least_is : path_least xs ys path n i
      ≡ least_how (ring_up n xs) (disc_up n ys (across_at path i) (upward_at path i)) (disc_up n ys (across_at path k) (upward_at path k))
      (spot_up n (across_at path i) (upward_at path i)) (spot_up n (across_at path k) (upward_at path k))
  unfolding path_least leg_least
  least_is = rw (grid_at n path (2 * i), grid_at n path (2 * i + 1), grid_at n path (2 * k), grid_at n path (2 * k + 1))

  leg_apart : (how : ℕ) → path_least xs ys path n i ≡ clear_by how → LegApart xs ys path n i (depth_of how)
  unfolding least_how
  leg_apart how q =
      (found_told n xs ys _ _ _ _ how on_the_grid).0 (least_clear found (unparted (found 0)) 0 21 how (sym least_is ∙ q))

  leg_within : (how : ℕ) → path_least xs ys path n i ≡ enclosed_by how → LegWithin xs ys path n i (depth_of how)
  unfolding least_how
  leg_within how q =
      (found_told n xs ys _ _ _ _ how on_the_grid).1 (least_enclosed found (unparted (found 0)) 0 21 how (sym least_is ∙ q))

-- ---- all legs

-- a leg that is clear, with its how
abbrev ClearAt : (ℕ → Least) → ℕ → Type 0
ClearAt f i = (how : ℕ) × (f i ≡ clear_by how)

-- the legs from k to m, of which this is found
abbrev Legs : (ℕ → Least) → ℕ → ℕ → PathFound → Type 0
Legs f k m (Clear d) = (i : ℕ) → k ≤ i → i < k + m → (how : ℕ) × (f i ≡ clear_by how) × (depth_of how ≤ d)
Legs f k m (Edge leg edge) = (k ≤ leg) × (leg < k + m) × (f leg ≡ edge_first edge) × ((i : ℕ) → k ≤ i → i < leg → ClearAt f i)
Legs f k m (Enclosed leg) =
    (k ≤ leg) × (leg < k + m) × ((how : ℕ) × (f leg ≡ enclosed_by how)) × ((i : ℕ) → k ≤ i → i < leg → ClearAt f i)

module _ (f : ℕ → Least) (k m how : ℕ) (e : f k ≡ clear_by how) where
  -- one that is clear before them
  before : (leg : ℕ) → ((i : ℕ) → suc k ≤ i → i < leg → ClearAt f i) → (i : ℕ) → k ≤ i → i < leg → ClearAt f i
  before leg c i h l =
      ⊎_elim (λ q. (how, subst (λ (j : ℕ). f j ≡ clear_by how) q e)) (λ g. c i g l) (eq-or-lt_of_le {n = k} {m = i} h)

  one_more : (p : PathFound) → Legs f (suc k) m p → Legs f k (suc m) (deepened (depth_of how) p)
  unfolding deepened
  one_more (Clear d) c =
      λ i h l.
      ⊎_elim
      (λ q. (how, subst (λ (j : ℕ). f j ≡ clear_by how) q e, le-max_left (depth_of how) d))
      (λ g. let r = c i g (omega arith) in (r.0, r.1, le_trans r.2 (le-max_right (depth_of how) d)))
      (eq-or-lt_of_le {n = k} {m = i} h)
  one_more (Edge leg edge) c = (omega (arith, c.0), omega (arith, c.1), c.2, before leg c.3)
  one_more (Enclosed leg) c = (omega (arith, c.0), omega (arith, c.1), c.2, before leg c.3)

legs_told : (f : ℕ → Least) (k m : ℕ) → Legs f k m (legs_from f k m)
unfolding legs_from leg_then
legs_told f k zero = λ i h l. absurd (omega arith)
legs_told f k (suc m) = go (f k) refl (legs_told f (suc k) m)
  where
    go : (v : Least) → f k ≡ v → Legs f (suc k) m (legs_from f (suc k) m)
        → Legs f k (suc m) (leg_then (f k) k (legs_from f (suc k) m))
    go (clear_by how) e rest = rw e (one_more f k m how e (legs_from f (suc k) m) rest)
    go (edge_first j) e rest = rw e (omega arith, omega arith, e, λ i h l. absurd (omega arith))
    go (enclosed_by how) e rest = rw e (omega arith, omega arith, (how, e), λ i h l. absurd (omega arith))

-- ---- the call

module _ (xs ys path : List Float) (n : ℕ) (D : DrawnLent xs ys path n) (m : ℕ) (most : m ≤ length path / 2) where
  abbrev legs : ℕ → Least
  legs = path_least xs ys path n

  apart_to : (leg : ℕ) → leg ≤ m → ((i : ℕ) → 0 ≤ i → i < leg → ClearAt legs i) → ApartTo xs ys path n leg
  apart_to leg h c i l = let r = c i (omega arith) l in (r.0, r.1, leg_apart xs ys path n D i (omega arith) r.0 r.1)

  path_told : (p : PathFound) → Legs legs 0 m p → PathTold xs ys path n m p
  path_told (Clear d) c =
      λ i l E ring a b v.
      let r = c i (omega arith) (omega arith) in
      apart_more (mul-le-mul_right (2 * E) r.2) (leg_apart xs ys path n D i (omega arith) r.0 r.1 E ring a b v)
  path_told (Edge leg edge) c = (omega (arith, c.1), apart_to leg (omega (arith, c.1)) c.3, c.2)
  path_told (Enclosed leg) c =
      let h = c.2 in (
        omega (arith, c.1),
        apart_to leg (omega (arith, c.1)) c.3,
        (h.0, h.1, leg_within xs ys path n D leg (omega (arith, c.1)) h.0 h.1),
      )

pub call_told : CallTold
call_told xs ys path closed n p c =
    let a = answered (of_drawn_path xs ys path n) _ _ c in
    let points = length path / 2 in
    let count = leg_count points closed in
    let D = (path_passed xs ys path n a.0).0 in
    path_told xs ys path n D count (count_most points closed) p
    (subst (Legs (path_least xs ys path n) 0 count) a.1 (legs_told (path_least xs ys path n) 0 count))
