-- The rule of `is_simple_polygon` in whole numbers holds exactly if there are three vertices or more and no two edges that are
-- not neighbours have a point in common. Assumes nothing.
use Prim.Native.Nat.{ℕ, ◌+◌, ◌-◌, ◌%◌, ◌<◌}
use native.Mathlib.Omega.{arith}
use native.Mathlib.Nat.{mod-eq_of_lt, mod_self, eq-or-lt_of_le}
use mathlib.Core.Path.{◌≡◌, refl, sym, ◌∙◌, ap}
use mathlib.Core.Logic.{◌↔◌, ◌≢◌, ⊎_elim}
use mathlib.Core.Bool.{Bool, true, false, not, ◌&&◌, ◌||◌, or-true, true≢false}
use lib.Dec.{leb, eqb}
use lib.IntN.{ℤ}
use borrow.Author.Tests.{leb-true, le-leb, eqb-true, eq-eqb, not-true}
use Rattle.laws.proofs.Both.{both, one_of}
use Rattle.ring.specs.Each.{each}
use Rattle.ring.specs.Ring.{next_of}
use Rattle.simple_polygon.specs.Simple.{adjacent_of}
use Rattle.shifted.specs.declared.Spot.{Spot}
use Rattle.whole_rules.specs.Segments.{whole_intersect}
use Rattle.whole_rules.specs.Simple.{whole_clear_pair, whole_clear_row, whole_simple}
use Rattle.whole_plane.specs.Plane.{WholePoint, Common, point_of}
use Rattle.whole_plane.specs.Rings.{NotNeighbours, SimpleRing}
use Rattle.whole_plane.proofs.Signs.{Turned, left, right, level, compared}
use Rattle.whole_plane.proofs.Meeting.{intersect_exactly}
use Rattle.whole_plane.proofs.Each.{each_every, every_each}

-- ---- neighbours, as the rule reads them: of i before j, j comes next, or they are the first and the last

module _ (n i j : ℕ) (l : i < j) (m : j < n) where
  next_is : next_of i n ≡ i + 1
  next_is = mod-eq_of_lt (omega arith)

  -- the last edge ends where the first begins
  last_next : j + 1 ≡ n → next_of j n ≡ 0
  last_next e = ap (λ (k : ℕ). k % n) e ∙ mod_self n

  not_adjacent : NotNeighbours n i j → adjacent_of i j n ≡ true → ⊥
  unfolding adjacent_of
  not_adjacent h e =
      ⊎_elim (λ f. h.not_after (eqb-true j (i + 1) f ∙ sym next_is))
      (λ f.
      let t = both (eqb i 0) (eqb j (n - 1)) f in
      let k = eqb-true j (n - 1) t.1 in
      h.not_before (eqb-true i 0 t.0 ∙ sym (last_next (omega arith))))
      (one_of (eqb j (i + 1)) (eqb i 0 && eqb j (n - 1)) e)

  comes_next : j ≡ i + 1 → adjacent_of i j n ≡ true
  unfolding adjacent_of
  comes_next e = rw (eq-eqb j (i + 1) e)

  first_and_last : i ≡ 0 → j ≡ n - 1 → adjacent_of i j n ≡ true
  unfolding adjacent_of
  first_and_last e f = rw (eq-eqb i 0 e, eq-eqb j (n - 1) f) (or-true (eqb j (i + 1)))

  not_next : adjacent_of i j n ≡ false → j ≢ next_of i n
  not_next h e = true≢false (sym (comes_next (e ∙ next_is)) ∙ h)

  not_last : adjacent_of i j n ≡ false → i ≢ next_of j n
  not_last h e =
      ⊎_elim
      (λ f. let k = last_next f in true≢false (sym (first_and_last (e ∙ k) (omega arith)) ∙ h))
      (λ f. let k : next_of j n ≡ j + 1 = mod-eq_of_lt f in omega arith)
      (eq-or-lt_of_le {n = j + 1} {m = n} (omega arith))

  adjacent_not : adjacent_of i j n ≡ false → NotNeighbours n i j
  adjacent_not h = record { two = λ e. omega arith; not_after = not_next h; not_before = not_last h }

not_exchanged : {n i j : ℕ} → NotNeighbours n i j → NotNeighbours n j i
not_exchanged h = record { two = λ e. h.two (sym e); not_after = h.not_before; not_before = h.not_after }

common_exchanged : {a b c d : WholePoint} → Common a b c d → Common c d a b
common_exchanged h =
    record {
      n = h.n;
      s = h.t;
      t = h.s;
      above = h.above;
      s_most = h.t_most;
      t_most = h.s_most;
      across = sym h.across;
      upward = sym h.upward;
    }

-- ---- a pair, a row, a ring

module _ (at : ℕ → Spot) (n : ℕ) where
  -- the edges i and j have a point in common
  abbrev Crossing : ℕ → ℕ → Type 0
  Crossing i j = Common (point_of (at i)) (point_of (at (next_of i n))) (point_of (at j)) (point_of (at (next_of j n)))

  pair_clear : (i j : ℕ) → i < j → j < n → whole_clear_pair at n i j ≡ true → NotNeighbours n i j → Crossing i j → ⊥
  unfolding whole_clear_pair
  pair_clear i j l m h r c =
      let meet = whole_intersect (at i) (at (next_of i n)) (at j) (at (next_of j n)) in
      ⊎_elim (λ e. not_adjacent n i j l m r e)
      (λ e. true≢false (sym ((intersect_exactly (at i) (at (next_of i n)) (at j) (at (next_of j n))).1 c) ∙ not-true meet e))
      (one_of (adjacent_of i j n) (not meet) h)

  clear_pair : (i j : ℕ) → i < j → j < n → (NotNeighbours n i j → Crossing i j → ⊥) → whole_clear_pair at n i j ≡ true
  unfolding whole_clear_pair
  clear_pair i j l m h = go (adjacent_of i j n) (whole_intersect (at i) (at (next_of i n)) (at j) (at (next_of j n))) refl refl
    where
      go : (s t : Bool) → adjacent_of i j n ≡ s → whole_intersect (at i) (at (next_of i n)) (at j) (at (next_of j n)) ≡ t → s || not t ≡ true
      go true t e f = refl
      go false false e f = refl
      go false true e f = absurd (h (adjacent_not n i j l m e) ((intersect_exactly (at i) (at (next_of i n)) (at j) (at (next_of j n))).0 f))

  row_pair : (i j : ℕ) → i < j → j < n → whole_clear_row at n i ≡ true → whole_clear_pair at n i j ≡ true
  unfolding whole_clear_row
  row_pair i j l m h = each_every (whole_clear_pair at n i) (i + 1) (n - (i + 1)) h j (omega arith) (omega arith)

  is_clear : each (whole_clear_row at n) 0 n ≡ true → (i j : ℕ) → i < n → j < n → NotNeighbours n i j → Crossing i j → ⊥
  is_clear h i j k m r c = go (compared i j)
    where
      row : (o : ℕ) → o < n → whole_clear_row at n o ≡ true
      row o q = each_every (whole_clear_row at n) 0 n h o (omega arith) (omega arith)

      go : {d : ℤ} → Turned i j d → ⊥
      go (right l) = pair_clear i j l m (row_pair i j l m (row i k)) r c
      go (left l) = pair_clear j i l k (row_pair j i l k (row j m)) (not_exchanged r) (common_exchanged c)
      go (level e) = r.two e

  clear_is : ((i j : ℕ) → i < n → j < n → NotNeighbours n i j → Crossing i j → ⊥) → each (whole_clear_row at n) 0 n ≡ true
  unfolding whole_clear_row
  clear_is h =
      every_each (whole_clear_row at n) 0 n
      (λ i l m. every_each (whole_clear_pair at n i) (i + 1) (n - (i + 1))
      (λ j o q. clear_pair i j (omega arith) (omega arith) (h i j (omega arith) (omega arith))))

  -- the rule holds exactly if the ring is simple by its points
  pub simple_exactly : whole_simple at n ≡ true ↔ SimpleRing (λ i. point_of (at i)) n
  unfolding whole_simple
  simple_exactly = (
    λ h.
        let t = both (leb 3 n) (each (whole_clear_row at n) 0 n) h in
        record { three = leb-true 3 n t.0; clear = is_clear t.1 },
    λ h. rw (le-leb 3 n h.three, clear_is h.clear),
  )
