-- No two neighbours of a mended ring are equal as numbers, the last and the first included. Assumes nothing.
use Prim.Native.Nat.{ℕ, zero, suc, ◌+◌, ◌*◌, ◌-◌, ◌%◌, ◌≤◌, ◌<◌}
use mathlib.Core.Path.{◌≡◌, refl, sym, ap, ◌∙◌}
use mathlib.Core.Bool.{Bool, true, false}
use mathlib.Core.List.{List, [], ◌∷◌}
use native.Mathlib.Omega.{arith}
use native.Mathlib.Nat.{mod-eq_of_lt, mod_self}
use native.Mathlib.Numerals.{add-one}
use native.Mathlib.Decide.{dec_lt, dec_le}
use lib.ListN.{length, get_or, get_or-eq_default}
use lib.Ieee.{Float}
use Rattle.plane.specs.Vector.{same_of}
use Rattle.ring.specs.Ring.{count, point_at, next_of}
use Rattle.mending.specs.Mending.{repeats_at, goes_at, stays_at, staying, vertices_at, mended_of}
use Rattle.mending.specs.Restoring.{Differing}
use Rattle.mending.proofs.Equal.{same_back, same_trans, refuted}
use Rattle.mending.proofs.Trailing.{trails_at, trails_of, trails_later}
use Rattle.mending.proofs.Fates.{repeated, goes_run, goes_trailing, goes_apart, goes_first, goes_not, stays_goes}
use Rattle.mending.proofs.Counting.{stay_here}
use Rattle.mending.proofs.Writing.{vertices_length}
use Rattle.mending.proofs.Picked.{Next, next_at}

-- two answers of one test
pub never : {b : Bool} → b ≡ true → b ≡ false → ⊥
never h k = let z : true ≡ false = sym h ∙ k in let y : ◌≡◌ {A = ℕ} 0 1 = cc in omega arith

module _ (r : List Float) where
  -- vertex after vertex repeats the one before it, from a to j
  chain : (j a : ℕ) → a < j → ((m : ℕ) → a < m → m ≤ j → repeats_at r m ≡ true) → same_of (point_at r a) (point_at r j) ≡ true
  chain zero a l h = absurd (omega arith)
  chain (suc j) a l h = go (λ k. chain j a k (λ m x y. h m x (omega arith))) (dec_lt a j)
    where
      last : same_of (point_at r j) (point_at r (suc j)) ≡ true
      last = repeated r j (h (suc j) l (omega arith))

      go : (a < j → same_of (point_at r a) (point_at r j) ≡ true) → Dec (a < j) → same_of (point_at r a) (point_at r (suc j)) ≡ true
      go more (yes k) = same_trans (point_at r a) (point_at r j) (point_at r (suc j)) (more k) last
      go more (no k) = let z : j ≡ a = omega arith in rw (← z) last

  module _ (a b : ℕ) (l : a < b) (between : (m : ℕ) → a < m → m < b → goes_at r m ≡ true) where
    -- b stays: those between a and b are of the run of a
    module _ (stays : goes_at r b ≡ false) where
      runs : (m : ℕ) → a < m → m < b → repeats_at r m ≡ true
      runs m x y = go (repeats_at r m) refl
        where
          go : (q : Bool) → repeats_at r m ≡ q → q ≡ true
          go true e = refl
          go false e = absurd (never (goes_trailing r b (λ z. omega arith) (trails_later r m b (omega arith) (goes_apart r m (between m x y) e))) stays)

      apart : same_of (point_at r a) (point_at r b) ≡ true → repeats_at r b ≡ true
      apart h = go (dec_lt a (b - 1))
        where
          go : Dec (a < b - 1) → repeats_at r b ≡ true
          go (yes k) =
              same_trans (point_at r (b - 1)) (point_at r a) (point_at r b) (same_back (point_at r a) (point_at r (b - 1)) (chain (b - 1) a k (λ m x y. runs m x (omega arith)))) h
          go (no k) = let z : a ≡ b - 1 = omega arith in rw (← z) h

      pub next_differs : same_of (point_at r a) (point_at r b) ≡ false
      next_differs = refuted (same_of (point_at r a) (point_at r b)) (λ h. never (goes_run r b (λ z. omega arith) (apart h)) stays)

    -- b is the end: were a equal to the first, so were all after it
    module _ (end : b ≡ count r) (some : 0 < a) (stays : goes_at r a ≡ false) where
      all : same_of (point_at r 0) (point_at r a) ≡ true → (m : ℕ) → a ≤ m → m < count r → same_of (point_at r 0) (point_at r m) ≡ true
      all h zero x y = absurd (omega arith)
      all h (suc m) x y = go (λ k. all h m k (omega arith)) (dec_le a m)
        where
          by : same_of (point_at r 0) (point_at r m) ≡ true → a ≤ m → (q : Bool) → repeats_at r (suc m) ≡ q → same_of (point_at r 0) (point_at r (suc m)) ≡ true
          by e k true f = same_trans (point_at r 0) (point_at r m) (point_at r (suc m)) e (repeated r m f)
          by e k false f =
              trails_at r (suc m) (suc m) (goes_apart r (suc m) (between (suc m) (omega arith) (omega arith)) f) (omega arith) y

          go : (a ≤ m → same_of (point_at r 0) (point_at r m) ≡ true) → Dec (a ≤ m) → same_of (point_at r 0) (point_at r (suc m)) ≡ true
          go before (yes k) = by (before k) k (repeats_at r (suc m)) refl
          go before (no k) = let z : a ≡ suc m = omega arith in rw (← z) h

      pub last_differs : same_of (point_at r a) (point_at r 0) ≡ false
      last_differs =
          refuted (same_of (point_at r a) (point_at r 0))
          (λ h. never (goes_trailing r a (λ z. omega arith) (trails_of r a (all (same_back (point_at r a) (point_at r 0) h)))) stays)

-- vertex k of those with these indices
vertex_here : (r : List Float) (i : ℕ) (is : List ℕ) → point_at (vertices_at r (i ∷ is)) 0 ≡ point_at r i
unfolding vertices_at point_at
vertex_here r i is = refl

vertex_later : (r : List Float) (i : ℕ) (is : List ℕ) (k : ℕ) → point_at (vertices_at r (i ∷ is)) (suc k) ≡ point_at (vertices_at r is) k
unfolding vertices_at point_at
vertex_later r i is k =
    let a : 2 * suc k ≡ suc (suc (2 * k)) = omega arith in
    let b : suc (suc (2 * k)) + 1 ≡ suc (suc (2 * k + 1)) = omega arith in
    rw (a, b)

pub vertex_at : (r : List Float) (is : List ℕ) (k d : ℕ) → k < length is → point_at (vertices_at r is) k ≡ point_at r (get_or is k d)
vertex_at r [] k d h = absurd (omega arith)
vertex_at r (i ∷ is) zero d h = vertex_here r i is
vertex_at r (i ∷ is) (suc k) d h = vertex_later r i is k ∙ vertex_at r is k d (omega arith)

module _ (r : List Float) where
  pub mended_count : count (mended_of r) ≡ length (staying r)
  mended_count = omega (arith, vertices_length r (staying r))

  -- the index of the vertex that stays as the k-th; past the last the end
  abbrev pub place : ℕ → ℕ
  place k = get_or (staying r) k (count r)

  -- the vertices that stay, one by one
  pub staying_next : (k : ℕ) → k < length (staying r) → Next (stays_at r) (count r) (0 + k) (place k) (place (suc k))
  staying_next k h = next_at (stays_at r) (count r) (count r - 0) 0 k (omega arith) h

  -- the first vertex stays
  pub first_stays : 1 ≤ count r → place 0 ≡ 0
  first_stays h = ap (λ (l : List ℕ). get_or l 0 (count r)) (stay_here r 0 h (goes_first r))

  module _ (k : ℕ) (h : k < length (staying r)) where
    goes_between : (m : ℕ) → place k < m → m < place (suc k) → goes_at r m ≡ true
    goes_between m a b = stays_goes r m ((staying_next k h).none m a b)

    -- one that stays, and the next that does
    inner : suc k < length (staying r) → same_of (point_at r (place k)) (point_at r (place (suc k))) ≡ false
    inner l = next_differs r (place k) (place (suc k)) (staying_next k h).rises goes_between (goes_not r (place (suc k)) (staying_next (suc k) l).holds)

    -- the last that stays, and the first
    outer : 1 ≤ k → suc k ≡ length (staying r) → same_of (point_at r (place k)) (point_at r 0) ≡ false
    outer some e =
        let n = staying_next k h in
        let z : place (suc k) ≡ count r = get_or-eq_default (staying r) (count r) (omega arith) in
        last_differs r (place k) (place (suc k)) n.rises goes_between z (omega (arith, n.least)) (goes_not r (place k) n.holds)

  pub neighbours_differ : 2 ≤ length (staying r) → Differing (mended_of r)
  neighbours_differ two k h = go (dec_lt (k + 1) (length (staying r)))
    where
      l : k < length (staying r)
      l = omega (arith, mended_count)

      here : point_at (mended_of r) k ≡ point_at r (place k)
      here = vertex_at r (staying r) k (count r) l

      some : 1 ≤ count r
      some = omega (arith, (staying_next 0 (omega arith)).rises, (staying_next 0 (omega arith)).most)

      go : Dec (k + 1 < length (staying r)) → same_of (point_at (mended_of r) k) (point_at (mended_of r) (next_of k (count (mended_of r)))) ≡ false
      go (yes q) =
          let e : (k + 1) % count (mended_of r) ≡ suc k = rw mended_count (mod-eq_of_lt q) ∙ add-one k in
          rw (e, here, vertex_at r (staying r) (suc k) (count r) (omega arith)) (inner k l (omega arith))
      go (no q) =
          let e : (k + 1) % count (mended_of r) ≡ 0 = wraps in
          rw (e, here, vertex_at r (staying r) 0 (count r) (omega arith), first_stays some) (outer k l (omega (arith, mended_count)) (omega (arith, mended_count)))
        where
          wraps : (k + 1) % count (mended_of r) ≡ 0
          wraps = let z : k + 1 ≡ length (staying r) = omega (arith, mended_count) in rw (mended_count, z) (mod_self (length (staying r)))
