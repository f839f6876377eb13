-- The theorems over shifts on one path with one k: the places of one differ; so many as n divided by k, rounded up, inspect every place, from any
-- start; and from start 0 no place is inspected more than once oftener than another. Assumes nothing.
use Prim.Native.Nat.{ℕ, zero, suc, ◌+◌, ◌*◌, ◌-◌, ◌%◌, ◌≤◌, ◌<◌}
use mathlib.Core.Path.{◌≡◌, refl}
use native.Mathlib.Omega.{arith}
use native.Mathlib.Nat.{lt-div-mul-add}
use native.Mathlib.Decide.{dec_lt, dec_le}
use lib.ListN.{length, get_or}
use borrow.Author.Tests.{le-leb, lt-leb}
use Rattle.inspection.specs.Places.{place_after, places_from, per_shift, shift_places, following_start}
use Rattle.inspection.specs.Shifts.{shifts_from, times_in, times, rounded_up}
use Rattle.inspection.proofs.Places.{after_below, places_length, place_at, On, on, remainder}
use Rattle.inspection.proofs.Counts.{run_times}
use Rattle.inspection.proofs.Rounds.{Gone, gone, meets}

module _ (n k : ℕ) where
  takes_k : k ≤ n → per_shift n k ≡ k
  unfolding per_shift
  takes_k h = rw (le-leb k n h)

  takes_all : n < k → per_shift n k ≡ n
  unfolding per_shift
  takes_all h = rw (lt-leb k n h)

  -- at most as many as there are
  pub per_most : per_shift n k ≤ n
  per_most = go (dec_le k n)
    where
      go : Dec (k ≤ n) → per_shift n k ≤ n
      go (yes h) = omega (arith, takes_k h)
      go (no h) = omega (arith, takes_all (omega arith))

  -- the following start is a place of the path: the start and the shift's places on, taken round
  pub following_is : (start : ℕ) → start < n → following_start n k start ≡ (start + per_shift n k) % n
  following_is start h = remainder n start (per_shift n k) h per_most

  pub following_below : (start : ℕ) → start < n → following_start n k start < n
  following_below start h = after_below n start (per_shift n k) h

  -- a shift that inspects all leaves the start where it is
  pub stays : (start : ℕ) → start < n → n ≤ k → following_start n k start ≡ start
  stays start h l = go (dec_le k n)
    where
      round : place_after n start n ≡ start
      round = omega (arith, (on n start n h (omega arith)).past (omega arith))

      go : Dec (k ≤ n) → following_start n k start ≡ start
      go (yes q) = let e : per_shift n k ≡ n = omega (arith, takes_k q) in rw e round
      go (no q) = rw (takes_all (omega arith)) round

  -- two places of one shift differ
  pub differ : (start i j : ℕ) → start < n → i < length (shift_places n k start) → j < length (shift_places n k start)
      → get_or (shift_places n k start) i 0 ≡ get_or (shift_places n k start) j 0 → i ≡ j
  differ start i j h a b e =
      let m = per_shift n k in
      let l = places_length n start m in
      let p = per_most in
      let x = place_at n start m i (omega arith) in
      let y = place_at n start m j (omega arith) in
      apart (on n start i h (omega arith)) (on n start j h (omega arith)) (omega arith) (omega arith) (omega arith)
    where
      apart : {x y : ℕ} → On n start i x → On n start j y → i < n → j < n → x ≡ y → i ≡ j
      apart u v s t q = go (dec_lt (start + i) n) (dec_lt (start + j) n)
        where
          go : Dec (start + i < n) → Dec (start + j < n) → i ≡ j
          go (yes a) (yes b) = omega (arith, u.short a, v.short b)
          go (yes a) (no b) = omega (arith, u.short a, v.past (omega arith))
          go (no a) (yes b) = omega (arith, u.past (omega arith), v.short b)
          go (no a) (no b) = omega (arith, u.past (omega arith), v.past (omega arith))

  -- so many shifts have as many places as the path, or more
  enough : 0 < n → 0 < k → n ≤ rounded_up n k * per_shift n k
  enough h l = go (rounded_up n k) refl (dec_le k n)
    where
      c : n ≤ rounded_up n k * k
      c = let above : n + (k - 1) < rounded_up n k * k + k = lt-div-mul-add l in omega arith

      go : (r : ℕ) → rounded_up n k ≡ r → Dec (k ≤ n) → n ≤ rounded_up n k * per_shift n k
      go r e (yes q) = rw (takes_k q) c
      go zero e (no q) = absurd (omega (arith, rw e at c))
      go (suc r) e (no q) = rw (takes_all (omega arith), e) (omega arith)

  -- n divided by k, rounded up, shifts inspect every place at least once
  pub every_place : (start p : ℕ) → 0 < k → start < n → p < n → 1 ≤ times p (shifts_from n k start (rounded_up n k))
  every_place start p l h u = rw (run_times n k p start (rounded_up n k)) (meets n start p h u _ (enough (omega arith) l))

  -- from start 0, after any number of shifts, no place was inspected more than once oftener than another
  pub evenly : (shifts p q : ℕ) → p < n → q < n → times p (shifts_from n k 0 shifts) ≤ times q (shifts_from n k 0 shifts) + 1
  evenly shifts p q u v = rw (run_times n k p 0 shifts, run_times n k q 0 shifts) (level (gone n (shifts * per_shift n k) (omega arith)) (dec_lt p _) (dec_lt q _))
    where
      level : {L : ℕ} (g : Gone n L) → Dec (p < g.at) → Dec (q < g.at) → times_in p (places_from n 0 L) ≤ times_in q (places_from n 0 L) + 1
      level g (yes a) (yes b) = omega (arith, g.before p a, g.before q b)
      level g (yes a) (no b) = omega (arith, g.before p a, g.beyond q (omega arith) v)
      level g (no a) (yes b) = omega (arith, g.beyond p (omega arith) u, g.before q b)
      level g (no a) (no b) = omega (arith, g.beyond p (omega arith) u, g.beyond q (omega arith) v)
