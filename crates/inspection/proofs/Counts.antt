-- How often a place stands in a stretch of places, and that a run of shifts is one stretch. Assumes nothing.
use Prim.Native.Nat.{ℕ, zero, suc, ◌+◌, ◌*◌}
use mathlib.Core.Path.{◌≡◌, ap}
use mathlib.Core.List.{List, [], ◌∷◌, ◌++◌, append_assoc, append-nil}
use native.Mathlib.Omega.{arith}
use borrow.Author.Tests.{eq-eqb, ne_eqb}
use Rattle.inspection.specs.Places.{place_after, places_from, per_shift, shift_places, following_start}
use Rattle.inspection.specs.Shifts.{shifts_from, times_in, times}

-- ---- places counted

pub one_time : (place p : ℕ) → p ≡ place → times_in place (p ∷ []) ≡ 1
unfolding times_in
one_time place p h = rw (eq-eqb p place h)

pub no_time : (place p : ℕ) → (p ≡ place → ⊥) → times_in place (p ∷ []) ≡ 0
unfolding times_in
no_time place p h = rw (ne_eqb p place h)

pub times_append : (place : ℕ) (u v : List ℕ) → times_in place (u ++ v) ≡ times_in place u + times_in place v
unfolding times_in
times_append place [] v = omega arith
times_append place (p ∷ u) v = rw (times_append place u v) (omega arith)

-- ---- one stretch after another is one stretch

after_more : (n p a b : ℕ) → place_after n p (a + b) ≡ place_after n (place_after n p a) b
unfolding place_after
after_more n p a zero = let e : a + 0 ≡ a = omega arith in ap (place_after n p) e
after_more n p a (suc b) = let e : a + suc b ≡ suc (a + b) = omega arith in rw (e, after_more n p a b)

pub places_more : (n p a b : ℕ) → places_from n p (a + b) ≡ places_from n p a ++ places_from n (place_after n p a) b
unfolding places_from
places_more n p a zero = let e : a + 0 ≡ a = omega arith in rw (e, append-nil)
places_more n p a (suc b) = let e : a + suc b ≡ suc (a + b) = omega arith in rw (e, places_more n p a b, after_more n p a b, append_assoc)

-- how often a place is inspected in a run is how often it stands in the stretch of all its places
pub run_times : (n k place start more : ℕ) → times place (shifts_from n k start more) ≡ times_in place (places_from n start (more * per_shift n k))
unfolding shifts_from times times_in places_from
run_times n k place start zero = let e : 0 * per_shift n k ≡ 0 = omega arith in rw e
run_times n k place start (suc more) =
    let m = per_shift n k in
    let e : suc more * m ≡ m + more * m = omega arith in
    rw (e, places_more n start m (more * m), times_append place (shift_places n k start) (places_from n (following_start n k start) (more * m)), run_times n k place (following_start n k start) more)
