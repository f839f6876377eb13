-- The places of a path from one of them on: each is below n, so many are so many, and the i-th is i on, taken round once. Assumes nothing.
use Prim.Native.Nat.{ℕ, zero, suc, ◌+◌, ◌%◌, ◌≤◌, ◌<◌}
use mathlib.Core.Path.{◌≡◌, refl, sym, ◌∙◌}
use mathlib.Core.List.{[], ◌∷◌, ◌++◌}
use native.Mathlib.Omega.{arith}
use native.Mathlib.Nat.{mod-eq_of_lt, add-mod_right}
use native.Mathlib.Decide.{dec_lt}
use lib.ListN.{length, get_or, length-append, get_or-append}
use lib.Seq.{get_or_at}
use borrow.Author.Tests.{lt-ltb, le-ltb}
use Rattle.inspection.specs.Places.{next_place, place_after, places_from}

-- one on, and at the last place on to the first
pub one_on : (n p : ℕ) → p + 1 < n → p + 1 ≡ next_place n p
unfolding next_place
one_on n p h = rw (lt-ltb (p + 1) n h)

pub round : (n p : ℕ) → n ≤ p + 1 → 0 ≡ next_place n p
unfolding next_place
round n p h = rw (le-ltb (p + 1) n h)

pub next_below : (n p : ℕ) → p < n → next_place n p < n
next_below n p h = go (dec_lt (p + 1) n)
  where
    go : Dec (p + 1 < n) → next_place n p < n
    go (yes l) = omega (arith, one_on n p l)
    go (no l) = omega (arith, round n p (omega arith))

pub after_below : (n p i : ℕ) → p < n → place_after n p i < n
unfolding place_after
after_below n p zero h = h
after_below n p (suc i) h = next_below n (place_after n p i) (after_below n p i h)

pub places_length : (n p m : ℕ) → length (places_from n p m) ≡ m
unfolding places_from
places_length n p zero = refl
places_length n p (suc m) = simp length-append (omega (arith, places_length n p m))

-- the i-th of the places is i places on
pub place_at : (n p m i : ℕ) → i < m → get_or (places_from n p m) i 0 ≡ place_after n p i
unfolding places_from
place_at n p zero i h = elim h [ ]
place_at n p (suc m) i h = go (dec_lt i m) (place_at n p m i)
  where
    go : Dec (i < m) → (i < m → get_or (places_from n p m) i 0 ≡ place_after n p i)
        → get_or (places_from n p m ++ (place_after n p m ∷ [])) i 0 ≡ place_after n p i
    go (yes l) before = get_or-append (places_from n p m) (place_after n p m ∷ []) 0 i (omega (arith, places_length n p m)) ∙ before l
    go (no l) before =
        let e : m ≡ i = omega arith in
        rw (← e) (get_or_at (places_from n p m) (place_after n p m) [] 0 m (places_length n p m))

-- up to n places on: the sum, or the sum less n
pub record On (n p i at : ℕ) : Type 0 where
  pub short : p + i < n → at ≡ p + i
  pub past : n ≤ p + i → at + n ≡ p + i

one_more : (n p i at : ℕ) → p < n → suc i ≤ n → On n p i at → On n p (suc i) (next_place n at)
one_more n p i at h l before =
    record {
      short = λ s. omega (arith, before.short (omega arith), one_on n at (omega (arith, before.short (omega arith))));
      past = go (dec_lt (p + i) n);
    }
  where
    go : Dec (p + i < n) → n ≤ p + suc i → next_place n at + n ≡ p + suc i
    go (yes s) t = let e = before.short s in omega (arith, round n at (omega arith))
    go (no s) t = let e = before.past (omega arith) in omega (arith, one_on n at (omega arith))

pub on : (n p i : ℕ) → p < n → i ≤ n → On n p i (place_after n p i)
unfolding place_after
on n p zero h l = record { short = λ s. omega arith; past = λ s. omega arith }
on n p (suc i) h l = one_more n p i (place_after n p i) h l (on n p i h (omega arith))

-- which is the remainder of the sum
pub remainder : (n p i : ℕ) → p < n → i ≤ n → place_after n p i ≡ (p + i) % n
remainder n p i h l = go (dec_lt (p + i) n)
  where
    at : On n p i (place_after n p i)
    at = on n p i h l

    go : Dec (p + i < n) → place_after n p i ≡ (p + i) % n
    go (yes s) = at.short s ∙ sym (mod-eq_of_lt s)
    go (no s) =
        let e : p + i ≡ place_after n p i + n = sym (at.past (omega arith)) in
        rw (e, add-mod_right) (sym (mod-eq_of_lt (after_below n p i h)))
