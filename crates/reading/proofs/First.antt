-- The first of the least of some of a ring's readings, by number. Of two directions the first of the one or of the other is the
-- first of both, and the first of all is `best_of`. Assumes nothing.
use Prim.Native.Nat.{ℕ, zero, suc, ◌-◌, ◌*◌, ◌≤◌, ◌<◌}
use native.Mathlib.Omega.{arith}
use native.Mathlib.Decide.{dec_lt}
use mathlib.Core.Path.{◌≡◌, refl, sym, ap, ◌∙◌}
use mathlib.Core.Bool.{Bool, true, false, cond}
use mathlib.Core.List.{List}
use lib.ListN.{length}
use Rattle.reading.specs.Reading.{Vertex, flat, less, earlier, choice, best, best_of}
use Rattle.reading.proofs.Order.{less_conn, less_trans, no_bool}
use Rattle.reading.proofs.Leasts.{best_le, best_least}

-- ---- three lists, of which two are in order and two are not

module _ (p q r : List ℕ) where
  pub less_under : less p q ≡ true → less p r ≡ false → less r q ≡ true
  less_under h k = go (less r p) refl
    where
      go : (b : Bool) → less r p ≡ b → less r q ≡ true
      go true e = less_trans r p q e h
      go false e = ap (λ (l : List ℕ). less l q) (less_conn r p e k) ∙ h

  less_over : less p q ≡ true → less r q ≡ false → less p r ≡ true
  less_over h k = go (less q r) refl
    where
      go : (b : Bool) → less q r ≡ b → less p r ≡ true
      go true e = less_trans p q r h e
      go false e = ap (less p) (less_conn r q k e) ∙ h

  -- where p is not before r nor r before q, p is not before q
  less_neither : less p r ≡ false → less r q ≡ false → less p q ≡ false
  less_neither h k = go (less p q) refl
    where
      go : (b : Bool) → less p q ≡ b → b ≡ false
      go false e = refl
      go true e = no_bool (sym h ∙ less_over e k)

-- ---- the first of the least of the readings lo .. hi - 1

pub record Foremost (r : List Vertex) (lo hi b : ℕ) : Type 0 where
  pub from : lo ≤ b
  pub to : b < hi
  pub least : (c : ℕ) → lo ≤ c → c < hi → earlier (choice r c) (choice r b) ≡ false
  pub first : (c : ℕ) → lo ≤ c → c < b → earlier (choice r b) (choice r c) ≡ true

abbrev at : List Vertex → ℕ → List ℕ
at r c = flat (choice r c)

module _ (r : List Vertex) (mid hi f b : ℕ) (p : Foremost r 0 mid f) (q : Foremost r mid hi b) where
  pub join_back : earlier (choice r b) (choice r f) ≡ true → Foremost r 0 hi b
  join_back h = record { from = omega arith; to = q.to; least = none; first = one }
    where
      none : (c : ℕ) → 0 ≤ c → c < hi → earlier (choice r c) (choice r b) ≡ false
      none c z l = go (dec_lt c mid) (earlier (choice r c) (choice r b)) refl
        where
          go : Dec (c < mid) → (t : Bool) → earlier (choice r c) (choice r b) ≡ t → t ≡ false
          go d false e = refl
          go (yes m) true e = no_bool (sym (p.least c z m) ∙ less_trans (at r c) (at r b) (at r f) e h)
          go (no m) true e = no_bool (sym (q.least c (omega arith) l) ∙ e)

      one : (c : ℕ) → 0 ≤ c → c < b → earlier (choice r b) (choice r c) ≡ true
      one c z l = go (dec_lt c mid)
        where
          go : Dec (c < mid) → earlier (choice r b) (choice r c) ≡ true
          go (yes m) = less_over (at r b) (at r f) (at r c) h (p.least c z m)
          go (no m) = q.first c (omega arith) l

  pub join_on : earlier (choice r b) (choice r f) ≡ false → Foremost r 0 hi f
  join_on h = record { from = omega arith; to = omega (arith, p.to, q.from, q.to); least = none; first = p.first }
    where
      none : (c : ℕ) → 0 ≤ c → c < hi → earlier (choice r c) (choice r f) ≡ false
      none c z l = go (dec_lt c mid)
        where
          go : Dec (c < mid) → earlier (choice r c) (choice r f) ≡ false
          go (yes m) = p.least c z m
          go (no m) = less_neither (at r c) (at r f) (at r b) (q.least c (omega arith) l) h

-- ---- the first of all

best_first : (r : List Vertex) (c j : ℕ) → j < best r c → earlier (choice r (best r c)) (choice r j) ≡ true
unfolding best
best_first r zero j h = absurd (omega arith)
best_first r (suc c) j h = go (earlier (choice r (suc c)) (choice r (best r c))) refl h (best_first r c j)
  where
    go : (b : Bool) → less (at r (suc c)) (at r (best r c)) ≡ b → j < cond b (suc c) (best r c)
        → (j < best r c → less (at r (best r c)) (at r j) ≡ true)
        → less (at r (cond b (suc c) (best r c))) (at r j) ≡ true
    go true e l ih = less_over (at r (suc c)) (at r (best r c)) (at r j) e (best_least r c j (omega arith))
    go false e l ih = ih l

pub first_of_all : (r : List Vertex) (b : ℕ) → Foremost r 0 (2 * length r) b → b ≡ best_of r
unfolding best_of
first_of_all r b p = go (dec_lt b a) (dec_lt a b)
  where
    a : ℕ
    a = best r (2 * length r - 1)

    low : a < 2 * length r
    low = omega (arith, best_le r (2 * length r - 1), p.to)

    go : Dec (b < a) → Dec (a < b) → b ≡ a
    go (yes l) d = no_bool (sym (p.least a (omega arith) low) ∙ best_first r (2 * length r - 1) b l)
    go (no l) (yes d) = no_bool (sym (best_least r (2 * length r - 1) b (omega (arith, p.to))) ∙ p.first a (omega arith) d)
    go (no l) (no d) = omega arith
