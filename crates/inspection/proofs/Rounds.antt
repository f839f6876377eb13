-- A stretch of places that begins at the first one of the path. The invariant: after L places it has gone round the path so many times and stands
-- at c, and each place before c has been met once more than there were rounds, each other place just as often. Assumes nothing.
use Prim.Native.Nat.{ℕ, zero, suc, ◌+◌, ◌*◌, ◌≤◌, ◌<◌}
use mathlib.Core.Path.{◌≡◌, refl}
use native.Mathlib.Omega.{arith}
use native.Mathlib.Decide.{dec_lt}
use Rattle.inspection.specs.Places.{place_after, places_from}
use Rattle.inspection.specs.Shifts.{times_in}
use Rattle.inspection.proofs.Places.{one_on, round, on}
use Rattle.inspection.proofs.Counts.{one_time, no_time, times_append, places_more}

pub record Gone (n L : ℕ) : Type 0 where
  pub rounds : ℕ
  pub at : ℕ
  pub within : at < n
  pub all : rounds * n + at ≡ L
  pub stands : place_after n 0 L ≡ at
  pub before : (p : ℕ) → p < at → times_in p (places_from n 0 L) ≡ rounds + 1
  pub beyond : (p : ℕ) → at ≤ p → p < n → times_in p (places_from n 0 L) ≡ rounds

module _ (n L : ℕ) (g : Gone n L) where
  -- the place where it stands is met once more, and no other
  met : (p : ℕ) → p ≡ g.at → times_in p (places_from n 0 (suc L)) ≡ times_in p (places_from n 0 L) + 1
  unfolding places_from
  met p h = rw (times_append p (places_from n 0 L), one_time p (place_after n 0 L) (omega (arith, g.stands)))

  unmet : (p : ℕ) → (p ≡ g.at → ⊥) → times_in p (places_from n 0 (suc L)) ≡ times_in p (places_from n 0 L)
  unfolding places_from
  unmet p h =
      rw (times_append p (places_from n 0 L), no_time p (place_after n 0 L) (λ e. h (omega (arith, g.stands)))) (omega arith)

  -- one place on, within the round
  onward : g.at + 1 < n → Gone n (suc L)
  unfolding place_after
  onward h =
      record {
        rounds = g.rounds;
        at = g.at + 1;
        within = h;
        all = omega (arith, g.all);
        stands = rw g.stands (omega (arith, one_on n g.at h));
        before = λ p l. go p (dec_lt p g.at) l;
        beyond = λ p l u. omega (arith, unmet p (λ e. omega arith), g.beyond p (omega arith) u);
      }
    where
      go : (p : ℕ) → Dec (p < g.at) → p < g.at + 1 → times_in p (places_from n 0 (suc L)) ≡ g.rounds + 1
      go p (yes s) l = omega (arith, unmet p (λ e. omega arith), g.before p s)
      go p (no s) l = omega (arith, met p (omega arith), g.beyond p (omega arith) (omega (arith, g.within)))

  -- past the last place: a round more, and at the first
  again : n ≤ g.at + 1 → Gone n (suc L)
  unfolding place_after
  again h =
      record {
        rounds = g.rounds + 1;
        at = 0;
        within = omega (arith, g.within);
        all = omega (arith, g.all, g.within);
        stands = rw g.stands (omega (arith, round n g.at h));
        before = λ p l. absurd (omega arith);
        beyond = λ p l u. go p (dec_lt p g.at) u;
      }
    where
      go : (p : ℕ) → Dec (p < g.at) → p < n → times_in p (places_from n 0 (suc L)) ≡ g.rounds + 1
      go p (yes s) u = omega (arith, unmet p (λ e. omega arith), g.before p s)
      go p (no s) u = omega (arith, met p (omega (arith, g.within)), g.beyond p (omega arith) u)

  pub one_further : Gone n (suc L)
  one_further = go (dec_lt (g.at + 1) n)
    where
      go : Dec (g.at + 1 < n) → Gone n (suc L)
      go (yes h) = onward h
      go (no h) = again (omega arith)

pub gone : (n L : ℕ) → 0 < n → Gone n L
unfolding place_after places_from times_in
gone n zero h =
    record { rounds = 0; at = 0; within = h; all = omega arith; stands = refl; before = λ p l. absurd (omega arith); beyond = λ p l u. refl }
gone n (suc L) h = one_further n L (gone n L h)

-- ---- a stretch from any place that is as long as the path, or longer, meets every place

-- the stretch from the first place on is that up to the start, and then the one from there
led : (n start L p : ℕ) → start < n → times_in p (places_from n 0 (start + L)) ≡ times_in p (places_from n 0 start) + times_in p (places_from n start L)
led n start L p h =
    let e : place_after n 0 start ≡ start = omega (arith, (on n 0 start (omega arith) (omega arith)).short (omega arith)) in
    rw (places_more n 0 start L, e) (times_append p (places_from n 0 start) (places_from n start L))

-- up to the start no place is met twice, and none from the start on at all
module _ (n start p : ℕ) (h : start < n) (u : p < n) where
  first_round : Gone n start → (times_in p (places_from n 0 start) ≤ 1) × (start ≤ p → times_in p (places_from n 0 start) ≡ 0)
  first_round g = go g.rounds refl (dec_lt p g.at)
    where
      go : (r : ℕ) → g.rounds ≡ r → Dec (p < g.at) → (times_in p (places_from n 0 start) ≤ 1) × (start ≤ p → times_in p (places_from n 0 start) ≡ 0)
      go zero e (yes s) = (omega (arith, g.before p s), λ l. absurd (omega (arith, g.all, rw e at g.all)))
      go zero e (no s) = (omega (arith, g.beyond p (omega arith) u), λ l. omega (arith, g.beyond p (omega arith) u))
      go (suc r) e d = absurd (omega (arith, rw e at g.all))

  -- a path's length later each is met once more at least
  second_round : (L : ℕ) → n ≤ L → Gone n (start + L) → (1 ≤ times_in p (places_from n 0 (start + L))) × (p < start → 2 ≤ times_in p (places_from n 0 (start + L)))
  second_round L long g = go g.rounds refl (dec_lt p g.at)
    where
      go : (r : ℕ) → g.rounds ≡ r → Dec (p < g.at)
          → (1 ≤ times_in p (places_from n 0 (start + L))) × (p < start → 2 ≤ times_in p (places_from n 0 (start + L)))
      go zero e d = absurd (omega (arith, rw e at g.all, g.within))
      go (suc r) e (yes s) = (omega (arith, g.before p s), λ l. omega (arith, g.before p s))
      go (suc zero) e (no s) = (omega (arith, g.beyond p (omega arith) u), λ l. absurd (omega (arith, rw e at g.all)))
      go (suc (suc r)) e (no s) = (omega (arith, g.beyond p (omega arith) u), λ l. omega (arith, g.beyond p (omega arith) u))

  pub meets : (L : ℕ) → n ≤ L → 1 ≤ times_in p (places_from n start L)
  meets L long = go (dec_lt p start)
    where
      a : (times_in p (places_from n 0 start) ≤ 1) × (start ≤ p → times_in p (places_from n 0 start) ≡ 0)
      a = first_round (gone n start (omega arith))

      b : (1 ≤ times_in p (places_from n 0 (start + L))) × (p < start → 2 ≤ times_in p (places_from n 0 (start + L)))
      b = second_round L long (gone n (start + L) (omega arith))

      go : Dec (p < start) → 1 ≤ times_in p (places_from n start L)
      go (yes s) = omega (arith, led n start L p h, a.0, b.1 s)
      go (no s) = omega (arith, led n start L p h, a.1 (omega arith), b.0)
