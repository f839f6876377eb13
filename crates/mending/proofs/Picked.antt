-- The numbers of a row that pass a test, by their places: they rise, and between two neighbours, before the first and behind the last none passes.
-- Past the end the place is the row's end. Assumes nothing.
use Prim.Native.Nat.{ℕ, zero, suc, ◌+◌, ◌≤◌, ◌<◌}
use mathlib.Core.Path.{◌≡◌, refl}
use mathlib.Core.Bool.{Bool, true, false}
use mathlib.Core.List.{List, [], ◌∷◌}
use native.Mathlib.Omega.{arith}
use native.Mathlib.Numerals.{add-one}
use native.Mathlib.Decide.{dec_lt}
use lib.ListN.{length, get_or}
use Rattle.contacts.specs.Contacts.{picks}
use Rattle.mending.specs.Restoring.{Climbing}

module _ (p : ℕ → Bool) (stop : ℕ) where
  -- the first place of the row from k on
  pub record First (k j : ℕ) : Type 0 where
    pub least : k ≤ j
    pub most : j ≤ stop
    pub none : (m : ℕ) → k ≤ m → m < j → p m ≡ false

  first_at : (n k : ℕ) → k + n ≡ stop → First k (get_or (picks p k n) 0 stop)
  unfolding picks
  first_at zero k e = record { least = omega arith; most = omega arith; none = λ m a b. absurd (omega arith) }
  first_at (suc n) k e = go (first_at n (suc k) (omega arith)) (p k) refl
    where
      here : First (suc k) (get_or (picks p (suc k) n) 0 stop) → p k ≡ false → (m : ℕ) → k ≤ m → m < get_or (picks p (suc k) n) 0 stop → Dec (k < m) → p m ≡ false
      here more q m a b (yes l) = more.none m (omega arith) b
      here more q m a b (no l) = let z : k ≡ m = omega arith in rw (← z) q

      go : First (suc k) (get_or (picks p (suc k) n) 0 stop) → (b : Bool) → p k ≡ b → First k (get_or (picks p k (suc n)) 0 stop)
      go more true q = rw q (record { least = omega arith; most = omega arith; none = λ m a b. absurd (omega arith) })
      go more false q = rw q (record { least = omega (arith, more.least); most = more.most; none = λ m a b. here more q m a b (dec_lt k m) })

  -- a place a of the row, and the next place b
  pub record Next (k a b : ℕ) : Type 0 where
    pub least : k ≤ a
    pub holds : p a ≡ true
    pub rises : a < b
    pub most : b ≤ stop
    pub none : (m : ℕ) → a < m → m < b → p m ≡ false

  pub next_at : (n k j : ℕ) → k + n ≡ stop → j < length (picks p k n) → Next (k + j) (get_or (picks p k n) j stop) (get_or (picks p k n) (suc j) stop)
  unfolding picks
  next_at zero k j e h = absurd (omega arith)
  next_at (suc n) k j e h = go (λ i l. next_at n (suc k) i (omega arith) l) (p k) refl j h
    where
      move : {i l a b : ℕ} → l ≤ i → Next i a b → Next l a b
      move q t = record { least = omega (arith, t.least); holds = t.holds; rises = t.rises; most = t.most; none = t.none }

      go : ((i : ℕ) → i < length (picks p (suc k) n) → Next (suc k + i) (get_or (picks p (suc k) n) i stop) (get_or (picks p (suc k) n) (suc i) stop))
          → (b : Bool) → p k ≡ b → (j : ℕ) → j < length (picks p k (suc n))
          → Next (k + j) (get_or (picks p k (suc n)) j stop) (get_or (picks p k (suc n)) (suc j) stop)
      go more true q zero h =
          let f = first_at n (suc k) (omega arith) in
          rw q (record { least = omega arith; holds = q; rises = omega (arith, f.least); most = f.most; none = λ m a b. f.none m (omega arith) b })
      go more true q (suc j) h = rw q (move (omega arith) (more j (let l = rw q at h in omega arith)))
      go more false q j h = rw q (move (omega arith) (more j (rw q at h)))

-- they rise
pub climbs : (p : ℕ → Bool) (n k : ℕ) → Climbing (picks p k n)
climbs p n k j h =
    let t = next_at p (k + n) n k j refl (omega arith) in
    rw (inside (picks p k n) j 0 (k + n) (omega arith), inside (picks p k n) (j + 1) 0 (k + n) h, add-one j) t.rises
  where
    inside : (l : List ℕ) (i d e : ℕ) → i < length l → get_or l i d ≡ get_or l i e
    inside [] i d e h = absurd (omega arith)
    inside (x ∷ l) zero d e h = refl
    inside (x ∷ l) (suc i) d e h = inside l i d e (omega arith)

-- a row of which none passes
pub picks_none : (p : ℕ → Bool) (n k : ℕ) → ((m : ℕ) → k ≤ m → m < k + n → p m ≡ false) → picks p k n ≡ []
unfolding picks
picks_none p zero k h = refl
picks_none p (suc n) k h = rw (h k (omega arith) (omega arith)) (picks_none p n (suc k) (λ m a b. h m (omega arith) (omega arith)))
