-- Two starts i < j in one direction push each other on. What holds all the while (`Open`): the first k coordinates of their
-- readings are the same, and every start before j but i is beaten. Where the next coordinates differ, the start of the higher
-- one is beaten, and so is each start as far after it as the readings agree: by the start as far after the other. Assumes nothing.
use Prim.Native.Nat.{ℕ, zero, suc, ◌+◌, ◌-◌, ◌*◌, ◌/◌, ◌≤◌, ◌<◌}
use native.Mathlib.Omega.{arith}
use native.Mathlib.Decide.{dec_lt}
use mathlib.Core.Path.{◌≡◌, sym, ap, ◌∙◌}
use Rattle.reading.specs.Starts.{Ahead, Beaten, Settled}

module _ (g : ℕ → ℕ) (n : ℕ) where
  pub record Open (i j k : ℕ) : Type 0 where
    pub order : i < j
    pub short : k ≤ 2 * n
    pub same : (m : ℕ) → m < k → g (2 * i + m) ≡ g (2 * j + m)
    pub others : (u : ℕ) → u < j → (u ≡ i → ⊥) → Beaten g n u

  -- ---- starts that have one reading

  ahead_like : (a b c : ℕ) → ((m : ℕ) → g (a + m) ≡ g (b + m)) → Ahead g (2 * n) a c → Ahead g (2 * n) b c
  ahead_like a b c e h =
      record {
        place = h.place;
        within = h.within;
        same = λ m l. sym (e m) ∙ h.same m l;
        lower = omega (arith, e h.place, h.lower);
      }

  pub beaten_like : (u v : ℕ) → ((m : ℕ) → g (2 * u + m) ≡ g (2 * v + m)) → Beaten g n u → Beaten g n v
  beaten_like u v e h =
      let a = h.ahead in
      record {
        by = h.by;
        low = h.low;
        ahead = record {
          place = a.place;
          within = a.within;
          same = λ m l. a.same m l ∙ e m;
          lower = omega (arith, e a.place, a.lower);
        };
      }

  pub open_start : Open 0 1 0
  open_start =
      record {
        order = omega arith;
        short = omega arith;
        same = λ m l. absurd (omega arith);
        others = λ u l d. absurd (d (omega arith));
      }

  module _ (round : (m : ℕ) → g (m + 2 * n) ≡ g m) where
    -- n vertices on, the reading is the same
    once_round : (u m : ℕ) → g (2 * (u + n) + m) ≡ g (2 * u + m)
    once_round u m =
        let e : 2 * (u + n) + m ≡ 2 * u + m + 2 * n = omega arith in
        ap g e ∙ round (2 * u + m)

    -- ---- a start that is beaten, and those after it

    module _
        (a b k : ℕ)
        (low : a < n)
        (short : k < 2 * n)
        (same : (m : ℕ) → m < k → g (2 * a + m) ≡ g (2 * b + m))
        (lower : g (2 * a + k) < g (2 * b + k)) where
      ahead_on : (d : ℕ) → 2 * d ≤ k → Ahead g (2 * n) (2 * (a + d)) (2 * (b + d))
      ahead_on d h =
          record {
            place = k - 2 * d;
            within = omega arith;
            same = λ m l. on a m ∙ same (2 * d + m) (omega arith) ∙ sym (on b m);
            lower = omega (arith, last a, last b);
          }
        where
          on : (c m : ℕ) → g (2 * (c + d) + m) ≡ g (2 * c + (2 * d + m))
          on c m =
              let e : 2 * (c + d) + m ≡ 2 * c + (2 * d + m) = omega arith in
              ap g e

          last : (c : ℕ) → g (2 * (c + d) + (k - 2 * d)) ≡ g (2 * c + k)
          last c =
              let e : 2 * (c + d) + (k - 2 * d) ≡ 2 * c + k = omega arith in
              ap g e

      struck : (d : ℕ) → 2 * d ≤ k → Beaten g n (b + d)
      struck d h = go (dec_lt (a + d) n)
        where
          w : ℕ
          w = a + d - n

          rounded : ¬ (a + d < n) → (m : ℕ) → g (2 * (a + d) + m) ≡ g (2 * w + m)
          rounded l m =
              let e : a + d ≡ w + n = omega arith in
              ap (λ (x : ℕ). g (2 * x + m)) e ∙ once_round w m

          go : Dec (a + d < n) → Beaten g n (b + d)
          go (yes l) = record { by = a + d; low = l; ahead = ahead_on d h }
          go (no l) =
              let x = ahead_like (2 * (a + d)) (2 * w) (2 * (b + d)) (rounded l) (ahead_on d h) in
              record { by = w; low = omega arith; ahead = x }

      struck_at : (u : ℕ) → b ≤ u → u < b + (k / 2 + 1) → Beaten g n u
      struck_at u l h =
          let e : b + (u - b) ≡ u = omega arith in
          rw e at (struck (u - b) (omega arith))

    -- ---- one step

    module _ (i j k : ℕ) (o : Open i j k) (second : j < n) (short : k < 2 * n) where
      pub open_equal : g (2 * i + k) ≡ g (2 * j + k) → Open i j (k + 1)
      open_equal e = record { order = o.order; short = omega arith; same = here; others = o.others }
        where
          here : (m : ℕ) → m < k + 1 → g (2 * i + m) ≡ g (2 * j + m)
          here m l = go (dec_lt m k)
            where
              go : Dec (m < k) → g (2 * i + m) ≡ g (2 * j + m)
              go (yes h) = o.same m h
              go (no h) =
                  let z : m ≡ k = omega arith in
                  rw z e

      pub open_lower : g (2 * i + k) < g (2 * j + k) → Open i (j + (k / 2 + 1)) 0
      open_lower l =
          record { order = omega (arith, o.order); short = omega arith; same = λ m h. absurd (omega arith); others = here }
        where
          here : (u : ℕ) → u < j + (k / 2 + 1) → (u ≡ i → ⊥) → Beaten g n u
          here u h d = go (dec_lt u j)
            where
              go : Dec (u < j) → Beaten g n u
              go (yes b) = o.others u b d
              go (no b) = struck_at i j k (omega (arith, o.order)) short o.same l u (omega arith) h

      pub open_higher : g (2 * j + k) < g (2 * i + k) → (t : ℕ) → ((u : ℕ) → u < t → j ≤ u → u < i + (k / 2 + 1))
          → Open t (t + 1) 0
      open_higher l t top = record { order = omega arith; short = omega arith; same = λ m h. absurd (omega arith); others = here }
        where
          after : (u : ℕ) → i ≤ u → u < i + (k / 2 + 1) → Beaten g n u
          after = struck_at j i k second short (λ m b. sym (o.same m b)) l

          here : (u : ℕ) → u < t + 1 → (u ≡ t → ⊥) → Beaten g n u
          here u h d = go (dec_lt u i) (dec_lt u (i + (k / 2 + 1))) (dec_lt u j)
            where
              go : Dec (u < i) → Dec (u < i + (k / 2 + 1)) → Dec (u < j) → Beaten g n u
              go (yes a) b c = o.others u (omega (arith, o.order)) (λ e. omega arith)
              go (no a) (yes b) c = after u (omega arith) b
              go (no a) (no b) (yes c) = o.others u c (λ e. omega arith)
              go (no a) (no b) (no c) = absurd (b (top u (omega arith) (omega arith)))

    -- ---- the end

    -- what is the same for once round is the same for good
    for_good : 0 < n → (a b : ℕ) → ((m : ℕ) → m < 2 * n → g (a + m) ≡ g (b + m)) → (q m : ℕ) → m < q → g (a + m) ≡ g (b + m)
    for_good p a b e zero m h = absurd (omega arith)
    for_good p a b e (suc q) m h = go (dec_lt m (2 * n)) (for_good p a b e q (m - 2 * n))
      where
        back : (c : ℕ) → 2 * n ≤ m → g (c + m) ≡ g (c + (m - 2 * n))
        back c l =
            let z : c + m ≡ c + (m - 2 * n) + 2 * n = omega arith in
            ap g z ∙ round (c + (m - 2 * n))

        go : Dec (m < 2 * n) → (m - 2 * n < q → g (a + (m - 2 * n)) ≡ g (b + (m - 2 * n))) → g (a + m) ≡ g (b + m)
        go (yes l) ih = e m l
        go (no l) ih = back a (omega arith) ∙ ih (omega arith) ∙ sym (back b (omega arith))

    module _ (i j k : ℕ) (o : Open i j k) (p : 0 < n) where
      pub settled_same : k ≡ 2 * n → Settled g n i j
      settled_same e =
          record {
            order = o.order;
            others = o.others;
            again = λ m. for_good p (2 * i) (2 * j) (λ x l. o.same x (omega arith)) (m + 1) m (omega arith);
          }

      pub settled_past : n ≤ j → Settled g n i (i + n)
      settled_past h = record { order = omega arith; others = here; again = λ m. sym (once_round i m) }
        where
          here : (u : ℕ) → u < i + n → (u ≡ i → ⊥) → Beaten g n u
          here u l d = go (dec_lt u n)
            where
              go : Dec (u < n) → Beaten g n u
              go (yes b) = o.others u (omega arith) d
              go (no b) =
                  let z : u - n + n ≡ u = omega arith in
                  let x = o.others (u - n) (omega arith) (λ q. omega arith) in
                  rw z at (beaten_like (u - n) (u - n + n) (λ m. sym (once_round (u - n) m)) x)
