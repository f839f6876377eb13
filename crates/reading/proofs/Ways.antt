-- The readings in one direction are the ring read round and round from each start, so that a start is beaten exactly if its
-- reading is not among the least of its direction. What is settled in both directions tells the first of all. Assumes nothing.
use Prim.Native.Nat.{ℕ, suc, ◌+◌, ◌-◌, ◌*◌, ◌/◌, ◌%◌, ◌≤◌, ◌<◌}
use native.Mathlib.Omega.{arith}
use native.Mathlib.Decide.{dec_lt}
use native.Mathlib.Nat.{add-mod_right, mod-lt, mod-le, mod-eq_of_lt, mod-eq-sub-mod}
use mathlib.Core.Path.{◌≡◌, refl, sym, ap, subst, ◌∙◌}
use mathlib.Core.Bool.{Bool, true, false, not, cond}
use mathlib.Core.Logic.{◌⊎◌, inl, inr, ⊎_elim}
use mathlib.Core.List.{List}
use lib.ListN.{length, get_or}
use lib.Dec.{ltb}
use Rattle.reading.specs.Reading.{Vertex, flat, ord, less, earlier, choice, best_of}
use Rattle.reading.specs.Lent.{wrap, vertex_place}
use Rattle.reading.specs.Starts.{number_of, along, Ahead, Beaten, Settled}
use Rattle.reading.proofs.Turning.{length_reading}
use Rattle.reading.proofs.Leasts.{length_flat}
use Rattle.reading.proofs.Order.{no_bool}
use Rattle.reading.proofs.Lowest.{Lower, lower_less, less_at, lowest}
use Rattle.reading.proofs.Places.{wrap_low, wrap_high, vertex_onward, vertex_back, choice_at, nowhere, coord_of_vertex}
use Rattle.reading.proofs.First.{Foremost, less_under, join_back, join_on, first_of_all}
use Rattle.reading.proofs.Repeats.{first_low, first_unbeaten, last_unbeaten, last_others}

-- ---- the readings of one direction

-- vertex t / 2 from the start u on is vertex m / 2 of the first reading
same_vertex : (back : Bool) (n u t m : ℕ) → u < n → t < 2 * n → m < 2 * n → (m ≡ 2 * u + t) ⊎ (m + 2 * n ≡ 2 * u + t)
    → vertex_place n (number_of n back u) (t / 2) ≡ vertex_place n (number_of n back 0) (m / 2)
same_vertex false n u t m h k l (inl e) =
    let z : u + t / 2 ≡ 0 + m / 2 = omega arith in
    vertex_onward n u (t / 2) h ∙ ap (wrap n) z ∙ sym (vertex_onward n 0 (m / 2) (omega arith))
same_vertex false n u t m h k l (inr e) =
    let z : u + t / 2 - n ≡ 0 + m / 2 = omega arith in
    vertex_onward n u (t / 2) h ∙ wrap_high n (u + t / 2) (omega arith) ∙ z
    ∙ sym (vertex_onward n 0 (m / 2) (omega arith) ∙ wrap_low n (0 + m / 2) (omega arith))
same_vertex true n u t m h k l (inl e) =
    let z : 2 * n - suc u - t / 2 ≡ 2 * n - suc 0 - m / 2 = omega arith in
    vertex_back n (2 * n - suc u) (t / 2) (omega arith) ∙ ap (wrap n) z ∙ sym (vertex_back n (2 * n - suc 0) (m / 2) (omega arith))
same_vertex true n u t m h k l (inr e) =
    let z : 2 * n - suc u - t / 2 ≡ 2 * n - suc 0 - m / 2 - n = omega arith in
    vertex_back n (2 * n - suc u) (t / 2) (omega arith) ∙ wrap_low n (2 * n - suc u - t / 2) (omega arith) ∙ z
    ∙ sym (vertex_back n (2 * n - suc 0) (m / 2) (omega arith) ∙ wrap_high n (2 * n - suc 0 - m / 2) (omega arith))

turned : (n u t : ℕ) → u < n → t < 2 * n → ((2 * u + t) % (2 * n) ≡ 2 * u + t) ⊎ ((2 * u + t) % (2 * n) + 2 * n ≡ 2 * u + t)
turned n u t h k = go (dec_lt (2 * u + t) (2 * n))
  where
    go : Dec (2 * u + t < 2 * n) → ((2 * u + t) % (2 * n) ≡ 2 * u + t) ⊎ ((2 * u + t) % (2 * n) + 2 * n ≡ 2 * u + t)
    go (yes l) = inl (mod-eq_of_lt l)
    go (no l) =
        let a : 2 * n ≤ 2 * u + t = omega arith in
        let b : 2 * u + t - 2 * n < 2 * n = omega arith in
        inr (omega (arith, mod-eq-sub-mod a, mod-eq_of_lt b))

number_low : (back : Bool) (n u : ℕ) → u < n → number_of n back u < 2 * n
number_low false n u h = omega arith
number_low true n u h = omega arith

module _ (r : List Vertex) (back : Bool) where
  abbrev n : ℕ
  n = length r

  abbrev at : ℕ → List ℕ
  at u = flat (choice r (number_of n back u))

  length_at : (u : ℕ) → length (at u) ≡ 2 * n
  length_at u =
      let c = number_of n back u in
      length_flat (choice r c) ∙ ap (λ (m : ℕ). 2 * m) (length_reading r (cond (ltb c n) c (c - n)) (not (ltb c n)))

  pub round : (m : ℕ) → along r back (m + 2 * n) ≡ along r back m
  unfolding along
  round m = ap (λ (x : ℕ). ord (get_or (at 0) x 0)) (add-mod_right m (2 * n))

  -- coordinate t from the start u on, in the ring's own order
  coordinate_at : (u t v : ℕ) → u < n → t < 2 * n → v ≡ vertex_place n (number_of n back u) (t / 2)
      → get_or (at u) t 0 ≡ get_or (flat r) (2 * v + t % 2) 0
  coordinate_at u t v h k e =
      let c = number_of n back u in
      let z = choice_at nowhere r c (t / 2) (number_low back n u h) (omega arith) in
      coord_of_vertex (choice r c) r v t (z ∙ ap (λ (x : ℕ). get_or r x nowhere) (sym e))

  place_at : (u t : ℕ) → u < n → t < 2 * n → ord (get_or (at u) t 0) ≡ along r back (2 * u + t)
  unfolding along
  place_at u t h k =
      let m = (2 * u + t) % (2 * n) in
      let l : m < 2 * n = mod-lt (2 * u + t) (omega arith) in
      let v = vertex_place n (number_of n back u) (t / 2) in
      let e = same_vertex back n u t m h k l (turned n u t h k) in
      let z : t % 2 ≡ m % 2 = ⊎_elim (λ x. omega arith) (λ x. omega arith) (turned n u t h k) in
      ap ord
      (coordinate_at u t v h k refl
      ∙ ap (λ (x : ℕ). get_or (flat r) (2 * v + x) 0) z
      ∙ sym (coordinate_at 0 m v (omega arith) l e))

  -- the same, of the reading c
  pub read_at : (c u t k : ℕ) → u < n → t < 2 * n → c ≡ number_of n back u → k ≡ ord (get_or (flat (choice r c)) t 0)
      → k ≡ along r back (2 * u + t)
  read_at c u t k h l e f = f ∙ ap (λ (y : ℕ). ord (get_or (flat (choice r y)) t 0)) e ∙ place_at u t h l

  -- ---- a start is beaten exactly if another's reading is before its own

  ahead_less : (w u : ℕ) → w < n → u < n → Ahead (along r back) (2 * n) (2 * w) (2 * u) → less (at w) (at u) ≡ true
  ahead_less w u h k a =
      lower_less (at w) (at u) a.place (length_at w ∙ sym (length_at u))
      (record {
        inside = omega (arith, length_at w, a.within);
        same = λ m l. place_at w m h (omega (arith, a.within)) ∙ a.same m l ∙ sym (place_at u m k (omega (arith, a.within)));
        less_there = omega (arith, place_at w a.place h a.within, place_at u a.place k a.within, a.lower);
      })

  less_beaten : (w u : ℕ) → w < n → u < n → less (at w) (at u) ≡ true → Beaten (along r back) n u
  less_beaten w u h k l = go (less_at (at w) (at u) (length_at w ∙ sym (length_at u)) l)
    where
      go : (k : ℕ) × Lower (at w) (at u) k → Beaten (along r back) n u
      go t =
          let i : t.0 < 2 * n = omega (arith, t.1.inside, length_at w) in
          record {
            by = w;
            low = h;
            ahead = record {
              place = t.0;
              within = i;
              same = λ m d. sym (place_at w m h (omega arith)) ∙ t.1.same m d ∙ place_at u m k (omega arith);
              lower = omega (arith, t.1.less_there, place_at w t.0 h i, place_at u t.0 k i);
            };
          }

  some_unbeaten : 0 < n → (e : ℕ) × (e < n) × (Beaten (along r back) n e → ⊥)
  some_unbeaten p = go (lowest at (n - 1))
    where
      go : (e : ℕ) × (e < suc (n - 1)) × ((w : ℕ) → w < suc (n - 1) → less (at w) (at e) ≡ false)
          → (e : ℕ) × (e < n) × (Beaten (along r back) n e → ⊥)
      go t =
          let l : t.0 < n = omega (arith, t.1) in
          (t.0, l, λ b. no_bool (sym (t.2 b.by (omega (arith, b.low))) ∙ ahead_less b.by t.0 b.low l b.ahead))

  module _ (u : ℕ) (k : u < n) (unbeaten : Beaten (along r back) n u → ⊥) where
    none_before : (w : ℕ) → w < n → less (at w) (at u) ≡ false
    none_before w h = go (less (at w) (at u)) refl
      where
        go : (b : Bool) → less (at w) (at u) ≡ b → b ≡ false
        go false e = refl
        go true e = absurd (unbeaten (less_beaten w u h k e))

    before_beaten : (w : ℕ) → w < n → Beaten (along r back) n w → less (at u) (at w) ≡ true
    before_beaten w h b =
        let v = b.by in
        less_under (at v) (at w) (at u) (ahead_less v w b.low h b.ahead) (none_before v b.low)

-- ---- the first of the least, onward and back

module _ (r : List Vertex) (some : 0 < length r) (i j : ℕ) where
  by_period : (back : Bool) → Settled (along r back) (length r) i j → Settled (along r back) (length r) i (i + (j - i))
  by_period back s =
      let e : i + (j - i) ≡ j = omega (arith, s.order) in
      rw e s

  pub start_low : (back : Bool) → Settled (along r back) (length r) i j → i < length r
  start_low back s =
      let e = some_unbeaten r back some in
      first_low (along r back) (length r) i (j - i) (by_period back s) e.0 e.1 e.2

  foremost_on : Settled (along r false) (length r) i j → Foremost r 0 (length r) i
  foremost_on s =
      let e = some_unbeaten r false some in
      let l = start_low false s in
      let f = first_unbeaten (along r false) (length r) i (j - i) (by_period false s) e.0 e.1 e.2 in
      record {
        from = omega arith;
        to = l;
        least = λ c z h. none_before r false i l f c h;
        first = λ c z h. before_beaten r false i l f c (omega arith) (s.others c (omega (arith, s.order)) (λ q. omega arith));
      }

  foremost_back : Settled (along r true) (length r) i j
      → Foremost r (length r) (2 * length r) (length r + (length r - 1 - i) % (j - i))
  foremost_back s = record { from = omega arith; to = omega (arith, here); least = none; first = one }
    where
      d : ℕ
      d = (length r - 1 - i) % (j - i)

      e : (e : ℕ) × (e < length r) × (Beaten (along r true) (length r) e → ⊥)
      e = some_unbeaten r true some

      here : d < length r
      here = omega (arith, mod-le (length r - 1 - i) (j - i))

      un : Beaten (along r true) (length r) (length r - 1 - d) → ⊥
      un = last_unbeaten (along r true) (length r) i (j - i) (by_period true s) e.0 e.1 e.2

      after : (t : ℕ) → t < d → Beaten (along r true) (length r) (length r - 1 - t)
      after = last_others (along r true) (length r) i (j - i) (by_period true s) e.0 e.1 e.2

      -- a start, and the number of its reading
      start : ℕ → ℕ
      start c = length r - 1 - (c - length r)

      number : (c : ℕ) → length r ≤ c → c < 2 * length r → 2 * length r - suc (start c) ≡ c
      number c h k = omega arith

      least_number : 2 * length r - suc (length r - 1 - d) ≡ length r + d
      least_number = omega (arith, here)

      none : (c : ℕ) → length r ≤ c → c < 2 * length r → earlier (choice r c) (choice r (length r + d)) ≡ false
      none c h k =
          rw (number c h k, least_number)
          at (none_before r true (length r - 1 - d) (omega (arith, here)) un (start c) (omega arith))

      one : (c : ℕ) → length r ≤ c → c < length r + d → earlier (choice r (length r + d)) (choice r c) ≡ true
      one c h k =
          let b = after (c - length r) (omega arith) in
          rw (number c h (omega (arith, here)), least_number)
          at (before_beaten r true (length r - 1 - d) (omega (arith, here)) un (start c) (omega arith) b)

-- ---- the first of the least of all, where both directions are settled

module _
    (r : List Vertex)
    (some : 0 < length r)
    (n i j p q : ℕ)
    (half : n ≡ length r)
    (on : Settled (along r false) (length r) i j)
    (back : Settled (along r true) (length r) p q) where
  first_on : Foremost r 0 (length r) i
  first_on = foremost_on r some i j on

  first_back : Foremost r (length r) (2 * length r) (n + (n - 1 - p) % (q - p))
  first_back =
      subst (λ (m : ℕ). Foremost r (length r) (2 * length r) (m + (m - 1 - p) % (q - p))) (sym half) (foremost_back r some p q back)

  pub on_low : i < n
  on_low = omega (arith, first_on.to)

  pub back_low : p < n
  back_low = omega (arith, start_low r some p q true back)

  pub number_within : n + (n - 1 - p) % (q - p) < 2 * n
  number_within = omega (arith, first_back.to)

  pub all_back : earlier (choice r (n + (n - 1 - p) % (q - p))) (choice r i) ≡ true → n + (n - 1 - p) % (q - p) ≡ best_of r
  all_back h = first_of_all r _ (join_back r (length r) (2 * length r) i _ first_on first_back h)

  pub all_on : earlier (choice r (n + (n - 1 - p) % (q - p))) (choice r i) ≡ false → i ≡ best_of r
  all_on h = first_of_all r i (join_on r (length r) (2 * length r) i _ first_on first_back h)
