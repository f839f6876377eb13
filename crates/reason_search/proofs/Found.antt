-- What the search finds. The lines of the edges stand in the room, so their balance is that of the definition; and where the
-- search says `clear` or `enclosed`, the check of the lines in the room says so too: what is found is a reason. Assumes nothing.
use Prim.Native.Nat.{ℕ, zero, suc, ◌+◌, ◌*◌, ◌/◌, ◌≤◌, ◌<◌}
use native.Mathlib.Nat.{eq-or-lt_of_le}
use native.Mathlib.Omega.{arith}
use mathlib.Core.Path.{◌≡◌, refl, sym, ap, ◌∙◌}
use mathlib.Core.Logic.{⊎_elim}
use mathlib.Core.Bool.{Bool, true, false, not}
use mathlib.Core.List.{List, ◌++◌, append_assoc}
use lib.ListN.{length, get_or, get_or-append}
use lib.Seq.{get_or-append-add}
use borrow.Author.Tests.{lt-ltb, le-ltb}
use Rattle.ring.specs.Room.{laid}
use Rattle.shifted.specs.Shifted.{spot_at}
use Rattle.shifted.specs.declared.Spot.{Spot}
use Rattle.reasons.specs.Reason.{marks_up, marks_down}
use Rattle.reasons.specs.Parting.{parts}
use Rattle.reasons.specs.Lowest.{lowest}
use Rattle.reasons.specs.Check.{clear, edge, enclosed, balance, judged, ground_of, corner, line_from, line_to}
use Rattle.reasons.specs.Check.{balance_at, parts_at, check_of}
use Rattle.reasons.proofs.First.{first_most, none_first}
use Rattle.reasons.proofs.Exactly.{judged_clear, judged_enclosed}
use Rattle.reason_search.specs.Search.{tried, line_at, is_parted, reached, search_of}
use Rattle.reason_search.specs.Room.{numbers, lines_to, room_of}
use Rattle.reason_search.proofs.Firsts.{test, none_parts, onward_lost}
use Rattle.reason_search.proofs.Laying.{length_lines, lined}

-- ---- the lines in the room

module _ (st a b : List ℕ) where
  -- number e of line i, whatever follows
  number_at : (k i e : ℕ) (rest : List ℕ) → i < k → e < 4
      → get_or (lines_to st a b k ++ rest) (4 * i + e) 0 ≡ get_or (numbers (line_at st a b i)) e 0
  unfolding lines_to
  number_at zero i e rest h l = absurd (omega arith)
  number_at (suc k) i e rest h l =
      let ns = numbers (line_at st a b k) in
      ap (λ r. get_or r (4 * i + e) 0) (append_assoc (lines_to st a b k) ns rest)
      ∙ ⊎_elim
      (λ q.
      ap (λ j. get_or (lines_to st a b k ++ (ns ++ rest)) (4 * j + e) 0) q
      ∙ ap (λ j. get_or (lines_to st a b k ++ (ns ++ rest)) (j + e) 0) (sym (length_lines st a b k))
      ∙ get_or-append-add (lines_to st a b k) (ns ++ rest) e 0
      ∙ get_or-append ns rest 0 e l
      ∙ ap (λ j. get_or (numbers (line_at st a b j)) e 0) (sym q))
      (λ q. number_at k i e (ns ++ rest) q l)
      (eq-or-lt_of_le {n = i} {m = k} (omega arith))

  module _ (d : List ℕ) {room : List ℕ} {k : ℕ} (is : room ≡ laid (lines_to st a b k) d) (i : ℕ) (h : i < k) where
    read : (x e : ℕ) → x ≡ 4 * i + e → e < 4 → get_or room x 0 ≡ get_or (numbers (line_at st a b i)) e 0
    read x e q l = ap (λ r. get_or r x 0) is ∙ ap (λ j. get_or (laid (lines_to st a b k) d) j 0) q ∙ number_at k i e _ h l

    pub from_room : line_from room i ≡ (line_at st a b i).p
    from_room = rw (read (2 * (2 * i)) 0 (omega arith) (omega arith), read (2 * (2 * i) + 1) 1 (omega arith) (omega arith))

    pub to_room : line_to room i ≡ (line_at st a b i).q
    to_room = rw (read (2 * (2 * i + 1)) 2 (omega arith) (omega arith), read (2 * (2 * i + 1) + 1) 3 (omega arith) (omega arith))

-- ---- their balance

module _ (h : ℕ) (p q p' q' s : ℕ → Spot) where
  up_same : (m : ℕ) → ((j : ℕ) → j < m → (p j ≡ p' j) × (q j ≡ q' j)) → marks_up h p q s m ≡ marks_up h p' q' s m
  unfolding marks_up
  up_same zero e = refl
  up_same (suc m) e = rw (up_same m (λ j l. e j (omega arith)), (e m (omega arith)).0, (e m (omega arith)).1)

  down_same : (m : ℕ) → ((j : ℕ) → j < m → (p j ≡ p' j) × (q j ≡ q' j)) → marks_down h p q s m ≡ marks_down h p' q' s m
  unfolding marks_down
  down_same zero e = refl
  down_same (suc m) e = rw (down_same m (λ j l. e j (omega arith)), (e m (omega arith)).0, (e m (omega arith)).1)

-- past the last edge the balance decides
past_edges : (m j k : ℕ) (x y : Bool) → m ≤ j → m ≤ k → x ≡ y → judged m j x ≡ judged m k y
unfolding judged
past_edges m j k x y h l e = rw (le-ltb j m h, le-ltb k m l, e)

module _ (st a b d : List ℕ) {room : List ℕ} (is : room ≡ room_of st a b d) where
  -- the balance of the definition
  abbrev even : Bool
  even =
      balance (lowest (spot_at a) (spot_at b) (length a / 2)) (λ j. (line_at st a b j).p) (λ j. (line_at st a b j).q) (corner st)
      (length st / 2)

  even_room : length st / 2 ≤ reached st a b → balance_at st room (lowest (spot_at a) (spot_at b) (length a / 2)) ≡ even
  unfolding balance
  even_room all =
      let low = lowest (spot_at a) (spot_at b) (length a / 2) in
      let e : (j : ℕ) → j < length st / 2 → (line_from room j ≡ (line_at st a b j).p) × (line_to room j ≡ (line_at st a b j).q) =
      λ j l. (from_room st a b d is j (omega arith), to_room st a b d is j (omega arith)) in
      rw (
        up_same low (line_from room) (line_to room) _ _ (corner st) _ e,
        down_same low (line_from room) (line_to room) _ _ (corner st) _ e,
      )

  -- ---- the answer of the code

  module _ {j : ℕ} (at : j ≡ reached st a b) where
    pub stopped : j < length st / 2 → edge j ≡ search_of st a b
    unfolding search_of judged
    stopped h = rw (← at, lt-ltb j (length st / 2) h)

    module _ {low : ℕ} {x : Bool} (all : length st / 2 ≤ j) (e : low ≡ lowest (spot_at a) (spot_at b) (length a / 2))
        (f : x ≡ balance_at st room low) where
      even_is : x ≡ even
      even_is = f ∙ ap (balance_at st room) e ∙ even_room (omega arith)

      pub all_clear : x ≡ true → clear ≡ search_of st a b
      unfolding search_of judged
      all_clear h = rw (← at, le-ltb j (length st / 2) all, ← even_is, h)

      pub all_enclosed : x ≡ false → enclosed ≡ search_of st a b
      unfolding search_of judged
      all_enclosed h = rw (← at, le-ltb j (length st / 2) all, ← even_is, h)

  -- ---- what is found is a reason

  by_line : (s t : Spot) {p q p' q' : Spot} → p ≡ p' → q ≡ q' → parts (spot_at a) (spot_at b) (length a / 2) s t p' q' ≡ true
      → parts (spot_at a) (spot_at b) (length a / 2) s t p q ≡ true
  by_line s t e f h = rw (e, f) h

  -- where every edge has a line, the check of the room finds what the search does
  module _ (all : length st / 2 ≤ reached st a b) where
    edge_parted : (j : ℕ) → j < length st / 2 → parts_at st a b room j ≡ true
    edge_parted j l =
        let r : j < reached st a b = omega arith in
        by_line (corner st j) (corner st (suc j)) (from_room st a b d is j r) (to_room st a b d is j r) (lined st a b j r)

    same_found : check_of st a b room ≡ search_of st a b
    unfolding ground_of search_of
    same_found =
        let m = length st / 2 in
        let h = none_first (λ j. not (parts_at st a b room j)) 0 m (λ j k l. ap not (edge_parted j (omega arith))) in
        past_edges m _ _ _ _ (omega arith) all (even_room all)

  module _ (found : search_of st a b ≡ clear) where
    told : (length st / 2 ≤ reached st a b) × (even ≡ true)
    unfolding search_of
    told = judged_clear (length st / 2) (reached st a b) even found

    -- every edge has a line
    pub all_edges : reached st a b ≡ length st / 2
    unfolding reached
    all_edges = let h : reached st a b ≤ 0 + length st / 2 = first_most _ 0 _ in omega (arith, told.0)

    pub search_checked : check_of st a b room ≡ clear
    search_checked = same_found told.0 ∙ found

  pub enclosed_checked : search_of st a b ≡ enclosed → check_of st a b room ≡ enclosed
  unfolding search_of
  enclosed_checked found = same_found (judged_enclosed (length st / 2) (reached st a b) even found).0 ∙ found

-- ---- an edge that its line does not part is parted by no line that is tried

pub lost_edge : (st a b : List ℕ) (j : ℕ) → is_parted st a b j ≡ false
    → (k : ℕ) → k < tried a → test a b (corner st j) (corner st (suc j)) k ≡ false
unfolding line_at
lost_edge st a b zero h = none_parts a b (corner st 0) (corner st 1) h
lost_edge st a b (suc j) h =
    let s = corner st (suc j) in
    let t = corner st (suc (suc j)) in
    none_parts a b s t (onward_lost a b s t (line_at st a b j) h)
