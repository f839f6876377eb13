-- The check says `clear` exactly if the lines are a reason, for numbers of any size. So where it does, at every time of the move
-- no point of a stationary edge lies inside the moved polygon, and each point inside it lies outside the ring: of all that is
-- proved here a reader need believe the definitions alone. Assumes nothing.
use Prim.Native.Nat.{ℕ, suc, ◌+◌, ◌*◌, ◌/◌, ◌≤◌, ◌<◌}
use native.Mathlib.Nat.{mod_self, zero-mod}
use native.Mathlib.Omega.{arith}
use mathlib.Core.Path.{◌≡◌, refl, sym, ap, subst, ◌∙◌}
use mathlib.Core.Logic.{◌↔◌}
use mathlib.Core.Bool.{Bool, true, false, not, cond, true≢false}
use mathlib.Core.List.{List}
use lib.Dec.{ltb}
use lib.ListN.{length}
use borrow.Author.Tests.{le-ltb, ltb-false, eqb-true, eq-eqb, not-false}
use Rattle.shifted.specs.Shifted.{spot_at}
use Rattle.shifted.specs.declared.Spot.{Spot}
use Rattle.reasons.specs.Moves.{way, legs, InsideAt}
use Rattle.reasons.specs.Crossing.{ups, downs}
use Rattle.reasons.specs.Reason.{marks_up, marks_down, AllParted, Reason}
use Rattle.reasons.specs.Parting.{parts}
use Rattle.reasons.specs.Lowest.{low_spot, lowest}
use Rattle.reasons.specs.First.{first_from}
use Rattle.reasons.specs.Check.{clear, edge, enclosed, balance, judged, ground_of, corner, line_from, line_to, check_of}
use Rattle.reasons.proofs.First.{none_before, none_first}
use Rattle.reasons.proofs.Parting.{parts_parted, parted_parts}
use Rattle.reasons.proofs.Lowest.{low_among, low_level, low_only}
use Rattle.reasons.proofs.Time.{never_on_an_edge, ever_outside}

-- ---- the answer

pub judged_clear : (m j : ℕ) (even : Bool) → judged m j even ≡ clear → (m ≤ j) × (even ≡ true)
unfolding judged
judged_clear m j even = go (ltb j m) even refl
  where
    go : (b e : Bool) → ltb j m ≡ b → cond b (edge j) (cond e clear enclosed) ≡ clear → (m ≤ j) × (e ≡ true)
    go true e q h = absurd (let z : ◌≡◌ {A = ℕ} 0 1 = cc in omega arith)
    go false true q h = (ltb-false _ _ q, refl)
    go false false q h = absurd (let z : ◌≡◌ {A = ℕ} 0 1 = cc in omega arith)

pub judged_enclosed : (m j : ℕ) (even : Bool) → judged m j even ≡ enclosed → (m ≤ j) × (even ≡ false)
unfolding judged
judged_enclosed m j even = go (ltb j m) even refl
  where
    go : (b e : Bool) → ltb j m ≡ b → cond b (edge j) (cond e clear enclosed) ≡ enclosed → (m ≤ j) × (e ≡ false)
    go true e q h = absurd (let z : ◌≡◌ {A = ℕ} 0 1 = cc in omega arith)
    go false true q h = absurd (let z : ◌≡◌ {A = ℕ} 0 1 = cc in omega arith)
    go false false q h = (ltb-false _ _ q, refl)

pub clear_judged : (m j : ℕ) (even : Bool) → m ≤ j → even ≡ true → judged m j even ≡ clear
unfolding judged
clear_judged m j even h e = rw (le-ltb j m h, e)

-- ---- of a closed ring, a way and lines

module _ (s : ℕ → Spot) (m : ℕ) (a b : ℕ → Spot) (n : ℕ) (p q : ℕ → Spot) (closed : s m ≡ s 0) (some : 0 < n) where
  abbrev test : ℕ → Bool
  test j = parts a b n (s j) (s (suc j)) (p j) (q j)

  all_parted : m ≤ first_from (λ j. not (test j)) 0 m → AllParted (way (legs a b n)) (low_spot a b n) s p q m
  all_parted h =
      record {
        closed = closed;
        parted =
            λ j l. parts_parted a b n (s j) (s (suc j)) (p j) (q j)
            (not-false (test j) (none_before (λ j. not (test j)) 0 m j (omega arith) (omega (arith, h))));
        among = low_among a b n some;
        lowest = low_level a b n;
      }

  pub ground_reason : ground_of s m a b n p q ≡ clear → Reason (way (legs a b n)) (low_spot a b n) s p q m
  unfolding ground_of balance
  ground_reason h = let c = judged_clear m _ _ h in record { lines = all_parted c.0; balanced = eqb-true _ _ c.1 }

  pub ground_enclosed : ground_of s m a b n p q ≡ enclosed
      → AllParted (way (legs a b n)) (low_spot a b n) s p q m
      × (marks_up (low_spot a b n).y p q s m ≡ marks_down (low_spot a b n).y p q s m → ⊥)
  unfolding ground_of balance
  ground_enclosed h =
      let c = judged_enclosed m _ _ h in
      (all_parted c.0, λ e. true≢false (sym (eq-eqb _ _ e) ∙ c.1))

  pub reason_ground : {low : Spot} → Reason (way (legs a b n)) low s p q m → ground_of s m a b n p q ≡ clear
  unfolding ground_of balance
  reason_ground {low} r =
      let e : low.y ≡ lowest a b n = low_only a b n some low r.lines.among r.lines.lowest in
      let f : first_from (λ j. not (test j)) 0 m ≡ 0 + m =
      none_first (λ j. not (test j)) 0 m
      (λ j l k. ap not (parted_parts a b n (s j) (s (suc j)) (p j) (q j) (r.lines.parted j (omega arith)))) in
      let g : marks_up (lowest a b n) p q s m ≡ marks_down (lowest a b n) p q s m =
      subst (λ (h : ℕ). marks_up h p q s m ≡ marks_down h p q s m) e r.balanced in
      clear_judged m _ _ (omega arith) (eq-eqb _ _ g)

-- ---- of lists: the check

module _ (st a b ls : List ℕ) (some : 0 < length a / 2) where
  ring_closed : corner st (length st / 2) ≡ corner st 0
  ring_closed = ap (spot_at st) (mod_self (length st / 2) ∙ sym (zero-mod (length st / 2)))

  -- for any corner of the way that none is below, and so for the first of these
  pub reason_check : {low : Spot}
      → Reason (way (legs (spot_at a) (spot_at b) (length a / 2))) low (corner st) (line_from ls) (line_to ls) (length st / 2)
      → check_of st a b ls ≡ clear
  reason_check r = reason_ground (corner st) _ (spot_at a) (spot_at b) _ (line_from ls) (line_to ls) ring_closed some r

  pub check_exactly : check_of st a b ls ≡ clear
      ↔ Reason (way (legs (spot_at a) (spot_at b) (length a / 2))) (low_spot (spot_at a) (spot_at b) (length a / 2))
      (corner st) (line_from ls) (line_to ls) (length st / 2)
  check_exactly =
      (ground_reason (corner st) _ (spot_at a) (spot_at b) _ (line_from ls) (line_to ls) ring_closed some, reason_check)

  -- where all edges are parted and the lines do not balance
  pub check_enclosed : check_of st a b ls ≡ enclosed
      → AllParted (way (legs (spot_at a) (spot_at b) (length a / 2))) (low_spot (spot_at a) (spot_at b) (length a / 2))
      (corner st) (line_from ls) (line_to ls) (length st / 2)
      × (marks_up (low_spot (spot_at a) (spot_at b) (length a / 2)).y (line_from ls) (line_to ls) (corner st) (length st / 2)
      ≡ marks_down (low_spot (spot_at a) (spot_at b) (length a / 2)).y (line_from ls) (line_to ls) (corner st) (length st / 2) → ⊥)
  check_enclosed = ground_enclosed (corner st) _ (spot_at a) (spot_at b) _ (line_from ls) (line_to ls) ring_closed some

  -- ---- what it tells, at the time v / (u + v), of the point (X, Y) over (u + v) * l inside the moved polygon

  module _ (found : check_of st a b ls ≡ clear) (u v l X Y : ℕ)
      (i : InsideAt (legs (spot_at a) (spot_at b) (length a / 2)) u v l X Y) where
    pub check_never_on_an_edge : (j : ℕ) → j < length st / 2 → (g h : ℕ) → g + h ≡ (u + v) * l
        → g * (corner st j).x + h * (corner st (suc j)).x ≡ X → g * (corner st j).y + h * (corner st (suc j)).y ≡ Y → ⊥
    check_never_on_an_edge = never_on_an_edge (check_exactly.0 found) u v l X Y i

    pub check_ever_outside : ups (corner st) (length st / 2) ((u + v) * l) X Y
        ≡ downs (corner st) (length st / 2) ((u + v) * l) X Y
    check_ever_outside = ever_outside (check_exactly.0 found) u v l X Y i
