-- The definitions say something: S and Q of SCOPE's measured pieces, Q sliding by (2, 0) below S, each coordinate 10 more. A
-- point within S is told from one below it; the middle of Q half-way is inside, and by the theorem outside S.
use mathlib.Core.Path.{◌≡◌, refl}
use Prim.Native.Nat.{ℕ, zero, suc, ◌<◌}
use native.Mathlib.Omega.{arith}
use mathlib.Core.List.{List, [], ◌∷◌}
use Rattle.shifted.specs.declared.Spot.{Spot}
use Rattle.reasons.specs.Hull.{total, sum_x, sum_y}
use Rattle.reasons.specs.Moves.{Leg, way, starts, ends, InsideAt}
use Rattle.reasons.specs.Crossing.{crosses, ups, downs}
use Rattle.reasons.specs.Reason.{Parted, mark, marks_up, marks_down, Reason}
use Rattle.reasons.proofs.Time.{ever_outside}

abbrev at : ℕ → ℕ → Spot
at u v = record { x = u; y = v }

-- four in turn, and then the first
abbrev four : {A : Type 0} → A → A → A → A → ℕ → A
four p q r s zero = p
four p q r s (suc zero) = q
four p q r s (suc (suc zero)) = r
four p q r s (suc (suc (suc zero))) = s
four p q r s (suc (suc (suc (suc i)))) = p

-- ---- within and below

abbrev S : ℕ → Spot
S = four (at 10 10) (at 14 10) (at 14 14) (at 10 14)

-- a point within S is no point outside: one edge up, none down
within : ups S 4 1 12 12 ≡ 1
unfolding ups crosses
within = refl

none_down : downs S 4 1 12 12 ≡ 0
unfolding downs crosses
none_down = refl

-- below S, none and none
below : ups S 4 1 12 9 ≡ downs S 4 1 12 9
unfolding ups downs crosses
below = refl

-- ---- the slide

abbrev leg : Spot → Spot → Leg
leg s t = record { from = s; to = t }

abbrev slide : List Leg
slide = leg (at 10 8) (at 12 8) ∷ leg (at 12 8) (at 14 8) ∷ leg (at 12 10) (at 14 10) ∷ leg (at 10 10) (at 12 10) ∷ []

-- the middle of Q, half-way
middle : InsideAt slide 1 1 4 96 72
unfolding starts ends total sum_x sum_y
middle =
    record {
      r = 4;
      some = omega arith;
      across = omega arith;
      upward = omega arith;
      east = record { weight = four 1 1 2 0; all = refl; across = refl; upward = refl };
      west = record { weight = four 2 0 1 1; all = refl; across = refl; upward = refl };
      north = record { weight = four 0 1 1 2; all = refl; across = refl; upward = refl };
      south = record { weight = four 2 1 1 0; all = refl; across = refl; upward = refl };
    }

-- a line for each edge of S
abbrev P : ℕ → Spot
P = four (at 14 10) (at 14 10) (at 14 14) (at 10 14)

abbrev Q : ℕ → Spot
Q = four (at 10 10) (at 14 14) (at 10 14) (at 10 10)

lines : (j : ℕ) → j < 4 → Parted (way slide) (S j) (S (suc j)) (P j) (Q j)
unfolding way
lines zero h = omega arith
lines (suc zero) h = omega arith
lines (suc (suc zero)) h = omega arith
lines (suc (suc (suc zero))) h = omega arith
lines (suc (suc (suc (suc i)))) h = absurd (omega arith)

-- the first of the way's corners alone
first : ℕ → ℕ
first zero = 1
first (suc i) = 0

reason : Reason (way slide) (at 10 8) S P Q 4
unfolding way total sum_x sum_y marks_up marks_down mark first
reason =
    record {
      lines =
          record {
            closed = refl;
            parted = lines;
            among = record { weight = first; all = refl; across = refl; upward = refl };
            lowest = omega arith;
          };
      balanced = refl;
    }

so : ups S 4 8 96 72 ≡ downs S 4 8 96 72
so = ever_outside reason 1 1 4 96 72 middle
