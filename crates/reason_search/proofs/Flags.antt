-- The flags of a way's lines. The loop of `note` keeps that those of the first c lines stand; a line that is noted and has the
-- edge right of it helps. Assumes nothing.
use Prim.Native.Nat.{ℕ, ◌+◌, ◌/◌, ◌≤◌, ◌<◌}
use native.Mathlib.Nat.{eq-or-lt_of_le}
use native.Mathlib.Omega.{arith}
use mathlib.Core.Path.{◌≡◌, refl, sym, subst, ap, ◌∙◌}
use mathlib.Core.Logic.{⊎_elim}
use mathlib.Core.Bool.{Bool, true, false}
use mathlib.Core.List.{List}
use lib.ListN.{length, get_or, set, replicate, length-set}
use lib.Seq.{get_or-set_same, get_or-set_other}
use Rattle.shifted.specs.Shifted.{spot_at}
use Rattle.shifted.specs.declared.Spot.{Spot}
use Rattle.reasons.specs.Crossing.{one}
use Rattle.reasons.specs.Parting.{edge_right}
use Rattle.reason_search.specs.Lines.{way_line}
use Rattle.reason_search.specs.Noted.{useful, way_lines, Noted, Prepared, Ready, helpful}
use Rattle.reason_search.specs.Room.{SearchLent}
use Rattle.reason_search.specs.declared.Line.{Line}

-- ---- noted

module _ (a b d : List ℕ) where
  pub record Flags (flags : List ℕ) (c : ℕ) : Type 0 where
    pub most : c ≤ way_lines a
    pub same : length flags ≡ length d
    pub noted : Noted a b flags c

  pub start : Flags d 0
  start = record { most = omega arith; same = refl; noted = λ c l. absurd (omega arith) }

  pub turn : {flags : List ℕ} {c f : ℕ} {x : Bool} → Flags flags c → way_lines a ≤ length d → c < way_lines a
      → x ≡ useful (spot_at a) (spot_at b) (length a / 2) c → f ≡ one x → Flags (set flags c f) (c + 1)
  turn {flags} {c} {f} F room h e g =
      let l : c < length flags = omega (arith, F.same) in
      record {
        most = omega arith;
        same = simp length-set F.same;
        noted =
            λ i k. ⊎_elim
            (λ q. subst (λ (j : ℕ). get_or (set flags c f) j 0 ≡ one (useful (spot_at a) (spot_at b) (length a / 2) j)) (sym q)
            (get_or-set_same flags c f 0 l ∙ g ∙ ap one e))
            (λ q. get_or-set_other flags c i f 0 (λ r. omega arith) ∙ F.noted i q)
            (eq-or-lt_of_le {n = i} {m = c} (omega arith));
      }

-- ---- noted once

-- nothing is noted yet
pub unmarked : {st a b room : List ℕ} → SearchLent st a b room → Ready a b (replicate 1537 0)
unmarked L = record {
  moved = L.moved;
  some = L.some;
  most = L.most;
  room = omega arith;
  marked = λ h. absurd (omega (arith, h));
}

pub already : {a b flags : List ℕ} → Ready a b flags → get_or flags 1536 0 ≡ 255 → Prepared a b flags
already R h =
    record { moved = R.moved; most = R.most; room = omega (arith, R.most, R.room); noted = R.marked h }

module _ {a b held : List ℕ} (flags : List ℕ) (R : Ready a b held) (same : length flags ≡ length held)
    (N : Noted a b flags (way_lines a)) where
  still : Noted a b (set flags 1536 255) (way_lines a)
  still c h =
      get_or-set_other flags 1536 c 255 0 (λ r. omega (arith, R.most)) ∙ N c h

  pub now_noted : Ready a b (set flags 1536 255) × Prepared a b (set flags 1536 255)
  now_noted =
      let l : 1536 < length (set flags 1536 255) = simp length-set (omega (arith, R.room)) in (
        record { moved = R.moved; some = R.some; most = R.most; room = l; marked = λ h. still },
        record { moved = R.moved; most = R.most; room = omega (arith, R.most); noted = still },
      )

-- an edge asks
pub asked : {a b : List ℕ} (flags : List ℕ) (f : ℕ) → f < 255 → Ready a b flags → Ready a b (set flags 1536 f)
asked flags f l R = record {
  moved = R.moved;
  some = R.some;
  most = R.most;
  room = simp length-set R.room;
  marked = λ h. let e = get_or-set_same flags 1536 f 0 R.room in absurd (omega (arith, e, h, l));
}

-- ---- used

one_true : (x : Bool) → one x ≡ 1 → x ≡ true
one_true true h = refl
one_true false h = absurd (omega arith)

one_false : (x : Bool) → (one x ≡ 1 → ⊥) → x ≡ false
one_false true h = absurd (h refl)
one_false false h = refl

module _ (a b : List ℕ) (s t : Spot) (c : ℕ) {f : ℕ} (e : f ≡ one (useful (spot_at a) (spot_at b) (length a / 2) c)) where
  pub helps_is : {l : Line} {r : Bool} → f ≡ 1 → l ≡ way_line (spot_at a) (spot_at b) (length a / 2) c
      → r ≡ edge_right l.p l.q s t → r ≡ helpful a b s t c
  unfolding helpful
  helps_is h g k = rw (← g, one_true (useful (spot_at a) (spot_at b) (length a / 2) c) (sym e ∙ h)) k

  pub helps_not : (f ≡ 1 → ⊥) → false ≡ helpful a b s t c
  unfolding helpful
  helps_not h = rw (one_false (useful (spot_at a) (spot_at b) (length a / 2) c) (λ k. h (e ∙ k)))
