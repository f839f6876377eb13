-- The lines that the search has written where it is clear, of a whole move; and what is answered then, and what is left in the
-- room for the reason. Assumes nothing.
use Prim.Native.Nat.{ℕ, ◌*◌, ◌/◌, ◌≤◌, ◌<◌}
use native.Mathlib.Omega.{arith}
use mathlib.Core.Path.{◌≡◌, refl, sym, ap, subst, ◌∙◌}
use mathlib.Core.List.{List, map}
use lib.ListN.{length, get_or, take, length-map}
use lib.IntN.{ℤ}
use Rattle.ring.specs.Room.{laid}
use Rattle.refusals.specs.Refusals.{none}
use Rattle.refusals.specs.Screens.{wrong_fit}
use Rattle.refusals.specs.Answers.{Outcome, answers, refuses, tells, outcome, left}
use Rattle.refusals.specs.declared.Refusal.{Refusal}
use Rattle.refusals.proofs.Tests.{refused}
use Rattle.shifted.specs.Shifted.{up_of}
use Rattle.whole_moves.specs.Moved.{moved_up, down_of}
use Rattle.reasons.specs.Check.{Ground, clear}
use Rattle.reason_check.specs.Told.{ground}
use Rattle.reason_check.specs.declared.Ground as told
use Rattle.reason_check.specs.declared.Ground.TheVariants.{Clear, Edge, Enclosed}
use Rattle.reason_search.specs.Room.{lines_to, room_of}
use Rattle.reason_search.proofs.Lines.{lines_low, lines_front}
use Rattle.clear_calls.specs.Lent.{WholeMove}
use Rattle.clear_calls.specs.Calls.{found_of, short_for}
use Rattle.clear_calls.specs.Calls.{written_for}
use Rattle.clear_calls.proofs.Fronts.{search_lent}

-- ---- of a whole move

module _ (st orb : List ℤ) (dx dy : ℤ) (d : List ℕ) {room : List ℕ}
    (is : room ≡ room_of (map up_of st) (map up_of orb) (moved_up orb dx dy) d) (found : clear ≡ found_of st orb dx dy) where
  pub all_low : WholeMove st orb dx dy → 1024 ≤ length d → (k : ℕ) → k < 4 * (length st / 2) → get_or room k 0 ≤ 2000000
  all_low W long k h =
      lines_low (map up_of st) (map up_of orb) (moved_up orb dx dy) d is (sym found)
      (search_lent st orb dx dy W d (omega (arith, W.ring_most))) k (omega (arith, length-map st up_of))

  pub lowered : (held : List ℤ) {out : List ℤ} → out ≡ laid (map down_of (take (4 * (length st / 2)) room)) held
      → out ≡ laid (map down_of (lines_to (map up_of st) (map up_of orb) (moved_up orb dx dy) (length st / 2))) held
  lowered held e =
      let front = lines_to (map up_of st) (map up_of orb) (moved_up orb dx dy) in
      let f : take (4 * (length st / 2)) room ≡ front (length st / 2) =
      subst (λ (n : ℕ). take (4 * (n / 2)) room ≡ front (n / 2)) (length-map st up_of)
      (lines_front (map up_of st) (map up_of orb) (moved_up orb dx dy) d is (sym found)) in
      e ∙ ap (λ l. laid (map down_of l) held) f

-- ---- by what is found, the answer and the room

module _ (g : Ground) (needed : ℕ) (ls held : List ℤ) where
  abbrev pub Handed : Outcome Ground → List ℤ → Type 0
  Handed o out =
      (o ≡ outcome (short_for g needed (length held)) g) × (out ≡ left (short_for g needed (length held)) (written_for g ls held) held)

  -- no lines are written where it is not clear
  pub handed_other : (x : told.Ground) → (x ≡ Clear → ⊥) → ground x ≡ g → Handed (answers (ground x)) held
  unfolding short_for written_for
  handed_other Clear n e = absurd (n refl)
  handed_other (Edge j) n e = rw (← e) (refl, refl)
  handed_other Enclosed n e = rw (← e) (refl, refl)

  -- and where it is, as there is room for them
  module _ (c : clear ≡ g) where
    pub handed_clear : {out : List ℤ} → none ≡ wrong_fit needed (length held) → out ≡ laid ls held → Handed (answers clear) out
    unfolding short_for written_for
    handed_clear e q = rw (← c, ← e) (refl, q)

    pub handed_short : (r : Refusal) → tells r ≡ wrong_fit needed (length held) → Handed (refuses (tells r)) held
    unfolding short_for written_for
    handed_short r e = rw (← c, ← e, refused r) (refl, refl)
