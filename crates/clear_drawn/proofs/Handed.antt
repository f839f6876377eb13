-- By what is found of a drawn move the answer, and what is left in the room for the reason; and what the tests let pass. Assumes
-- nothing.
use Prim.Native.Nat.{ℕ, ◌*◌, ◌/◌, ◌≤◌}
use mathlib.Core.Path.{◌≡◌, refl}
use mathlib.Core.List.{List}
use lib.ListN.{length}
use lib.IntN.{ℤ}
use lib.Ieee.{Float}
use Rattle.ring.specs.Room.{laid}
use Rattle.refusals.specs.Refusals.{none}
use Rattle.refusals.specs.Screens.{wrong_fit}
use Rattle.refusals.specs.Answers.{Outcome, answers, refuses, tells, outcome, left}
use Rattle.refusals.specs.declared.Refusal.{Refusal}
use Rattle.refusals.proofs.Tests.{refused}
use Rattle.drawn_aside.specs.Found.{Least, clear_by, edge_first, enclosed_by}
use Rattle.drawn_rows.specs.Rows.{of_drawn_move, of_drawn_reason}
use Rattle.drawn_rows.specs.Lent.{DrawnLent, LinesLent}
use Rattle.drawn_rows.proofs.Passed.{move_passed, reason_passed}
use Rattle.clear_drawn.specs.Calls.{move_reason, short_for, written_for}

module _ (xs ys path : List Float) (n : ℕ) where
  pub move_tested : none ≡ of_drawn_move xs ys path n → DrawnLent xs ys path n
  move_tested e = move_passed xs ys path n (rw (← e))

  pub reason_tested : (how : ℕ) (ls : List ℤ) → none ≡ of_drawn_reason xs ys path n how ls
      → DrawnLent xs ys path n × LinesLent xs ls × (how ≤ 20)
  reason_tested how ls e = reason_passed xs ys path n how ls (rw (← e))

  module _ (l : Least) (held : List ℤ) where
    abbrev pub Handed : Outcome Least → List ℤ → Type 0
    Handed o out =
        let no = short_for xs ys path n l (length held) in
        (o ≡ outcome no l) × (out ≡ left no (written_for xs ys path n l held) held)

    -- no lines are written where it is not clear
    pub handed_edge : {j : ℕ} → edge_first j ≡ l → Handed (answers (edge_first j)) held
    unfolding short_for written_for
    handed_edge e = rw (← e) (refl, refl)

    pub handed_enclosed : {how : ℕ} → enclosed_by how ≡ l → Handed (answers (enclosed_by how)) held
    unfolding short_for written_for
    handed_enclosed e = rw (← e) (refl, refl)

    -- and where it is, as there is room for them
    module _ {how : ℕ} (c : clear_by how ≡ l) where
      pub handed_clear : {out : List ℤ} → none ≡ wrong_fit (4 * (length xs / 2)) (length held)
          → out ≡ laid (move_reason xs ys path n how) held → Handed (answers (clear_by how)) out
      unfolding short_for written_for
      handed_clear e q = rw (← c, ← e) (refl, q)

      pub handed_short : (r : Refusal) → tells r ≡ wrong_fit (4 * (length xs / 2)) (length held) → Handed (refuses (tells r)) held
      unfolding short_for written_for
      handed_short r e = rw (← c, ← e, refused r) (refl, refl)
