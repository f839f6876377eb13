-- What is said of the call's answer: the reason stands at the front of the room, and its lines don't depend on what follows there.
-- Assumes nothing.
use Prim.Native.Nat.{ℕ, ◌+◌, ◌*◌, ◌/◌, ◌≤◌}
use native.Mathlib.Omega.{arith}
use mathlib.Core.Path.{◌≡◌, refl, ap, ◌∙◌}
use mathlib.Core.Bool.{Bool, true, false, cond}
use mathlib.Core.List.{List, ◌++◌, map}
use lib.ListN.{length, drop, replicate, length-map, length-replicate, get_or-append}
use lib.IntN.{ℤ, pos}
use Rattle.refusals.specs.Refusals.{passed}
use Rattle.refusals.specs.Answers.{Outcome, answers, refuses}
use Rattle.refusals.specs.Refusals.{Told}
use Rattle.shifted.specs.Shifted.{up_of}
use Rattle.whole_moves.specs.Moved.{moved_up, down_of}
use Rattle.reasons.specs.Check.{Ground, clear, edge, enclosed}
use Rattle.reason_search.specs.Room.{lines_to}
use Rattle.reason_search.proofs.Laying.{length_lines}
use Rattle.clear_calls.specs.Calls.{found_of, reason_of, of_clear_move, clear_move_call, written_for, clear_move_room}
use Rattle.clear_move.specs.Shared.{owner}
use Rattle.clear_move.specs.Lines.{reason_line, ground_text, judged_text}
use Rattle.clear_move.specs.Said.{room_size, pair_text}
use Rattle.clear_move.proofs.Alike.{text_same, owner_front}

module _ (ls rest : List ℤ) where
  line_front : (j : ℕ) → 4 * j + 4 ≤ length ls → reason_line (ls ++ rest) j ≡ reason_line ls j
  unfolding reason_line
  line_front j h =
      rw (
        get_or-append ls rest (pos 0) (4 * j) (omega arith),
        get_or-append ls rest (pos 0) (4 * j + 1) (omega arith),
        get_or-append ls rest (pos 0) (4 * j + 2) (omega arith),
        get_or-append ls rest (pos 0) (4 * j + 3) (omega arith),
      )

ground_said : (g : Ground) (ls room : List ℤ) (m : ℕ) → 4 * m ≤ length ls
    → ground_text g (written_for g ls room) m ≡ ground_text g ls m
unfolding ground_text written_for
ground_said clear ls room m h =
    let rest = drop (length ls) room in
    text_same (owner (ls ++ rest)) (owner ls) m (owner_front ls rest m h) (ls ++ rest) ls (λ j l. line_front ls rest j (omega arith))
ground_said (edge j) ls room m h = refl
ground_said enclosed ls room m h = refl

outcome_said : (t : Bool) (r : Told) (g : Ground) (ls room : List ℤ) (m : ℕ) → 4 * m ≤ length ls
    → judged_text (cond t (answers g) (refuses r)) (cond t (written_for g ls room) room) m
    ≡ judged_text (cond t (answers g) (refuses r)) ls m
unfolding judged_text
outcome_said true r g ls room m h = ground_said g ls room m h
outcome_said false r g ls room m h = refl

-- the room before the call
abbrev room : List ℤ
room = replicate room_size (pos 0)

module _ (st orb : List ℤ) (dx dy : ℤ) where
  four_each : length (reason_of st orb dx dy) ≡ 4 * (length st / 2)
  four_each =
      let ls = lines_to (map up_of st) (map up_of orb) (moved_up orb dx dy) (length st / 2) in
      length-map ls down_of ∙ length_lines _ _ _ _

  pub pair_said : {out : List ℤ} {o : Outcome Ground} → o ≡ clear_move_call st orb dx dy (length room)
      → out ≡ clear_move_room st orb dx dy room → judged_text o out (length st / 2) ≡ pair_text st orb dx dy
  unfolding pair_text
  pair_said p q =
      let no_one = of_clear_move st orb dx dy (length room) in
      let ls = reason_of st orb dx dy in
      rw (p, q) (outcome_said (passed no_one) no_one (found_of st orb dx dy) ls room (length st / 2) (omega (arith, four_each)))
      ∙ ap (λ (n : ℕ). judged_text (clear_move_call st orb dx dy n) ls (length st / 2)) (length-replicate room_size (pos 0))
