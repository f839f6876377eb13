-- Calls one after the other, as the shop makes them. Definitions only.
use Rattle.std.specs.Prelude.{ℕ, ◌≡◌, List, [], ◌∷◌, length, take}
use Rattle.refusals.specs.Answers.{answers}
use Rattle.inspection.specs.declared.Shift.{Shift}
use Rattle.inspection.specs.Calls.{next_places_call, next_places_room}

-- calls on one path with one k, none refused, each with a room of its own and started where the one before left off: the places that each
-- says it wrote, as its room holds them
pub data Run (n k : ℕ) : ℕ → List (List ℕ) → Type 0 where
  no_calls : {start : ℕ} → Run n k start []
  call_then : {start : ℕ} {rest : List (List ℕ)} (room : List ℕ) (told : Shift) → next_places_call n k start (length room) ≡ answers told
      → Run n k told.following rest → Run n k start (take told.places (next_places_room n k start room) ∷ rest)
