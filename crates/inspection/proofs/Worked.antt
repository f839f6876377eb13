-- Worked examples, by computation: a path of 24 places with five a shift, a path of three with five a shift, and what is refused. Assumes nothing.
use mathlib.Core.Path.{◌≡◌, refl}
use mathlib.Core.List.{[], ◌∷◌}
use Rattle.refusals.specs.Answers.{answers, refuses}
use Rattle.refusals.specs.Refusals.{refuse}
use Rattle.inspection.specs.Places.{next_place, place_after, places_from, per_shift}
use Rattle.inspection.specs.Shifts.{shifts_from, times_in, times, rounded_up}
use Rattle.inspection.specs.Calls.{of_shift, next_refusal, next_places_call, next_places_room}

-- five shifts meet all 24, and the first place twice
five_shifts :
    shifts_from 24 5 0 (rounded_up 24 5)
    ≡ (0 ∷ 1 ∷ 2 ∷ 3 ∷ 4 ∷ [])
    ∷ (5 ∷ 6 ∷ 7 ∷ 8 ∷ 9 ∷ [])
    ∷ (10 ∷ 11 ∷ 12 ∷ 13 ∷ 14 ∷ [])
    ∷ (15 ∷ 16 ∷ 17 ∷ 18 ∷ 19 ∷ [])
    ∷ (20 ∷ 21 ∷ 22 ∷ 23 ∷ 0 ∷ [])
    ∷ []
unfolding shifts_from places_from place_after next_place per_shift
five_shifts = refl

first_twice : (times 0 (shifts_from 24 5 0 5) ≡ 2) × (times 1 (shifts_from 24 5 0 5) ≡ 1)
unfolding shifts_from times times_in places_from place_after next_place per_shift
first_twice = (refl, refl)

-- the fifth shift's answer, and its room, which is longer than the list
last_answer : next_places_call 24 5 20 7 ≡ answers (record { places = 5; following = 1 })
unfolding next_refusal of_shift place_after next_place per_shift
last_answer = refl

last_room : next_places_room 24 5 20 (9 ∷ 9 ∷ 9 ∷ 9 ∷ 9 ∷ 9 ∷ 9 ∷ []) ≡ 20 ∷ 21 ∷ 22 ∷ 23 ∷ 0 ∷ 9 ∷ 9 ∷ []
unfolding next_refusal of_shift places_from place_after next_place per_shift
last_room = refl

-- a path of three places: all of them, and the start stays
small : next_places_call 3 5 2 3 ≡ answers (record { places = 3; following = 2 })
unfolding next_refusal of_shift place_after next_place per_shift
small = refl

small_room : next_places_room 3 5 2 (9 ∷ 9 ∷ 9 ∷ []) ≡ 2 ∷ 0 ∷ 1 ∷ []
unfolding next_refusal of_shift places_from place_after next_place per_shift
small_room = refl

-- the bounds, and what is past each
refused_path : (next_places_call 0 5 0 64 ≡ refuses (refuse 13 0)) × (next_places_call 10002 5 0 64 ≡ refuses (refuse 13 0))
unfolding next_refusal of_shift per_shift
refused_path = (refl, refl)

refused_shift : (next_places_call 24 0 0 64 ≡ refuses (refuse 13 0)) × (next_places_call 24 65 0 64 ≡ refuses (refuse 13 0))
unfolding next_refusal of_shift per_shift
refused_shift = (refl, refl)

refused_start : (next_places_call 24 5 24 64 ≡ refuses (refuse 13 0)) × (next_places_room 24 5 24 (9 ∷ []) ≡ 9 ∷ [])
unfolding next_refusal of_shift per_shift
refused_start = (refl, refl)

largest : next_places_call 10001 64 10000 64 ≡ answers (record { places = 64; following = 63 })
unfolding next_refusal of_shift place_after next_place per_shift
largest = refl

-- a room that is one short is left as it was
one_short : (next_places_call 24 5 0 4 ≡ refuses (refuse 5 0)) × (next_places_room 24 5 0 (9 ∷ 9 ∷ 9 ∷ 9 ∷ []) ≡ 9 ∷ 9 ∷ 9 ∷ 9 ∷ [])
unfolding next_refusal of_shift per_shift
one_short = (refl, refl)
