-- Worked examples, by computation: what a caller is told by number and through the cells. Assumes nothing.
use Prim.Native.Nat.{ℕ}
use mathlib.Core.Path.{◌≡◌, refl}
use mathlib.Core.Bool.{true, false}
use Rattle.std.specs.Prelude.{Option, None, Some}
use lib.Ieee.{Float, binary64, of_bits, nan}
use Rattle.grounds.specs.Calls.{Account}
use Rattle.inspection.specs.declared.Shift.{Shift}
use Rattle.refusals.specs.Answers.{Outcome, answers, refuses}
use Rattle.refusals.specs.Refusals.{refused_book, refused_few, refused_setting, refused_inspection, tells_place, refuse}
use Rattle.handed.specs.Handed.{refusal_in, returned, told, told_found, place_of, told_place, itself, flag, is_found, hit_distance, hit_kind, hit_stationary, hit_orbiting}
use Rattle.handed.specs.Explanations.{hit_in, with_hit, others_told, ground_in, near_in, between_in, far_in}
use Rattle.handed.specs.Places.{places_in, following_in}
use Rattle.handed.specs.Verdicts.{fault_number, fault_index, index_in}
use Rattle.handed.specs.Clear.{leg_ground, leg_of, leg_edge_of, leg_in, leg_edge_in}
use Rattle.path_check.specs.declared.Fault.TheVariants.{Leg}
use Rattle.clear_path.specs.declared.PathGround.TheVariants.{Enclosed}

-- a book of two rings: 0, the count, and no place
abbrev read : Outcome ℕ
read = answers 2

read_number : returned read ≡ 0
unfolding refusal_in
read_number = refl

read_count : told itself read 9 ≡ 2
unfolding told
read_count = refl

read_place : told_place read 9 ≡ 9
unfolding refusal_in place_of tells_place
read_place = refl

-- a book with a fault at its byte 0: 7, the count as it was, and the place
abbrev wrong : Outcome ℕ
wrong = refuses (refuse refused_book 0)

wrong_number : returned wrong ≡ 7
unfolding refusal_in
wrong_number = refl

wrong_count : told itself wrong 9 ≡ 9
unfolding told
wrong_count = refl

wrong_place : told_place wrong 9 ≡ 0
unfolding refusal_in place_of tells_place
wrong_place = refl

-- a room too short: 4, and no place
short_number : returned {A = ℕ} (refuses (refuse 4 0)) ≡ 4
unfolding refusal_in
short_number = refl

short_place : told_place {A = ℕ} (refuses (refuse 4 0)) 9 ≡ 9
unfolding refusal_in place_of tells_place
short_place = refl

-- the orbiting polygon has too few vertices: 8, and that it is list 1
few_number : returned {A = ℕ} (refuses (refuse refused_few 1)) ≡ 8
unfolding refusal_in
few_number = refl

few_place : told_place {A = ℕ} (refuses (refuse refused_few 1)) 9 ≡ 1
unfolding refusal_in place_of tells_place
few_place = refl

-- a number out of bounds: 2, and no place
number_place : told_place {A = ℕ} (refuses (refuse 2 0)) 9 ≡ 9
unfolding refusal_in place_of tells_place
number_place = refl

-- nothing found: 0 in `found`, and what follows as it was
abbrev nothing : Outcome (Option ℕ)
nothing = answers None

nothing_found : told is_found nothing 9 ≡ 0
unfolding told is_found
nothing_found = refl

nothing_index : told_found itself nothing 9 ≡ 9
unfolding told_found
nothing_index = refl

-- index 0 found, which is not nothing
abbrev index : Outcome (Option ℕ)
index = answers (Some 0)

index_found : told is_found index 9 ≡ 1
unfolding told is_found
index_found = refl

index_told : told_found itself index 9 ≡ 0
unfolding told_found
index_told = refl

-- true is 1, false is 0
true_told : told flag (answers true) 9 ≡ 1
unfolding told
true_told = refl

false_told : told flag (answers false) 9 ≡ 0
unfolding told
false_told = refl

-- a move that runs into an edge half a unit away, with 4 other pairs at that distance: ground 0, and each value in its own cell
abbrev half : Float
half = of_bits binary64 0x3FE0000000000000

abbrev hit : Outcome Account
hit =
    answers
    (record {
      ground = 0;
      hit = Some (record { distance = half; kind = 1; stationary = 2; orbiting = 3 });
      others = 4;
      near = 5;
      between = 6;
      far = 7;
    })

hit_ground : (returned hit ≡ 0) × (told ground_in hit 9 ≡ 0)
unfolding refusal_in told
hit_ground = (refl, refl)

hit_pair :
    (told_found hit_distance (hit_in hit) nan ≡ half)
    × (told_found hit_kind (hit_in hit) 9 ≡ 1)
    × (told_found hit_stationary (hit_in hit) 9 ≡ 2)
    × (told_found hit_orbiting (hit_in hit) 9 ≡ 3)
unfolding told_found
hit_pair = (refl, refl, refl, refl)

hit_counts : (others_told hit 9 ≡ 4) × (told near_in hit 9 ≡ 5) × (told between_in hit 9 ≡ 6) × (told far_in hit 9 ≡ 7)
unfolding told others_told with_hit
hit_counts = (refl, refl, refl, refl)

-- all hits too far: 0 as well, ground 4 and the counts, and what belongs to a hit as it was
abbrev far : Outcome Account
far = answers (record { ground = 4; hit = None; others = 0; near = 0; between = 0; far = 7 })

far_ground : (returned far ≡ 0) × (told ground_in far 9 ≡ 4)
unfolding refusal_in told
far_ground = (refl, refl)

far_pair :
    (told_found hit_distance (hit_in far) half ≡ half)
    × (told_found hit_kind (hit_in far) 9 ≡ 9)
    × (told_found hit_stationary (hit_in far) 9 ≡ 9)
    × (told_found hit_orbiting (hit_in far) 9 ≡ 9)
unfolding told_found
far_pair = (refl, refl, refl, refl)

far_counts : (others_told far 9 ≡ 9) × (told near_in far 9 ≡ 0) × (told between_in far 9 ≡ 0) × (told far_in far 9 ≡ 7)
unfolding told others_told with_hit
far_counts = (refl, refl, refl, refl)

-- a tolerance out of bounds: 3, and every cell as it was
abbrev unexplained : Outcome Account
unexplained = refuses (refuse refused_setting 0)

unexplained_ground : (returned unexplained ≡ 3) × (told ground_in unexplained 9 ≡ 9)
unfolding refusal_in told
unexplained_ground = (refl, refl)

unexplained_pair :
    (told_found hit_distance (hit_in unexplained) half ≡ half)
    × (told_found hit_kind (hit_in unexplained) 9 ≡ 9)
    × (told_found hit_stationary (hit_in unexplained) 9 ≡ 9)
    × (told_found hit_orbiting (hit_in unexplained) 9 ≡ 9)
unfolding told_found
unexplained_pair = (refl, refl, refl, refl)

unexplained_counts :
    (others_told unexplained 9 ≡ 9)
    × (told near_in unexplained 9 ≡ 9)
    × (told between_in unexplained 9 ≡ 9)
    × (told far_in unexplained 9 ≡ 9)
unfolding told others_told with_hit
unexplained_counts = (refl, refl, refl, refl)

-- a shift of five places from 20 of 24: 0, the start that follows and the count; and one that is refused: 13, and both as they were
abbrev shift : Outcome Shift
shift = answers (record { places = 5; following = 1 })

shift_told : (returned shift ≡ 0) × (told following_in shift 20 ≡ 1) × (told places_in shift 9 ≡ 5)
unfolding refusal_in told
shift_told = (refl, refl, refl)

abbrev no_shift : Outcome Shift
no_shift = refuses (refuse refused_inspection 0)

no_shift_told : (returned no_shift ≡ 13) × (told following_in no_shift 20 ≡ 20) × (told places_in no_shift 9 ≡ 9)
unfolding refusal_in told
no_shift_told = (refl, refl, refl)

-- a path whose leg 3 runs into something: 2, and where; and one that is accepted: 0, and the index as it was
blocked_fault : told fault_number (answers (Some (Leg 3))) 9 ≡ 2
unfolding told fault_number
blocked_fault = refl

blocked_index : told_found itself (index_in (answers (Some (Leg 3)))) 9 ≡ 3
unfolding told_found fault_index
blocked_index = refl

accepted_index : told_found itself (index_in (answers None)) 9 ≡ 9
unfolding told_found fault_index
accepted_index = refl

-- a whole path that is enclosed on its leg 5: ground 2, the leg, and the edge as it was
enclosed_ground : told leg_ground (answers (Enclosed 5)) 9 ≡ 2
unfolding told leg_ground
enclosed_ground = refl

enclosed_leg : told_found itself (leg_in (answers (Enclosed 5))) 9 ≡ 5
unfolding told_found leg_of
enclosed_leg = refl

enclosed_edge : told_found itself (leg_edge_in (answers (Enclosed 5))) 9 ≡ 9
unfolding told_found leg_edge_of
enclosed_edge = refl
