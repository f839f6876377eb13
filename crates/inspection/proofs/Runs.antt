-- The theorems carried to calls: what a call that is not refused says and writes is the definition's, so calls one after the other are the shifts
-- that the theorems speak of; and two answers to one call are equal. Assumes nothing.
use Prim.Native.Nat.{ℕ, ◌+◌, ◌≤◌, ◌<◌}
use mathlib.Core.Path.{◌≡◌, refl, sym, ◌∙◌}
use mathlib.Core.Bool.{Bool, true, false}
use mathlib.Core.List.{List, ◌++◌}
use native.Mathlib.Omega.{arith}
use lib.ListN.{length, take, drop, get_or, get_or-append}
use lib.Seq.{take_at}
use Rattle.ring.specs.Room.{laid}
use Rattle.refusals.specs.Refusals.{passed}
use Rattle.refusals.specs.Answers.{answers}
use Rattle.refusals.specs.Answers as reply
use Rattle.refusals.specs.declared.Refusal.{Refusal}
use Rattle.refusals.proofs.Calls.{answered_only}
use Rattle.std.specs.Prelude.{Result}
use Rattle.inspection.specs.Places.{per_shift, shift_places, following_start}
use Rattle.inspection.specs.Calls.{next_refusal, next_places_call, next_places_room}
use Rattle.inspection.specs.declared.Shift.{Shift}
use Rattle.inspection.specs.Shifts.{shifts_from, times, rounded_up}
use Rattle.inspection.specs.Runs.{Run, no_calls, call_then}
use Rattle.inspection.proofs.Places.{places_length}
use Rattle.inspection.proofs.Screened.{through}
use Rattle.inspection.proofs.Inspections.{differ, every_place, evenly}

-- a call that answers
pub record Answered (n k start : ℕ) (room : List ℕ) (told : Shift) : Type 0 where
  pub from : start < n
  pub count : told.places ≡ per_shift n k
  pub next : told.following ≡ following_start n k start
  pub wrote : next_places_room n k start room ≡ laid (shift_places n k start) room

pub answered : (n k start : ℕ) (room : List ℕ) (told : Shift) → next_places_call n k start (length room) ≡ answers told → Answered n k start room told
answered n k start room told h = go (passed (next_refusal n k start (length room))) refl
  where
    go : (b : Bool) → passed (next_refusal n k start (length room)) ≡ b → Answered n k start room told
    go true e =
        let t : answers (record { places = per_shift n k; following = following_start n k start }) ≡ answers told = simp e at h in
        record {
          from = (through n k start (length room) e).0;
          count = cc;
          next = cc;
          wrote = simp e;
        }
    go false e = absurd (let z : ◌≡◌ {A = ℕ} 0 1 = cc (simp e at h) in omega arith)

module _ (n k : ℕ) where
  -- the places that one call writes differ
  pub call_differs : (start i j : ℕ) (room : List ℕ) (told : Shift) → next_places_call n k start (length room) ≡ answers told
      → i < told.places → j < told.places
      → get_or (next_places_room n k start room) i 0 ≡ get_or (next_places_room n k start room) j 0 → i ≡ j
  call_differs start i j room told h a b e =
      let t = answered n k start room told h in
      let l = places_length n start (per_shift n k) in
      let s = shift_places n k start in
      let r = drop (length s) room in
      let x : get_or (s ++ r) i 0 ≡ get_or s i 0 = get_or-append s r 0 i (omega (arith, t.count)) in
      let y : get_or (s ++ r) j 0 ≡ get_or s j 0 = get_or-append s r 0 j (omega (arith, t.count)) in
      differ n k start i j t.from (omega (arith, t.count)) (omega (arith, t.count)) (sym x ∙ (rw t.wrote at e) ∙ y)

  -- calls one after the other are shifts one after the other
  pub run_is : {start : ℕ} {shifts : List (List ℕ)} → Run n k start shifts → shifts ≡ shifts_from n k start (length shifts)
  unfolding shifts_from
  run_is no_calls = refl
  run_is {start} (call_then room told h rest) =
      let t = answered n k start room told h in
      let e = run_is rest in
      let w : take told.places (next_places_room n k start room) ≡ shift_places n k start =
      rw (t.wrote, t.count) (take_at (shift_places n k start) (drop (length (shift_places n k start)) room) (per_shift n k) (places_length n start (per_shift n k))) in
      cc (w, e, t.next)

  pub run_every_place : {start : ℕ} {shifts : List (List ℕ)} (p : ℕ) → Run n k start shifts → length shifts ≡ rounded_up n k → 0 < k → start < n → p < n
      → 1 ≤ times p shifts
  run_every_place {start} p r e l h u = rw (run_is r, e) (every_place n k start p l h u)

  pub run_evenly : {shifts : List (List ℕ)} (p q : ℕ) → Run n k 0 shifts → p < n → q < n → times p shifts ≤ times q shifts + 1
  run_evenly {shifts} p q r u v = rw (run_is r) (evenly n k (length shifts) p q u v)

-- two answers that say the same are equal
pub inspected_only : (a b : Result Shift Refusal) → reply.answered a ≡ reply.answered b → a ≡ b
inspected_only a b h = answered_only a b h
