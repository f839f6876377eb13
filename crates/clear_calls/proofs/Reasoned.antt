-- What the answer `clear` tells. A lent reason is said to be one exactly if it is; and where the answer is `clear`, of a check or
-- of a search, the moved polygon has at no time a point inside it on a stationary edge or within the stationary ring. Assumes
-- nothing.
use Prim.Native.Nat.{ℕ, ◌/◌, ◌<◌}
use native.Mathlib.Omega.{arith}
use mathlib.Core.Path.{◌≡◌, refl}
use mathlib.Core.Logic.{◌↔◌}
use mathlib.Core.Bool.{Bool, true, false, cond}
use mathlib.Core.List.{List, [], map}
use lib.ListN.{length, length-map}
use lib.IntN.{ℤ}
use Rattle.refusals.specs.Refusals.{passed}
use Rattle.refusals.specs.Answers.{Outcome, answers, refuses, outcome}
use Rattle.refusals.specs.Refusals.{Told}
use Rattle.shifted.specs.Shifted.{up_of}
use Rattle.whole_moves.specs.Moved.{moved_up}
use Rattle.reasons.specs.Check.{clear, check_of}
use Rattle.reasons.proofs.Exactly.{check_exactly, check_never_on_an_edge, check_ever_outside}
use Rattle.reason_search.specs.Search.{search_of}
use Rattle.reason_search.specs.Room.{room_of}
use Rattle.reason_search.proofs.Found.{search_checked}
use Rattle.clear_calls.specs.Rows.{of_reason}
use Rattle.clear_calls.specs.Calls.{check_reason_call}
use Rattle.clear_calls.specs.Told.{IsReason, Apart}
use Rattle.clear_calls.proofs.Passed.{reason_passed}

-- an answer that is no refusal
pub answered : {A : Type 0} (r : Told) (a b : A) → outcome r a ≡ answers b → (passed r ≡ true) × (a ≡ b)
answered {A} r a b = go (passed r) refl
  where
    go : (p : Bool) → passed r ≡ p → ◌≡◌ {A = Outcome A} (cond p (answers a) (refuses r)) (answers b) → (p ≡ true) × (a ≡ b)
    go true e h = (refl, cc)
    go false e h = absurd (let z : ◌≡◌ {A = ℕ} 0 1 = cc in omega arith)

-- ---- of lists that are moved up

module _ (st a b : List ℕ) (some : 0 < length a / 2) where
  pub check_apart : (ls : List ℕ) → check_of st a b ls ≡ clear → Apart st a b
  check_apart ls found =
      record {
        off_edges = λ u v l X Y i. check_never_on_an_edge st a b ls some found u v l X Y i;
        outside = λ u v l X Y i. check_ever_outside st a b ls some found u v l X Y i;
      }

  pub search_apart : search_of st a b ≡ clear → Apart st a b
  search_apart found = check_apart (room_of st a b []) (search_checked st a b [] refl found)

-- ---- `check_reason`

module _ (st orb : List ℤ) (dx dy : ℤ) (ls : List ℤ) where
  some : passed (of_reason st orb dx dy ls) ≡ true → 0 < length (map up_of orb) / 2
  some h = omega (arith, length-map orb up_of, (reason_passed st orb dx dy ls h).polygons.least)

  pub reason_exactly : passed (of_reason st orb dx dy ls) ≡ true
      → check_reason_call st orb dx dy ls ≡ answers clear ↔ IsReason (map up_of st) (map up_of orb) (moved_up orb dx dy) (map up_of ls)
  reason_exactly h =
      let e = check_exactly (map up_of st) (map up_of orb) (moved_up orb dx dy) (map up_of ls) (some h) in
      (λ c. e.0 (answered (of_reason st orb dx dy ls) _ _ c).1, λ r. rw (h, e.1 r))

  pub reason_apart : check_reason_call st orb dx dy ls ≡ answers clear → Apart (map up_of st) (map up_of orb) (moved_up orb dx dy)
  reason_apart c =
      let q = answered (of_reason st orb dx dy ls) _ _ c in
      check_apart (map up_of st) (map up_of orb) (moved_up orb dx dy) (some q.0) (map up_of ls) q.1
