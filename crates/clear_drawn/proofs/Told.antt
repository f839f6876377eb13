-- What an answer of the calls tells of the drawing: where it is clear, with the disc put by some how, the floats that were lent are
-- apart but for the depth; where it is enclosed, within but for it. Assumes nothing.
use Prim.Native.Nat.{ℕ}
use native.Mathlib.Omega.{arith}
use mathlib.Core.Path.{◌≡◌, refl}
use mathlib.Core.List.{List, map}
use lib.IntN.{ℤ}
use lib.Ieee.{Float}
use Rattle.plane.specs.declared.Point.{Point}
use Rattle.refusals.specs.Answers.{answers}
use Rattle.refusals.proofs.Sized.{row_parts}
use Rattle.shifted.specs.Shifted.{up_of}
use Rattle.reasons.specs.Check.{Ground, clear, edge, enclosed}
use Rattle.clear_calls.proofs.Reasoned.{answered}
use Rattle.drawn_floats.proofs.Made.{all_stay, picture_made}
use Rattle.drawn_aside.specs.Found.{Least, clear_by, edge_first, enclosed_by, least_how, unparted}
use Rattle.drawn_aside.specs.Told.{OnTheGrid, found_on, checked_on}
use Rattle.drawn_aside.proofs.Told.{checked_told, found_told}
use Rattle.drawn_aside.proofs.Least.{least_clear, least_enclosed}
use Rattle.drawn_rows.specs.Rows.{of_drawn_move, of_drawn_reason}
use Rattle.drawn_rows.specs.Lent.{DrawnLent}
use Rattle.drawn_rows.proofs.Passed.{move_passed, reason_passed}
use Rattle.clear_drawn.specs.Legs.{leg_least, leg_checked}
use Rattle.clear_drawn.specs.Calls.{move_of, move_least, move_checked, with_how, short_for, of_clear_move, clear_move_call}
use Rattle.clear_drawn.specs.Told.{LeastTold, MoveTold, ReasonTold, HasPicture}

module _ (xs ys : List Float) (from to : Point) (n : ℕ) (lent : DrawnLent xs ys (move_of from to) n) where
  on_the_grid : OnTheGrid n xs ys from.x from.y to.x to.y
  on_the_grid =
      record {
        some = omega (arith, lent.least);
        pairs = lent.pairs;
        ring_within = all_stay n xs lent.on_grid.ring_fits;
        starts_within = lent.on_grid.placed 0 (omega arith);
        ends_within = lent.on_grid.placed 1 (omega arith);
      }

  abbrev found : ℕ → Ground
  found = found_on n xs ys from.x from.y to.x to.y

  -- of the search
  least_told : (l : Least) → move_least xs ys (move_of from to) n ≡ l → LeastTold n xs ys from to l
  unfolding leg_least least_how
  least_told (clear_by how) q =
      (found_told n xs ys from.x from.y to.x to.y how on_the_grid).0 (least_clear found (unparted (found 0)) 0 21 how q)
  least_told (edge_first j) q = tt
  least_told (enclosed_by how) q =
      (found_told n xs ys from.x from.y to.x to.y how on_the_grid).1 (least_enclosed found (unparted (found 0)) 0 21 how q)

  -- of the check
  module _ (how : ℕ) (ls : List ℤ) where
    abbrev checked : Ground
    checked = checked_on n xs ys from.x from.y to.x to.y how (map up_of ls)

    ground_told : (g : Ground) → checked ≡ g → LeastTold n xs ys from to (with_how g how)
    ground_told clear q = (checked_told n xs ys from.x from.y to.x to.y how (map up_of ls) on_the_grid).0 q
    ground_told (edge j) q = tt
    ground_told enclosed q = (checked_told n xs ys from.x from.y to.x to.y how (map up_of ls) on_the_grid).1 q

    reason_least : (l : Least) → with_how (move_checked xs ys (move_of from to) n how ls) how ≡ l → LeastTold n xs ys from to l
    unfolding leg_checked
    reason_least l q = rw (← q) (ground_told checked refl)

module _ (xs ys : List Float) (from to : Point) (n size : ℕ) (l : Least) (c : clear_move_call xs ys from to n size ≡ answers l) where
  abbrev path : List Float
  path = move_of from to

  tested : DrawnLent xs ys path n × (move_least xs ys path n ≡ l)
  tested =
      let a = answered (of_clear_move xs ys path n size) _ _ c in
      let p = row_parts (of_drawn_move xs ys path n) (short_for xs ys path n (move_least xs ys path n) size) a.0 in
      (move_passed xs ys path n p.0, a.1)

pub move_told : MoveTold
move_told xs ys from to n size l c =
    let t = tested xs ys from to n size l c in
    least_told xs ys from to n t.0 l t.1

pub has_picture : HasPicture
has_picture xs ys from to n size l fx fy fp c =
    let g = (tested xs ys from to n size l c).0.on_grid in
    picture_made n xs ys from.x from.y to.x to.y fx fy fp g.ring_fits g.disc_fits g.path_fits

pub reason_told : ReasonTold
reason_told xs ys from to n how ls l c =
    let path = move_of from to in
    let a = answered (of_drawn_reason xs ys path n how ls) _ _ c in
    reason_least xs ys from to n (reason_passed xs ys path n how ls a.0).0 how ls l a.1
