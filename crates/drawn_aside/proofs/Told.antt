-- Where the check says `clear` of a disc put aside on the grid, or the search does, the floats that were drawn are apart but for
-- the depth; where `enclosed` is said, they are within but for it. Assumes nothing.
use Prim.Native.Nat.{ℕ, ◌+◌, ◌*◌, ◌/◌, ◌≤◌}
use native.Mathlib.Omega.{arith}
use mathlib.Core.Path.{◌≡◌, refl, sym, ap, ◌∙◌}
use mathlib.Core.Bool.{Bool, true, false, cond, ◌&&◌}
use mathlib.Core.List.{List, [], map}
use lib.ListN.{length, length-map}
use lib.IntN.{ℤ}
use lib.Ieee.{Float}
use Rattle.laws.proofs.Both.{both}
use Rattle.shifted.specs.Shifted.{up_of}
use Rattle.shifted.specs.declared.Spot.{Spot}
use Rattle.whole_engine.specs.Rows.{all_in_bounds}
use Rattle.whole_moves.specs.Moved.{down_of}
use Rattle.whole_moves.proofs.Turns.{moved_length}
use Rattle.reasons.specs.Check.{Ground, clear, edge, enclosed, check_of}
use Rattle.reason_search.specs.Search.{search_of}
use Rattle.reason_search.specs.Room.{room_of}
use Rattle.reason_search.proofs.Found.{search_checked, enclosed_checked}
use Rattle.put_aside.specs.Aside.{width_of, aside, stays_on}
use Rattle.to_grid.specs.Grid.{nearest}
use Rattle.drawn_floats.specs.Picture.{placed, Aside, PutOn}
use Rattle.drawn_floats.proofs.Told.{floats_apart, floats_within}
use Rattle.drawn_aside.specs.Found.{stays_both, found_by, checked_by, depth_of}
use Rattle.drawn_aside.specs.Told.{ring_up, disc_up, spot_up, DrawnApart, DrawnWithin, OnTheGrid, CheckedTold, FoundTold}
use Rattle.drawn_aside.proofs.Lowered.{Close, as_long, aside_close, lowered_aside, lowered_within, raised_again}

-- ---- what is not `edge 0` was found with all corners on the grid

pub found_on : (t : Bool) (g h : Ground) → cond t g (edge 0) ≡ h → (h ≡ edge 0 → ⊥) → (t ≡ true) × (g ≡ h)
found_on true g h e never = (refl, e)
found_on false g h e never = absurd (never (sym e))

pub clear_no_edge : clear ≡ edge 0 → ⊥
clear_no_edge e = let z : ◌≡◌ {A = ℕ} 0 1 = cc in omega arith

enclosed_no_edge : enclosed ≡ edge 0 → ⊥
enclosed_no_edge e = let z : ◌≡◌ {A = ℕ} 0 1 = cc in omega arith

-- ---- the disc at a position, put aside

module _ (n : ℕ) (ys : List Float) (px py : Float) (from to : Spot) (how : ℕ) (pairs : (k : ℕ) × (length ys ≡ 2 * k))
    (within : all_in_bounds (placed n ys px py) ≡ true) (on : stays_on (disc_up n ys px py) from to how ≡ true) where
  placed_length : length (disc_up n ys px py) ≡ length ys
  placed_length = length-map (placed n ys px py) up_of ∙ moved_length (nearest n px) (nearest n py) (map (nearest n) ys) ∙ length-map ys (nearest n)

  even : (k : ℕ) × (length (disc_up n ys px py) ≡ 2 * k)
  even = (pairs.0, placed_length ∙ pairs.1)

  abbrev put : List ℕ
  put = aside (disc_up n ys px py) from to how

  long : length put ≡ length (disc_up n ys px py)
  long = as_long (disc_up n ys px py) from to how even on

  close : Close (width_of how) (disc_up n ys px py) put
  close = aside_close (disc_up n ys px py) from to how even on

  put_aside : Aside (width_of how) (placed n ys px py) (map down_of put)
  put_aside = lowered_aside (width_of how) (placed n ys px py) put within (long ∙ length-map (placed n ys px py) up_of) close

  put_within : all_in_bounds (map down_of put) ≡ true
  put_within = lowered_within (width_of how) (disc_up n ys px py) put long close

  put_again : map up_of (map down_of put) ≡ put
  put_again = raised_again (width_of how) (disc_up n ys px py) put long close

-- ---- both at once

module _ (n : ℕ) (xs ys : List Float) (fx fy tx ty : Float) (how : ℕ) (g : OnTheGrid n xs ys fx fy tx ty)
    (on : stays_both (disc_up n ys fx fy) (disc_up n ys tx ty) (spot_up n fx fy) (spot_up n tx ty) how ≡ true) where
  abbrev from : Spot
  from = spot_up n fx fy

  abbrev to : Spot
  to = spot_up n tx ty

  abbrev starts : List ℕ
  starts = aside (disc_up n ys fx fy) from to how

  abbrev ends : List ℕ
  ends = aside (disc_up n ys tx ty) from to how

  stay : (stays_on (disc_up n ys fx fy) from to how ≡ true) × (stays_on (disc_up n ys tx ty) from to how ≡ true)
  stay = both (stays_on (disc_up n ys fx fy) from to how) (stays_on (disc_up n ys tx ty) from to how) on

  put_on : PutOn n (width_of how) xs ys fx fy tx ty (map down_of starts) (map down_of ends)
  put_on =
      record {
        some = g.some;
        starts = put_aside n ys fx fy from to how g.pairs g.starts_within stay.0;
        ends = put_aside n ys tx ty from to how g.pairs g.ends_within stay.1;
        ring_within = g.ring_within;
        starts_within = put_within n ys fx fy from to how g.pairs g.starts_within stay.0;
        ends_within = put_within n ys tx ty from to how g.pairs g.ends_within stay.1;
      }

  same_check : (ls : List ℕ)
      → check_of (ring_up n xs) (map up_of (map down_of starts)) (map up_of (map down_of ends)) ls ≡ check_of (ring_up n xs) starts ends ls
  same_check ls =
      ap (λ (a : List ℕ). check_of (ring_up n xs) a (map up_of (map down_of ends)) ls)
      (put_again n ys fx fy from to how g.pairs g.starts_within stay.0)
      ∙ ap (λ (b : List ℕ). check_of (ring_up n xs) starts b ls)
      (put_again n ys tx ty from to how g.pairs g.ends_within stay.1)

  told_apart : (ls : List ℕ) → check_of (ring_up n xs) starts ends ls ≡ clear → DrawnApart n xs ys fx fy tx ty (depth_of how)
  told_apart ls h E ring c d v = floats_apart v put_on ls (same_check ls ∙ h)

  told_within : (ls : List ℕ) → check_of (ring_up n xs) starts ends ls ≡ enclosed → DrawnWithin n xs ys fx fy tx ty (depth_of how)
  told_within ls h E ring c d v = floats_within v put_on ls (same_check ls ∙ h)

  -- the lines of the search
  abbrev taken : List ℕ
  taken = room_of (ring_up n xs) starts ends []

  found_apart : search_of (ring_up n xs) starts ends ≡ clear → DrawnApart n xs ys fx fy tx ty (depth_of how)
  found_apart h = told_apart taken (search_checked (ring_up n xs) starts ends [] refl h)

  found_within : search_of (ring_up n xs) starts ends ≡ enclosed → DrawnWithin n xs ys fx fy tx ty (depth_of how)
  found_within h = told_within taken (enclosed_checked (ring_up n xs) starts ends [] refl h)

-- ---- the theorems

pub checked_told : CheckedTold
unfolding checked_by
checked_told n xs ys fx fy tx ty how ls g = (
  λ h.
      let f = found_on _ _ clear h clear_no_edge in
      told_apart n xs ys fx fy tx ty how g f.0 ls f.1,
  λ h.
      let f = found_on _ _ enclosed h enclosed_no_edge in
      told_within n xs ys fx fy tx ty how g f.0 ls f.1,
)

pub found_told : FoundTold
unfolding found_by
found_told n xs ys fx fy tx ty how g = (
  λ h.
      let f = found_on _ _ clear h clear_no_edge in
      found_apart n xs ys fx fy tx ty how g f.0 f.1,
  λ h.
      let f = found_on _ _ enclosed h enclosed_no_edge in
      found_within n xs ys fx fy tx ty how g f.0 f.1,
)
