-- What the tests let pass, and how an i32 that is handed on stands. Assumes nothing.
use native.Mathlib.Omega.{arith}
use mathlib.Core.Path.{◌≡◌, refl}
use mathlib.Core.Bool.{true}
use mathlib.Core.List.{List}
use lib.IntN.{ℤ}
use mir.Syntax.{w32}
use mir.Val.{to_z, of_z, SFits}
use mir.ValLaws.{to_z-of_z}
use Rattle.refusals.specs.Refusals.{none, refused_number, passed, first}
use Rattle.refusals.specs.Lists.{list_fault}
use Rattle.refusals.proofs.Sized.{row_parts, holds, Fine, fine}
use Rattle.whole_engine.specs.Rows.{all_in_bounds, wrong_whole}
use Rattle.whole_moves.specs.Moved.{moved_by}
use Rattle.clear_calls.specs.Rows.{whole_polygon_extent, reason_extent, wrong_end, of_whole_move, of_reason}
use Rattle.clear_calls.specs.Lent.{WholeMove, WholeReason}

-- a move that is handed on is the same
pub as_lent : {A : Type 0} {dx dy : ℤ} (f : ℤ → ℤ → A) → SFits w32 dx → SFits w32 dy
    → f (to_z w32 (of_z w32 dx)) (to_z w32 (of_z w32 dy)) ≡ f dx dy
as_lent {A} {dx} {dy} f h k = rw (to_z-of_z w32 dx h, to_z-of_z w32 dy k)

pub still_lent : (st orb : List ℤ) {dx dy : ℤ} → SFits w32 dx → SFits w32 dy → WholeMove st orb dx dy
    → WholeMove st orb (to_z w32 (of_z w32 dx)) (to_z w32 (of_z w32 dy))
still_lent st orb {dx} {dy} h k W = rw (to_z-of_z w32 dx h, to_z-of_z w32 dy k) W

within : (zs : List ℤ) → passed (wrong_whole zs) ≡ true → all_in_bounds zs ≡ true
within zs h = holds (all_in_bounds zs) refused_number 0 refl h

module _ (st orb : List ℤ) (dx dy : ℤ) where
  polygons : Fine (whole_polygon_extent st) → Fine (whole_polygon_extent orb) → passed (wrong_whole st) ≡ true
      → passed (wrong_whole orb) ≡ true → passed (wrong_end orb dx dy) ≡ true → WholeMove st orb dx dy
  polygons f g r s t =
      record {
        ring_most = omega (arith, f.whole, f.within);
        least = omega (arith, g.whole, g.enough);
        most = omega (arith, g.whole, g.within);
        ring_within = within st r;
        starts_within = within orb s;
        ends_within = within (moved_by dx dy orb) t;
      }

  pub move_passed : passed (of_whole_move st orb dx dy) ≡ true → WholeMove st orb dx dy
  unfolding of_whole_move
  move_passed h =
      let ring = list_fault (whole_polygon_extent st) 0 in
      let polygon = list_fault (whole_polygon_extent orb) 1 in
      let ends = first (wrong_whole orb) (wrong_end orb dx dy) in
      let p = row_parts (first ring polygon) (first (wrong_whole st) ends) h in
      let q = row_parts ring polygon p.0 in
      let r = row_parts (wrong_whole st) ends p.1 in
      let s = row_parts (wrong_whole orb) (wrong_end orb dx dy) r.1 in
      polygons (fine (whole_polygon_extent st) 0 q.0) (fine (whole_polygon_extent orb) 1 q.1) r.0 s.0 s.1

  module _ (ls : List ℤ) where
    pub reason_passed : passed (of_reason st orb dx dy ls) ≡ true → WholeReason st orb dx dy ls
    unfolding of_reason
    reason_passed h =
        let ring = list_fault (whole_polygon_extent st) 0 in
        let polygon = list_fault (whole_polygon_extent orb) 1 in
        let lines = list_fault (reason_extent st ls) 2 in
        let ends = first (wrong_whole ls) (wrong_end orb dx dy) in
        let numbers = first (wrong_whole orb) ends in
        let p = row_parts (first ring (first polygon lines)) (first (wrong_whole st) numbers) h in
        let q = row_parts ring (first polygon lines) p.0 in
        let q' = row_parts polygon lines q.1 in
        let r = row_parts (wrong_whole st) numbers p.1 in
        let s = row_parts (wrong_whole orb) ends r.1 in
        let t = row_parts (wrong_whole ls) (wrong_end orb dx dy) s.1 in
        let k = fine (reason_extent st ls) 2 q'.1 in
        record {
          polygons =
              polygons (fine (whole_polygon_extent st) 0 q.0) (fine (whole_polygon_extent orb) 1 q'.0) r.0 s.0 t.1;
          four_each = omega (arith, k.whole, k.enough, k.within);
          lines_within = within ls t.0;
        }

-- the same of what the code answers
pub move_lent : (st orb : List ℤ) (dx dy : ℤ) → none ≡ of_whole_move st orb dx dy → WholeMove st orb dx dy
move_lent st orb dx dy e = move_passed st orb dx dy (rw (← e))

pub reason_lent : (st orb : List ℤ) (dx dy : ℤ) (ls : List ℤ) → none ≡ of_reason st orb dx dy ls → WholeReason st orb dx dy ls
reason_lent st orb dx dy ls e = reason_passed st orb dx dy ls (rw (← e))
