-- What a drawing that passes a check is known to be, and the checks one after the other. Assumes nothing.
use Prim.Native.Nat.{ℕ, ◌+◌, ◌*◌, ◌≤◌}
use mathlib.Core.Path.{◌≡◌, refl, sym, ap, ◌∙◌}
use mathlib.Core.Bool.{true}
use mathlib.Core.List.{List}
use lib.ListN.{length, get_or, drop}
use lib.Dec.{leb, eqb}
use borrow.Author.Tests.{leb-true, eqb-true}
use Rattle.refusals.specs.Refusals.{refused_room, refused_wkb, passed, first}
use Rattle.refusals.specs.Rings.{within}
use Rattle.refusals.specs.Screens.{short_room}
use Rattle.refusals.specs.Refusals.{Told}
use Rattle.refusals.proofs.First.{first_assoc}
use Rattle.refusals.proofs.Sized.{row_parts, holds}
use Rattle.refusals.proofs.Counts.{is_within}
use Rattle.wkb_layout.specs.Layout.{head_bytes, point_bytes, type_at, rings_at, points_at, polygon_type, points_least, points_most, order_in, code_in, open_vertices}
use Rattle.wkb_layout.specs.Faults.{wkb_fault, numbers_check, closing_at, closes, wkb_check}
use Rattle.wkb_layout.specs.Reader.{read_wkb_refusal}
use Rattle.wkb_reader.specs.Parts.{head_check}

-- a file whose length and fields pass
pub record Headed (f : List ℕ) : Type 0 where
  pub least : points_least ≤ code_in f points_at
  pub most : code_in f points_at ≤ points_most
  pub whole : length f ≡ head_bytes + point_bytes * code_in f points_at

module _ (f : List ℕ) where
  abbrev points : Told
  points = wkb_fault (within points_least points_most (code_in f points_at)) points_at

  abbrev size : Told
  size = wkb_fault (eqb (length f) (head_bytes + point_bytes * code_in f points_at)) 0

  pub headed : passed (head_check f) ≡ true → Headed f
  unfolding head_check
  headed h =
      let rings = wkb_fault (eqb (code_in f rings_at) 1) rings_at in
      let kind = wkb_fault (eqb (code_in f type_at) polygon_type) type_at in
      let order = wkb_fault (leb (get_or f 0 0) 1) 0 in
      let last = first points size in
      let a = row_parts (wkb_fault (leb head_bytes (length f)) 0) (first order (first kind (first rings last))) h in
      let b = row_parts order (first kind (first rings last)) a.1 in
      let c = row_parts kind (first rings last) b.1 in
      let d = row_parts rings last c.1 in
      let e = row_parts points size d.1 in
      let w = is_within points_least points_most (code_in f points_at) (holds (within points_least points_most (code_in f points_at)) refused_wkb points_at refl e.0) in
      record { least = w.0; most = w.1; whole = eqb-true (length f) (head_bytes + point_bytes * code_in f points_at) (holds (eqb (length f) (head_bytes + point_bytes * code_in f points_at)) refused_wkb 0 refl e.1) }

  -- the coordinates, and the closing point
  abbrev pub rest : Told
  rest = first (numbers_check (order_in f) (2 * code_in f points_at) head_bytes (drop head_bytes f)) (wkb_fault (closes f) (closing_at f))

  pub check_is : wkb_check f ≡ first (head_check f) rest
  unfolding wkb_check head_check
  check_is = sym (rw (first_assoc, first_assoc, first_assoc, first_assoc, first_assoc))

-- a file that passes all checks, and one that a room holds
pub passing : (f : List ℕ) → passed (wkb_check f) ≡ true → Headed f
passing f h = headed f (row_parts (head_check f) (rest f) (ap passed (sym (check_is f)) ∙ h)).0

pub reads : (f : List ℕ) (room : ℕ) → passed (read_wkb_refusal f room) ≡ true → (passed (wkb_check f) ≡ true) × (2 * open_vertices f ≤ room)
unfolding read_wkb_refusal
reads f room h =
    let p = row_parts (wkb_check f) (short_room (2 * open_vertices f) room) h in
    (p.0, leb-true (2 * open_vertices f) room (holds (leb (2 * open_vertices f) room) refused_room 0 refl p.1))
