-- What is asked of drawings in well-known binary: reading what was written gives the same ring, the checks accept the drawings and no
-- other files, and both byte orders are read alike. Assumes nothing.
use Prim.Native.Nat.{ℕ, ◌*◌, ◌/◌, ◌^◌, ◌<◌}
use native.Mathlib.Omega.{arith}
use mathlib.Core.Path.{◌≡◌, refl, ap, ap₂}
use mathlib.Core.Logic.{◌↔◌}
use mathlib.Core.Bool.{true}
use mathlib.Core.List.{List, [], ◌∷◌}
use lib.ListN.{length}
use lib.Ieee.{Float}
use Rattle.laws.proofs.Both.{both}
use Rattle.number_bytes.specs.Bytes.{Each, Byte, Formed}
use Rattle.ring.specs.Room.{laid}
use Rattle.refusals.specs.Refusals.{none, passed, first}
use Rattle.refusals.specs.Answers.{outcome, left}
use Rattle.refusals.specs.Bounds.{coordinate, every, coordinates}
use Rattle.refusals.specs.Screens.{short_room}
use Rattle.refusals.specs.Rows.{of_polygon}
use Rattle.refusals.specs.Refusals.{Told}
use Rattle.wkb_layout.specs.Layout.{wkb_of, open_vertices}
use Rattle.wkb_layout.specs.Faults.{wkb_check}
use Rattle.wkb_layout.specs.Reader.{open_ring, read_wkb_refusal, read_wkb_call, read_wkb_room}
use Rattle.wkb_layout.specs.Writer.{closed, drawing_of}
use Rattle.wkb_layout.specs.Drawing.{Drawing}
use Rattle.wkb_layout.specs.declared.Order.TheVariants.{Big, Little}
use Rattle.wkb_layout.proofs.Numbers.{Pattern}
use Rattle.wkb_layout.proofs.Patterns.{formed_append, equals_itself}
use Rattle.refusals.proofs.Sized.{one_polygon}
use Rattle.wkb_layout.proofs.Checks.{checked}
use Rattle.wkb_layout.proofs.Drawn.{drawing_passes, drawing_vertices, drawing_ring}
use Rattle.wkb_layout.proofs.Found.{found}
use Rattle.wkb_layout.proofs.Alike.{check_alike, vertices_alike, ring_alike}

-- Of every ring that the writer takes, the file that it writes passes the checks, and the ring is read from it bit for bit.
pub read_written : (xs : List Float) → Formed xs → passed (of_polygon xs) ≡ true
    → (wkb_check (drawing_of xs) ≡ none) × (open_vertices (drawing_of xs) ≡ length xs / 2) × (open_ring (drawing_of xs) ≡ xs)
unfolding every
read_written [] f h = absurd (omega (arith, (one_polygon [] h).0.least))
read_written (x ∷ []) f h = absurd (omega (arith, (one_polygon (x ∷ []) h).0.least))
read_written (x ∷ y ∷ xs) f h =
    let r = x ∷ y ∷ xs in
    let p = both (coordinate x) (coordinates (y ∷ xs)) (one_polygon r h).1 in
    let q = both (coordinate y) (coordinates xs) p.1 in
    let g : Formed (closed r) = formed_append r (x ∷ y ∷ []) f (f.0, (f.1.0, tt)) in
    let d : Drawing (drawing_of r) =
    record {
      ring = r;
      x = x;
      y = y;
      order = Little;
      formed = g;
      taken = h;
      closes_x = equals_itself x p.0;
      closes_y = equals_itself y q.0;
      file = refl;
    } in
    (drawing_passes d, drawing_vertices d, drawing_ring d)

-- The checks pass a file exactly if it is a drawing, in either byte order.
pub accepts : (f : List ℕ) → Each Byte f → (passed (wkb_check f) ≡ true) ↔ Drawing f
accepts f bytes = (λ h. found f bytes (checked f h), λ d. ap passed (drawing_passes d))

-- Of a drawing its ring is read, bit for bit, whichever order and whichever of the equal points closes it.
pub read_drawing : (f : List ℕ) (d : Drawing f) → (open_vertices f ≡ length d.ring / 2) × (open_ring f ≡ d.ring)
read_drawing f d = (drawing_vertices d, drawing_ring d)

-- A file of the same bit patterns in the other byte order, whatever numbers they stand for, is answered alike, and leaves the same in every
-- room: the same ring, or the same refusal with the same place.
module _ (cs : List ℕ) (fit : Each Pattern cs) (few : length cs / 2 < 2 ^ 32) where
  refusal_alike : (size : ℕ) → read_wkb_refusal (wkb_of Big cs) size ≡ read_wkb_refusal (wkb_of Little cs) size
  unfolding read_wkb_refusal
  refusal_alike size =
      ap₂ (λ (r : Told) (n : ℕ). first r (short_room (2 * n) size))
      (check_alike cs fit few Big Little)
      (vertices_alike cs fit few Big Little)

  pub read_alike : (size : ℕ) → read_wkb_call (wkb_of Big cs) size ≡ read_wkb_call (wkb_of Little cs) size
  read_alike size = ap₂ (λ (r : Told) (n : ℕ). outcome r n) (refusal_alike size) (vertices_alike cs fit few Big Little)

  pub left_alike : (room : List Float) → read_wkb_room (wkb_of Big cs) room ≡ read_wkb_room (wkb_of Little cs) room
  left_alike room =
      ap₂ (λ (r : Told) (xs : List Float). left r (laid xs room) room) (refusal_alike (length room)) (ring_alike cs fit few Big Little)
