-- A book of one ring: the call refuses the orbiting polygon, which has no vertices, and its number is printed. Assumes nothing.
use Prim.Native.Nat.{ℕ}
use mathlib.Core.Path.{◌≡◌}
use mathlib.Core.List.{List}
use lib.ListN.{length}
use lib.Ieee.{Float}
use Rattle.plane.specs.declared.Point.{Point}
use Rattle.refusals.specs.Refusals.{refused_few, refuse}
use Rattle.refusals.specs.Rows.{of_two_polygons, of_moving}
use Rattle.number_bytes.specs.Bytes.{Each, Byte}
use Rattle.book_layout.specs.Layout.{counts_of}
use Rattle.book_layout.specs.Faults.{◌passes, book_check}
use Rattle.lines.specs.Lines.{number_line}
use Rattle.pair_input.specs.Input.{stationary_in, orbiting_in}
use Rattle.pair_input.proofs.OneRing.{one_refused}
use Rattle.explain_move.specs.Said.{explained_text, explained_book_text}

refused : (st orb : List Float) (p : Point) (tol : Float)
    → of_two_polygons st orb ≡ refuse refused_few 1 → explained_text st orb p tol ≡ number_line refused_few
unfolding explained_text of_moving
refused st orb p tol e = rw e

pub one_ring : (f : List ℕ) (p : Point) (tol : Float) → Each Byte f → book_check f passes → length (counts_of f) ≡ 1
    → explained_book_text f p tol ≡ number_line refused_few
unfolding explained_book_text
one_ring f p tol bytes ok one = rw ok (refused (stationary_in f) (orbiting_in f) p tol (one_refused f bytes ok one))
