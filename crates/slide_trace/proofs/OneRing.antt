-- A book of one ring: the trace refuses the orbiting polygon, list 1, which has no vertices. Assumes nothing.
use Prim.Native.Nat.{ℕ}
use mathlib.Core.Path.{◌≡◌}
use mathlib.Core.List.{List}
use lib.ListN.{length}
use lib.Ieee.{Float}
use Rattle.refusals.specs.Refusals.{refused_few, tells_place, refuse}
use Rattle.refusals.specs.Rows.{of_two_polygons, of_trace}
use Rattle.refusals.specs.declared.Settings.{Settings}
use Rattle.number_bytes.specs.Bytes.{Each, Byte}
use Rattle.book_layout.specs.Layout.{counts_of}
use Rattle.book_layout.specs.Faults.{◌passes, book_check}
use Rattle.nfp_sliding.specs.Calls.{trace_call}
use Rattle.lines.specs.Lines.{place_line, refusal_line}
use Rattle.pair_input.specs.Input.{stationary_in, orbiting_in}
use Rattle.pair_input.proofs.OneRing.{one_refused}
use Rattle.slide_trace.specs.Said.{trace_text, traced_book_text}

refused : (st orb : List Float) (s : Settings) → of_two_polygons st orb ≡ refuse refused_few 1 → trace_text st orb s ≡ place_line refused_few 1
unfolding trace_text trace_call of_trace refusal_line tells_place
refused st orb s e = rw e

pub one_ring : (f : List ℕ) (s : Settings) → Each Byte f → book_check f passes → length (counts_of f) ≡ 1 → traced_book_text f s ≡ place_line refused_few 1
unfolding traced_book_text
one_ring f s bytes ok one = rw ok (refused (stationary_in f) (orbiting_in f) s (one_refused f bytes ok one))
