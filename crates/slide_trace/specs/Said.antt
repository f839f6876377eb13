-- What is printed for an input: every byte. Definitions only.
use Rattle.std.specs.Prelude.{ℕ, cond, List, drop, Float}
use Rattle.std.specs.Float.{binary64}
use Rattle.std.specs.Float.Ieee.{of_bits}
use Rattle.refusals.specs.Refusals.{refuse, passed}
use Rattle.refusals.specs.declared.Settings.{Settings}
use Rattle.simplify.specs.Simplify.{simplified}
use Rattle.book_layout.specs.Faults.{book_check}
use Rattle.nfp_sliding.specs.Path.{traced_of}
use Rattle.nfp_sliding.specs.Calls.{Answer, traces, denied, overfull, too_short, trace_call}
use Rattle.lines.specs.Lines.{refusal_line}
use Rattle.pair_input.specs.Input.{words_bytes, word_at, stationary_in, orbiting_in}
use Rattle.slide_trace.specs.Lines.{path_text}

-- the numbers that each of the trace's two rooms holds: the start and a point for each of 10,000 passes
abbrev pub room_size : ℕ
room_size = 20002

-- an answer of the trace, and the points of its result: the path, or the refusal's line
abbrev pub text_of : Answer → List Float → List ℕ
text_of (traces points stored passes stop) result = path_text points passes stop result
text_of (denied r) result = refusal_line r
text_of (overfull passes) result = refusal_line (refuse 5 0)
text_of (too_short passes stop) result = refusal_line (refuse 6 0)

-- the trace of two polygons
unfoldable pub trace_text : List Float → List Float → Settings → List ℕ
trace_text st orb s = text_of (trace_call st orb s room_size room_size) (simplified (traced_of st orb s room_size).path s.contact_tolerance)

-- a book: its fault, or the trace of its first two rings
unfoldable pub traced_book_text : List ℕ → Settings → List ℕ
traced_book_text book s =
    cond (passed (book_check book)) (trace_text (stationary_in book) (orbiting_in book) s) (refusal_line (book_check book))

-- the tolerance, the smallest move and the pass limit
abbrev pub settings_in : List ℕ → Settings
settings_in input = record {
  contact_tolerance = of_bits binary64 (word_at input 0);
  min_translation = of_bits binary64 (word_at input 8);
  max_iterations = word_at input 16;
}

-- the settings, and then the book
unfoldable pub input_text : List ℕ → List ℕ
input_text input = traced_book_text (drop words_bytes input) (settings_in input)
