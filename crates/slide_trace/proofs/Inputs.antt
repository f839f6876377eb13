-- The parts of an input: its settings, and its book. Assumes nothing.
use Prim.Native.Nat.{ℕ, ◌-◌, ◌≤◌, ◌<◌}
use native.Mathlib.Omega.{arith}
use mathlib.Core.Path.{◌≡◌, refl, sym, ap, ◌∙◌}
use mathlib.Core.List.{List, []}
use lib.ListN.{length, take, drop, length-drop, drop_of_length-le}
use lib.Seq.{take_all}
use lib.Ieee.{Float, binary64, of_bits}
use Rattle.refusals.specs.declared.Settings.{Settings}
use Rattle.book_layout.specs.Faults.{fault_at, book_check}
use Rattle.lines.specs.Lines.{refusal_line}
use Rattle.pair_input.specs.Input.{words_bytes, word_at}
use Rattle.slide_trace.specs.Said.{settings_in, traced_book_text, input_text}

pub settings_are : (l : List ℕ) {a b : Float} (x y : ℕ) {z : ℕ} → a ≡ of_bits binary64 x → x ≡ word_at l 0 → b ≡ of_bits binary64 y → y ≡ word_at l 8 → z ≡ word_at l 16
    → ◌≡◌ {A = Settings} (record { contact_tolerance = a; min_translation = b; max_iterations = z }) (settings_in l)
settings_are l x y p q r s t = rw (p, q, r, s, t) refl

no_book : (s : Settings) → refusal_line (fault_at 0) ≡ traced_book_text [] s
unfolding traced_book_text book_check
no_book s = refl

pub too_short : (l : List ℕ) → length l < words_bytes → refusal_line (fault_at 0) ≡ input_text l
unfolding input_text
too_short l h =
    let k : length l ≤ words_bytes = omega arith in
    no_book (settings_in l) ∙ ap (λ (b : List ℕ). traced_book_text b (settings_in l)) (sym (drop_of_length-le l k))

pub input_said : (l : List ℕ) {s : Settings} → s ≡ settings_in l → traced_book_text (take (length l - words_bytes) (drop words_bytes l)) s ≡ input_text l
unfolding input_text
input_said l e = rw (e, take_all (length l - words_bytes) (drop words_bytes l) (omega (arith, length-drop words_bytes l))) refl
