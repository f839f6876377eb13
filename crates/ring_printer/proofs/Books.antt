-- What is printed of the rings that the reader hands out is what is said of the book. Assumes nothing.
use Prim.Native.Nat.{ℕ, ◌*◌, ◌≤◌, ◌<◌}
use native.Mathlib.Omega.{arith}
use mathlib.Core.Path.{◌≡◌, sym, ap, subst, ◌∙◌}
use mathlib.Core.Bool.{true}
use mathlib.Core.List.{List, ◌++◌}
use lib.ListN.{length, get_or, take, drop, replicate, length-append, length-replicate}
use lib.Seq.{take_at}
use lib.Ieee.{Float, binary64, of_bits}
use Rattle.lines.specs.Lines.{refusal_line}
use Rattle.std.specs.Prelude.{Result, Ok, Err}
use Rattle.refusals.specs.Answers.{tells}
use Rattle.refusals.specs.declared.Refusal.{Refusal}
use Rattle.refusals.specs.Rings.{rings_most, total, sized_all}
use Rattle.book_layout.specs.Layout.{numbers_most, counts_of, parts_of}
use Rattle.book_layout.specs.Writer.{Held}
use Rattle.book_layout.specs.Reader.{numbers_of}
use Rattle.book_reader.proofs.Files.{Promised}
use Rattle.book_reader.proofs.Handed.{rings_told, a_book, book_held, room_is, counts_are, parts_are, no_book}
use Rattle.ring_printer.specs.Said.{rings_line, rings_text, book_text}
use Rattle.ring_printer.proofs.Rings.{same_texts}

-- the three rooms before the reader
abbrev room : List Float
room = replicate numbers_most (of_bits binary64 0)

abbrev counts : List ℕ
counts = replicate rings_most 0

abbrev parts : List ℕ
parts = replicate rings_most 0

-- what can be printed: a few rings that lie in a list
abbrev Printable : List Float → List ℕ → Type 0
Printable xs ns = (length ns ≤ rings_most) × (sized_all ns ≡ true) × (2 * total ns ≤ length xs)

module _ (f : List ℕ) (bytes : (i : ℕ) → get_or f i 0 < 256) (x : List Float) (n q : List ℕ) (r : Result ℕ Refusal) (p : Promised f room counts parts r x n q) where
  module _ (k : ℕ) (e : r ≡ Ok k) where
    abbrev l : List Float
    l = numbers_of f

    abbrev ns : List ℕ
    ns = counts_of f

    abbrev ps : List ℕ
    ps = parts_of f

    told : k ≡ length ns
    told = rings_told f bytes room x counts n parts q r p k e

    room_holds : x ≡ l ++ drop (length l) room
    room_holds = room_is f bytes room x counts n parts q r p k e

    counts_hold : n ≡ ns ++ drop (length ns) counts
    counts_hold = counts_are f bytes room x counts n parts q r p k e

    held : Held l ns ps
    held = book_held f bytes room x counts n parts q r p k e

    taken : take k n ≡ ns
    taken = ap (take k) counts_hold ∙ take_at ns (drop (length ns) counts) k (sym told)

    parts_hold : q ≡ ps ++ drop (length ps) parts
    parts_hold = parts_are f bytes room x counts n parts q r p k e

    parts_taken : take k q ≡ ps
    parts_taken = ap (take k) parts_hold ∙ take_at ps (drop (length ps) parts) k (held.many ∙ sym told)

    pub k_fits : k ≤ length n
    k_fits = omega (arith, ap length counts_hold, length-append ns (drop (length ns) counts), told)

    pub k_long : k ≡ length (take k n)
    k_long = told ∙ ap length (sym taken)

    pub parts_fit : k ≤ length q
    parts_fit = omega (arith, ap length parts_hold, length-append ps (drop (length ps) parts), held.many, told)

    pub parts_long : k ≡ length (take k q)
    parts_long = told ∙ sym held.many ∙ ap length (sym parts_taken)

    pub as_many : length (take k q) ≡ length (take k n)
    as_many = sym parts_long ∙ k_long

    pub printable : Printable x (take k n)
    printable =
        let w : 2 * total ns ≤ length x = omega (arith, ap length room_holds, length-append l (drop (length l) room), held.whole) in
        subst (Printable x) (sym taken) (held.few, held.sized, w)

    pub rings_said : rings_text (take k n) (take k q) x ≡ book_text f
    unfolding book_text
    rings_said =
        rw (taken, parts_taken, room_holds, a_book f bytes room x counts n parts q r p k e)
        (ap (λ (t : List ℕ). rings_line (length ns) ++ t) (same_texts ns ps l (drop (length l) room) held.whole (length ns) (omega arith)))

  module _ (why : Refusal) (e : r ≡ Err why) where
    pub fault_told : refusal_line (tells why) ≡ book_text f
    unfolding book_text
    fault_told =
        let b = no_book f bytes room x counts n parts q r p (omega (arith, length-replicate numbers_most (of_bits binary64 0))) (omega (arith, length-replicate {A = ℕ} rings_most 0)) (omega (arith, length-replicate {A = ℕ} rings_most 0)) why e in
        rw b.0 (ap refusal_line b.1)
