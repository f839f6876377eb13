-- What is asked of the book, over what is lent: lists of f64s with vertex counts and parts, and files. Assumes nothing.
use Prim.Native.Nat.{ℕ, ◌≤◌}
use native.Mathlib.Omega.{arith}
use mathlib.Core.Path.{◌≡◌, sym, ap, ◌∙◌}
use mathlib.Core.Logic.{◌↔◌}
use mathlib.Core.Bool.{true}
use mathlib.Core.List.{List, map}
use lib.ListN.{length}
use lib.Ieee.{Float}
use borrow.Author.Tests.{le-leb}
use Rattle.refusals.specs.Refusals.{passed, unless}
use Rattle.reading.specs.Reading.{Vertex, least_reading}
use Rattle.number_bytes.specs.Bytes.{Each, Byte, Formed}
use Rattle.refusals.specs.Rings.{rings_most}
use Rattle.book_layout.specs.Layout.{numbers_most, book_of, PartNumber, SameOutlines, coords_of, counts_of, parts_of, rings_of}
use Rattle.book_layout.specs.Faults.{◌passes, book_check}
use Rattle.book_layout.specs.Writer.{rings_from, lent_from, AsNumbers, write_refusal, Writes}
use Rattle.book_layout.specs.Reader.{numbers_of, holds_all, read_refusal}
use Rattle.refusals.proofs.Sized.{row_parts}
use Rattle.book_layout.proofs.Books.{least_accepted}
use Rattle.book_layout.proofs.Laid.{rings_of_lem, parts_of_lem}
use Rattle.book_layout.proofs.Exact.{written_again, parts_listed, book_passes}
use Rattle.refusals.proofs.Counts.{total_bounds}
use Rattle.number_bytes.proofs.Formed.{formed_of}
use Rattle.book_layout.proofs.Lent.{takes, taken, held_accepted, handed, read_held, read_size}
use Rattle.book_layout.proofs.Outlines.{same_outlines}

-- For two lists of rings that the writer takes, the books are the same bytes exactly if the lists are equally long, each ring is, its coordinates
-- compared as numbers, the ring at its place, begun at some corner and read in one direction or the other, and the parts agree place by place.
pub same_bytes : (xs ys : List Float) (ns ms ps qs : List ℕ) (s t : ℕ) → Formed xs → Formed ys → Each PartNumber ps → Each PartNumber qs
    → write_refusal xs ns ps s passes → write_refusal ys ms qs t passes
    → (book_of (rings_from ns xs) ps ≡ book_of (rings_from ms ys) qs) ↔ (SameOutlines AsNumbers (lent_from ns xs) (lent_from ms ys) × (ps ≡ qs))
same_bytes xs ys ns ms ps qs s t f g v w h k =
    same_outlines xs ys ns ms ps qs f g
    (held_accepted xs ns ps f v (takes xs ns ps s h).0)
    (held_accepted ys ms qs g w (takes ys ms qs t k).0)

-- Writing what was read gives that file again.
pub again : (f : List ℕ) (room counts parts : ℕ) → Each Byte f → read_refusal f room counts parts passes → Writes (numbers_of f) (counts_of f) (parts_of f) f
unfolding read_refusal
again f room counts parts bytes h =
    let ok = (row_parts (book_check f) (unless (holds_all f room counts parts) 4 0) h).0 in
    record {
      formed = formed_of (coords_of f);
      parts = parts_listed f bytes ok;
      taken = taken (numbers_of f) (counts_of f) (parts_of f) (length f) (read_held f bytes ok) (omega (arith, read_size f bytes ok));
      book = ap (λ (rs : List (List Vertex)). book_of rs (parts_of f)) (handed f bytes ok) ∙ written_again f bytes ok;
    }

-- The reader, given room enough, accepts a file exactly if the writer can write it.
pub accepts : (f : List ℕ) (room counts parts : ℕ) → Each Byte f → holds_all f room counts parts ≡ true
    → (read_refusal f room counts parts passes) ↔ ((xs : List Float) × (ns : List ℕ) × (ps : List ℕ) × Writes xs ns ps f)
unfolding read_refusal
accepts f room counts parts bytes enough = (
  λ h. (numbers_of f, counts_of f, parts_of f, again f room counts parts bytes h),
  λ w.
      let xs = w.0 in
      let ns = w.1 in
      let ps = w.2 in
      let z = w.3 in
      let ok : book_check f passes =
      ap (λ (g : List ℕ). passed (book_check g)) (sym z.book)
      ∙ book_passes (rings_from ns xs) ps (held_accepted xs ns ps z.formed z.parts (takes xs ns ps (length f) z.taken).0) in
      rw (ok, enough),
)

-- Room for 4,096 numbers, 8 counts and 8 parts is enough for every file that passes the checks.
pub enough : (f : List ℕ) (room counts parts : ℕ) → Each Byte f → book_check f passes → numbers_most ≤ room → rings_most ≤ counts → rings_most ≤ parts
    → holds_all f room counts parts ≡ true
enough f room counts parts bytes ok h k l =
    let held = read_held f bytes ok in
    let n : length (numbers_of f) ≤ room = omega (arith, held.whole, held.few, total_bounds (counts_of f) held.sized) in
    let m : length (counts_of f) ≤ counts = omega (arith, held.few) in
    let p : length (counts_of f) ≤ parts = omega (arith, held.few) in
    rw (le-leb (length (numbers_of f)) room n, le-leb (length (counts_of f)) counts m, le-leb (length (counts_of f)) parts p)

-- Of a book that was written, the rings are read as stored: in order, each in its least reading, bit for bit as they are kept, and the parts as written.
pub read_back : (xs : List Float) (ns ps : List ℕ) (size : ℕ) → Formed xs → Each PartNumber ps → write_refusal xs ns ps size passes
    → (rings_of (book_of (rings_from ns xs) ps) ≡ map least_reading (rings_from ns xs)) × (parts_of (book_of (rings_from ns xs) ps) ≡ ps)
unfolding book_of
read_back xs ns ps size f w h =
    let rs = rings_from ns xs in
    let a = least_accepted rs ps (held_accepted xs ns ps f w (takes xs ns ps size h).0) in
    (rings_of_lem (map least_reading rs) ps a, parts_of_lem (map least_reading rs) ps a)
