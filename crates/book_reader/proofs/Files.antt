-- A whole file, part by part: its last fields, its checks in order, and the reader's refusal, answer and rooms. Assumes nothing.
use Prim.Native.Nat.{ℕ, ◌+◌, ◌-◌, ◌*◌, ◌/◌, ◌≤◌, ◌<◌}
use mathlib.Core.Path.{◌≡◌, refl, sym, ap, ◌∙◌}
use mathlib.Core.Bool.{true, false, ◌&&◌}
use mathlib.Core.List.{List}
use lib.ListN.{length, drop}
use lib.Dec.{leb, eqb}
use lib.Ieee.{Float}
use borrow.Author.Tests.{le-leb, lt-leb, leb-true, eqb-true}
use Rattle.refusals.specs.Refusals.{none, passed, first}
use Rattle.refusals.specs.Screens.{wrong_book_rooms}
use Rattle.std.specs.Prelude.{Result}
use Rattle.refusals.specs.Answers.{answered}
use Rattle.refusals.specs.Refusals.{Told}
use Rattle.refusals.specs.declared.Refusal.{Refusal}
use Rattle.refusals.proofs.First.{first_assoc}
use Rattle.refusals.specs.Rings.{rings_most, within, total}
use Rattle.book_layout.specs.Layout.{field_bytes, coordinate_bytes, vertex_bytes, entry_bytes, tail_bytes, book_least, book_most, ring_count, entry_offset, counts_in, counts_of}
use Rattle.book_layout.specs.Faults.{fault_at, fault, ◌passes, entries_check, coords_check, least_check, book_check}
use Rattle.book_layout.specs.Reader.{numbers_of, holds_all, read_refusal, read_call, read_room, read_counts, read_parts}
use Rattle.laws.proofs.Both.{both}
use Rattle.refusals.proofs.Counts.{is_within}
use Rattle.refusals.proofs.Sized.{row_parts, holds}
use Rattle.book_layout.proofs.Passing.{held}
use Rattle.book_layout.proofs.Lent.{length_numbers, length_counts}
use Rattle.refusals.proofs.Calls.{unique, answered_only}
use Rattle.book_reader.specs.Parts.{tail_check, list_check}

-- ---- the last fields

module _ (f : List ℕ) where
  pub too_short : length f < book_least → fault_at 0 ≡ tail_check f
  unfolding tail_check
  too_short h = rw (lt-leb book_least (length f) h)

  module _ (low : book_least ≤ length f) where
    pub too_long : book_most < length f → fault_at 0 ≡ tail_check f
    unfolding tail_check
    too_long h = rw (le-leb book_least (length f) low, lt-leb (length f) book_most h)

    module _ (high : length f ≤ book_most) where
      pub bad_count : within 1 rings_most (ring_count f) ≡ false → fault_at (length f - tail_bytes) ≡ tail_check f
      unfolding tail_check
      bad_count h = rw (le-leb book_least (length f) low, le-leb (length f) book_most high, h)

      module _ (number : within 1 rings_most (ring_count f) ≡ true) where
        pub bad_end : eqb (entry_offset f + entry_bytes * ring_count f + tail_bytes) (length f) ≡ false → fault_at (length f - field_bytes) ≡ tail_check f
        unfolding tail_check
        bad_end h = rw (le-leb book_least (length f) low, le-leb (length f) book_most high, number, h)

        pub good_end : eqb (entry_offset f + entry_bytes * ring_count f + tail_bytes) (length f) ≡ true → none ≡ tail_check f
        unfolding tail_check
        good_end h = rw (le-leb book_least (length f) low, le-leb (length f) book_most high, number, h)

-- what it tells that they are right
pub record Tail (f : List ℕ) : Type 0 where
  pub low : book_least ≤ length f
  pub high : length f ≤ book_most
  pub few : ring_count f ≤ rings_most
  pub sum : entry_offset f + entry_bytes * ring_count f + tail_bytes ≡ length f

pub tail_passed : (f : List ℕ) → tail_check f passes → Tail f
unfolding tail_check
tail_passed f h =
    let e = eqb (entry_offset f + entry_bytes * ring_count f + tail_bytes) (length f) in
    let t1 = fault (within book_least book_most (length f)) 0 in
    let t2 = fault (within 1 rings_most (ring_count f)) (length f - tail_bytes) in
    let t3 = fault e (length f - field_bytes) in
    let p = row_parts t1 (first t2 t3) h in
    let q = row_parts t2 t3 p.1 in
    let w = is_within book_least book_most (length f) (held (within book_least book_most (length f)) 0 p.0) in
    record {
      low = w.0;
      high = w.1;
      few = (is_within 1 rings_most (ring_count f) (held (within 1 rings_most (ring_count f)) (length f - tail_bytes) q.0)).1;
      sum = eqb-true (entry_offset f + entry_bytes * ring_count f + tail_bytes) (length f) (held e (length f - field_bytes) q.1);
    }

-- ---- the checks in order, in the four parts that `check_book` makes

abbrev pub after_list : List ℕ → Told
after_list f = first (coords_check (entry_offset f / coordinate_bytes) 0 f) (least_check (counts_in (ring_count f) (drop (entry_offset f) f)) 0 f)

abbrev pub after_tail : List ℕ → Told
after_tail f = first (list_check f (entry_offset f) (ring_count f)) (after_list f)

pub book_is : (f : List ℕ) → book_check f ≡ first (tail_check f) (after_tail f)
unfolding book_check tail_check list_check counts_of
book_is f =
    let k = ring_count f in
    let e = entry_offset f in
    let t1 = fault (within book_least book_most (length f)) 0 in
    let t2 = fault (within 1 rings_most k) (length f - tail_bytes) in
    let t3 = fault (eqb (e + entry_bytes * k + tail_bytes) (length f)) (length f - field_bytes) in
    let v4 = entries_check k e 0 (drop e f) in
    let t5 = fault (eqb (vertex_bytes * total (counts_in k (drop e f))) e) (length f - field_bytes) in
    let v6 = first (coords_check (e / coordinate_bytes) 0 f) (least_check (counts_in k (drop e f)) 0 f) in
    sym
    (first_assoc t1 (first t2 t3) (first (first v4 t5) v6)
    ∙ ap (first t1) (first_assoc t2 t3 (first (first v4 t5) v6) ∙ ap (λ (v : Told). first t2 (first t3 v)) (first_assoc v4 t5 v6)))

-- ---- the refusal

module _ (f : List ℕ) (room counts parts : ℕ) where
  pub at_fault : passed (book_check f) ≡ false → book_check f ≡ read_refusal f room counts parts
  unfolding read_refusal
  at_fault h = rw h

  module _ (ok : book_check f passes) where
    pub rooms_read : {n k : ℕ} {r : Told} → n ≡ entry_offset f → k ≡ ring_count f → r ≡ wrong_book_rooms (n / coordinate_bytes) room k counts parts
        → r ≡ read_refusal f room counts parts
    unfolding read_refusal
    rooms_read a b e = rw (ok, length_numbers f, length_counts f, ← a, ← b) e

  pub reads : read_refusal f room counts parts passes → (book_check f passes) × (length (numbers_of f) ≤ room) × (length (counts_of f) ≤ counts) × (length (counts_of f) ≤ parts)
  unfolding read_refusal
  reads h =
      let p = row_parts (book_check f) (wrong_book_rooms (length (numbers_of f)) room (length (counts_of f)) counts parts) h in
      let c = leb (length (counts_of f)) counts in
      let d = leb (length (counts_of f)) parts in
      let q = both (leb (length (numbers_of f)) room) (c && d) (holds (holds_all f room counts parts) 4 0 refl p.1) in
      let r = both c d q.1 in
      (p.0, leb-true (length (numbers_of f)) room q.0, leb-true (length (counts_of f)) counts r.0, leb-true (length (counts_of f)) parts r.1)

-- ---- the answer and the rooms

-- what `read_book` promises of its answer and of the three rooms that it leaves
abbrev pub Promised : List ℕ → List Float → List ℕ → List ℕ → Result ℕ Refusal → List Float → List ℕ → List ℕ → Type 0
Promised f room counts parts r x n p =
    (answered r ≡ read_call f (length room) (length counts) (length parts))
    × (x ≡ read_room f room (length counts) (length parts))
    × (n ≡ read_counts f (length room) counts (length parts))
    × (p ≡ read_parts f (length room) (length counts) parts)

-- Two answers of the reader that meet its promise are equal, and so are the rooms.
pub read_only : (f : List ℕ) (room : List Float) (counts parts : List ℕ) (r r' : Result ℕ Refusal) (x x' : List Float) (n n' p p' : List ℕ)
    → Promised f room counts parts r x n p → Promised f room counts parts r' x' n' p' → (r ≡ r') × (x ≡ x') × (n ≡ n') × (p ≡ p')
read_only f room counts parts r r' x x' n n' p p' h k = (
  unique answered answered_only (read_call f (length room) (length counts) (length parts)) r r' h.0 k.0,
  h.1 ∙ sym k.1,
  h.2 ∙ sym k.2,
  h.3 ∙ sym k.3,
)
