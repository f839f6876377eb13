-- The reader's loops over entries: what is left of a field, of the check and of the sum of the counts. Assumes nothing.
use Prim.Native.Nat.{ℕ, suc, ◌+◌, ◌-◌, ◌*◌, ◌≤◌, ◌<◌}
use native.Mathlib.Omega.{arith}
use mathlib.Core.Path.{◌≡◌, sym, ap, ap₂, ◌∙◌}
use mathlib.Core.Bool.{true, false}
use mathlib.Core.List.{List, [], ◌∷◌}
use lib.ListN.{length, take, drop, set}
use lib.Seq.{sets, drop-drop}
use lib.Dec.{eqb}
use borrow.Author.Tests.{eq-eqb, ne_eqb, eqb-true}
use Rattle.refusals.specs.Refusals.{none, passed, first}
use Rattle.refusals.specs.Refusals.{Told}
use Rattle.number_bytes.specs.Bytes.{number_of}
use Rattle.refusals.specs.Rings.{vertices_least, vertices_most, within, total}
use Rattle.book_layout.specs.Layout.{field_bytes, vertex_bytes, entry_bytes, fields_in, counts_in}
use Rattle.book_layout.specs.Faults.{fault_at, fault, ◌passes, entries_check}
use Rattle.refusals.proofs.Counts.{is_within}
use Rattle.refusals.proofs.Sized.{row_parts}
use Rattle.book_layout.proofs.Passing.{held}
use Rattle.book_reader.specs.Parts.{list_check}

-- with i of k entries passed, from the place `from` on: the field that stands b bytes into each
module _ (f : List ℕ) (b from k i : ℕ) (h : i < k) where
  abbrev here : ℕ
  here = number_of (take field_bytes (drop (from + entry_bytes * i + b) f))

  field_left : fields_in b (k - i) (drop (from + entry_bytes * i) f) ≡ here ∷ fields_in b (k - (i + 1)) (drop (from + entry_bytes * (i + 1)) f)
  unfolding fields_in
  field_left =
      let a = from + entry_bytes * i in
      let e : k - i ≡ suc (k - (i + 1)) = omega arith in
      let d : a + entry_bytes ≡ from + entry_bytes * (i + 1) = omega arith in
      ap (λ (j : ℕ). fields_in b j (drop a f)) e
      ∙ ap₂ (λ (x y : List ℕ). number_of (take field_bytes x) ∷ fields_in b (k - (i + 1)) y) (drop-drop b a f) (drop-drop entry_bytes a f ∙ ap (λ (j : ℕ). drop j f) d)

  pub fields_on : (room : List ℕ)
      → sets room i (fields_in b (k - i) (drop (from + entry_bytes * i) f)) ≡ sets (set room i here) (i + 1) (fields_in b (k - (i + 1)) (drop (from + entry_bytes * (i + 1)) f))
  fields_on room =
      let e : suc i ≡ i + 1 = omega arith in
      ap (sets room i) field_left ∙ ap (λ (j : ℕ). sets (set room i here) j (fields_in b (k - (i + 1)) (drop (from + entry_bytes * (i + 1)) f))) e

-- with i of k entries passed, from the place `from` on, and `before` bytes before the next ring
module _ (f : List ℕ) (from k i before : ℕ) (h : i < k) where
  abbrev p : ℕ
  p = from + entry_bytes * i

  -- the offset and the vertices that the entry tells
  abbrev o : ℕ
  o = number_of (take field_bytes (drop (from + entry_bytes * i) f))

  abbrev n : ℕ
  n = number_of (take field_bytes (drop (from + entry_bytes * i + field_bytes) f))

  abbrev later : Told
  later = entries_check (k - (i + 1)) (from + entry_bytes * (i + 1)) (before + vertex_bytes * n) (drop (from + entry_bytes * (i + 1)) f)

  abbrev rest : List ℕ
  rest = counts_in (k - (i + 1)) (drop (from + entry_bytes * (i + 1)) f)

  more : k - i ≡ suc (k - (i + 1))
  more = omega arith

  next : drop entry_bytes (drop p f) ≡ drop (from + entry_bytes * (i + 1)) f
  next = let d : p + entry_bytes ≡ from + entry_bytes * (i + 1) = omega arith in drop-drop entry_bytes p f ∙ ap (λ (j : ℕ). drop j f) d

  left : entries_check (k - i) p before (drop p f) ≡ first (fault (eqb o before) p) (first (fault (within vertices_least vertices_most n) (p + field_bytes)) later)
  unfolding entries_check
  left =
      let d : p + entry_bytes ≡ from + entry_bytes * (i + 1) = omega arith in
      ap (λ (j : ℕ). entries_check j p before (drop p f)) more
      ∙ ap (λ (g : List ℕ). first (fault (eqb o before) p) (first (fault (within vertices_least vertices_most (number_of (take field_bytes g))) (p + field_bytes)) (entries_check (k - (i + 1)) (p + entry_bytes) (before + vertex_bytes * number_of (take field_bytes g)) (drop entry_bytes (drop p f))))) (drop-drop field_bytes p f)
      ∙ ap₂ (λ (j : ℕ) (g : List ℕ). first (fault (eqb o before) p) (first (fault (within vertices_least vertices_most n) (p + field_bytes)) (entries_check (k - (i + 1)) j (before + vertex_bytes * n) g))) d next

  pub offset_bad : eqb o before ≡ false → entries_check (k - i) p before (drop p f) ≡ fault_at p
  offset_bad w = left ∙ (rw w)

  pub count_bad : eqb o before ≡ true → within vertices_least vertices_most n ≡ false → entries_check (k - i) p before (drop p f) ≡ fault_at (p + field_bytes)
  count_bad w v = left ∙ (rw (w, v))

  pub entry_good : eqb o before ≡ true → within vertices_least vertices_most n ≡ true → entries_check (k - i) p before (drop p f) ≡ later
  entry_good w v = left ∙ (rw (w, v))

  -- where the check passes, it passes here and further on
  pub entry_held : entries_check (k - i) p before (drop p f) passes → (vertices_least ≤ n) × (n ≤ vertices_most) × (later passes)
  entry_held e =
      let a = row_parts (fault (eqb o before) p) (first (fault (within vertices_least vertices_most n) (p + field_bytes)) later) (ap passed (sym left) ∙ e) in
      let b = row_parts (fault (within vertices_least vertices_most n) (p + field_bytes)) later a.1 in
      let w = is_within vertices_least vertices_most n (held (within vertices_least vertices_most n) (p + field_bytes) b.0) in
      (w.0, w.1, b.1)

  pub count_left : counts_in (k - i) (drop p f) ≡ n ∷ rest
  count_left = field_left f field_bytes from k i h

  pub total_left : total (counts_in (k - i) (drop p f)) ≡ n + total rest
  unfolding total
  total_left = ap total count_left

-- at the start and at the end of the loops
pub entries_start : (f : List ℕ) (from k : ℕ) → entries_check k from 0 (drop from f) ≡ entries_check (k - 0) (from + entry_bytes * 0) 0 (drop (from + entry_bytes * 0) f)
entries_start f from k =
    let e : k ≡ k - 0 = omega arith in
    let d : from ≡ from + entry_bytes * 0 = omega arith in
    ap₂ (λ (a b : ℕ). entries_check a b 0 (drop b f)) e d

pub entries_end : (f : List ℕ) (from k i before : ℕ) → k ≤ i → entries_check (k - i) (from + entry_bytes * i) before (drop (from + entry_bytes * i) f) ≡ none
unfolding entries_check
entries_end f from k i before h =
    let e : k - i ≡ 0 = omega arith in
    ap (λ (j : ℕ). entries_check j (from + entry_bytes * i) before (drop (from + entry_bytes * i) f)) e

pub fields_start : (f : List ℕ) (b from k : ℕ) → fields_in b k (drop from f) ≡ fields_in b (k - 0) (drop (from + entry_bytes * 0) f)
fields_start f b from k =
    let e : k ≡ k - 0 = omega arith in
    let d : from ≡ from + entry_bytes * 0 = omega arith in
    ap₂ (λ (m n : ℕ). fields_in b m (drop n f)) e d

pub fields_end : (f : List ℕ) (b from k i : ℕ) → k ≤ i → fields_in b (k - i) (drop (from + entry_bytes * i) f) ≡ []
unfolding fields_in
fields_end f b from k i h = let e : k - i ≡ 0 = omega arith in ap (λ (a : ℕ). fields_in b a (drop (from + entry_bytes * i) f)) e

pub total_end : (f : List ℕ) (from k i : ℕ) → k ≤ i → total (counts_in (k - i) (drop (from + entry_bytes * i) f)) ≡ 0
unfolding total
total_end f from k i h = ap total (fields_end f field_bytes from k i h)

-- the check of the list, by what its two parts say
module _ (f : List ℕ) (from k : ℕ) where
  pub list_wrong : (place : ℕ) → entries_check k from 0 (drop from f) ≡ fault_at place → fault_at place ≡ list_check f from k
  unfolding list_check
  list_wrong place e = rw e

  module _ (e : entries_check k from 0 (drop from f) ≡ none) where
    pub list_long : (vertex_bytes * total (counts_in k (drop from f)) ≡ from → ⊥) → fault_at (length f - field_bytes) ≡ list_check f from k
    unfolding list_check
    list_long w = rw (e, ne_eqb (vertex_bytes * total (counts_in k (drop from f))) from w)

    pub list_fine : vertex_bytes * total (counts_in k (drop from f)) ≡ from → none ≡ list_check f from k
    unfolding list_check
    list_fine w = rw (e, eq-eqb (vertex_bytes * total (counts_in k (drop from f))) from w)

  pub list_passed : list_check f from k passes → (entries_check k from 0 (drop from f) passes) × (vertex_bytes * total (counts_in k (drop from f)) ≡ from)
  unfolding list_check
  list_passed h =
      let t = eqb (vertex_bytes * total (counts_in k (drop from f))) from in
      let p = row_parts (entries_check k from 0 (drop from f)) (fault t (length f - field_bytes)) h in
      (p.0, eqb-true (vertex_bytes * total (counts_in k (drop from f))) from (held t (length f - field_bytes) p.1))
