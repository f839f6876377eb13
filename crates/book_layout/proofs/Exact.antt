-- The reader accepts a file exactly if the writer can write it, and writing what was read gives that file again. Assumes nothing.
use Prim.Native.Nat.{ℕ, ◌+◌, ◌-◌, ◌*◌, ◌/◌, ◌≤◌}
use native.Mathlib.Omega.{arith}
use mathlib.Core.Path.{◌≡◌, sym, ap, ◌∙◌}
use mathlib.Core.List.{List, [], ◌∷◌, ◌++◌, map}
use lib.ListN.{length, take, drop, length-map, length-drop, take-append-drop}
use lib.Seq.{drop-drop, length-take-le, take_all}
use lib.Dec.{eqb}
use borrow.Author.Tests.{eqb-true}
use Rattle.refusals.specs.Refusals.{first}
use Rattle.reading.specs.Reading.{Vertex, least_reading}
use Rattle.number_bytes.specs.Bytes.{bytes_of, number_of, Each, Byte}
use Rattle.number_bytes.proofs.Bytes.{bytes_take}
use Rattle.number_bytes.proofs.Each.{each_drop}
use Rattle.refusals.specs.Rings.{vertices_least, vertices_most, rings_most, within, total}
use Rattle.book_layout.specs.Layout.{field_bytes, coordinate_bytes, vertex_bytes, entry_bytes, tail_bytes, book_least, book_most, body, entries, layout, book_of, Outline, PartNumber, Accepted, ring_count, entry_offset, counts_of, parts_of, rings_of}
use Rattle.book_layout.specs.Faults.{fault, entries_check, coords_check, least_check, book_check, ◌passes}
use Rattle.book_layout.proofs.Books.{least_accepted}
use Rattle.refusals.proofs.Counts.{is_within}
use Rattle.refusals.proofs.Sized.{row_parts}
use Rattle.book_layout.proofs.Passing.{held}
use Rattle.reading.proofs.Leasts.{least_again}
use Rattle.book_layout.proofs.Checks.{layout_pass}
use Rattle.book_layout.proofs.Found.{length_fieldsIn, parts_hold, entries_are, rings_counts, rings_body, rings_kept}

-- what a passed check tells
pub record Checked (f : List ℕ) : Type 0 where
  pub long : (book_least ≤ length f) × (length f ≤ book_most)
  pub count : (1 ≤ ring_count f) × (ring_count f ≤ rings_most)
  pub offset : entry_offset f + entry_bytes * ring_count f + tail_bytes ≡ length f
  pub listed : entries_check (ring_count f) (entry_offset f) 0 (drop (entry_offset f) f) passes
  pub ends : vertex_bytes * total (counts_of f) ≡ entry_offset f
  pub coords : coords_check (entry_offset f / coordinate_bytes) 0 f passes
  pub leasts : least_check (counts_of f) 0 f passes

pub checked : (f : List ℕ) → book_check f passes → Checked f
unfolding book_check
checked f h =
    let n = length f in
    let k = ring_count f in
    let e = entry_offset f in
    let v7 = least_check (counts_of f) 0 f in
    let v6 = coords_check (e / coordinate_bytes) 0 f in
    let t5 = eqb (vertex_bytes * total (counts_of f)) e in
    let v4 = entries_check k e 0 (drop e f) in
    let t3 = eqb (e + entry_bytes * k + tail_bytes) n in
    let v5 = first (fault t5 (n - field_bytes)) (first v6 v7) in
    let v3 = first (fault t3 (n - field_bytes)) (first v4 v5) in
    let p1 = row_parts (fault (within book_least book_most n) 0) (first (fault (within 1 rings_most k) (n - tail_bytes)) v3) h in
    let p2 = row_parts (fault (within 1 rings_most k) (n - tail_bytes)) v3 p1.1 in
    let p3 = row_parts (fault t3 (n - field_bytes)) (first v4 v5) p2.1 in
    let p4 = row_parts v4 v5 p3.1 in
    let p5 = row_parts (fault t5 (n - field_bytes)) (first v6 v7) p4.1 in
    let p6 = row_parts v6 v7 p5.1 in
    record {
      long = is_within book_least book_most n (held (within book_least book_most n) 0 p1.0);
      count = is_within 1 rings_most k (held (within 1 rings_most k) (n - tail_bytes) p2.0);
      offset = eqb-true (e + entry_bytes * k + tail_bytes) n (held t3 (n - field_bytes) p3.0);
      listed = p4.0;
      ends = eqb-true (vertex_bytes * total (counts_of f)) e (held t5 (n - field_bytes) p5.0);
      coords = p6.0;
      leasts = p6.1;
    }

-- a file in four parts
parts : (f : List ℕ) (e k : ℕ) → e + entry_bytes * k + tail_bytes ≡ length f
    → take e f ++ (take (entry_bytes * k) (drop e f) ++ (take field_bytes (drop (length f - tail_bytes) f) ++ take field_bytes (drop (length f - field_bytes) f))) ≡ f
parts f e k h =
    let n = length f in
    let z : e + entry_bytes * k ≡ n - tail_bytes = omega arith in
    let y : n - tail_bytes + field_bytes ≡ n - field_bytes = omega arith in
    let a : take field_bytes (drop (n - field_bytes) f) ≡ drop (n - field_bytes) f = take_all field_bytes (drop (n - field_bytes) f) (omega (arith, length-drop (n - field_bytes) f)) in
    let b : take field_bytes (drop (n - tail_bytes) f) ++ drop (n - field_bytes) f ≡ drop (n - tail_bytes) f =
    ap (λ (l : List ℕ). take field_bytes (drop (n - tail_bytes) f) ++ l) (ap (λ (j : ℕ). drop j f) (sym y) ∙ sym (drop-drop field_bytes (n - tail_bytes) f)) ∙ take-append-drop field_bytes (drop (n - tail_bytes) f) in
    let c : take (entry_bytes * k) (drop e f) ++ drop (n - tail_bytes) f ≡ drop e f =
    ap (λ (l : List ℕ). take (entry_bytes * k) (drop e f) ++ l) (ap (λ (j : ℕ). drop j f) (sym z) ∙ sym (drop-drop (entry_bytes * k) e f)) ∙ take-append-drop (entry_bytes * k) (drop e f) in
    rw (a, b, c) (take-append-drop e f)

module _ (f : List ℕ) (bytes : Each Byte f) (ok : book_check f passes) where
  all : Checked f
  all = checked f ok

  inside : entry_bytes * ring_count f ≤ length (drop (entry_offset f) f)
  inside = omega (arith, length-drop (entry_offset f) f, all.offset)

  pub listing : (take (entry_bytes * ring_count f) (drop (entry_offset f) f) ≡ entries 0 (counts_of f) (parts_of f)) × Each (λ (n : ℕ). (vertices_least ≤ n) × (n ≤ vertices_most)) (counts_of f)
  unfolding counts_of parts_of
  listing = entries_are (ring_count f) (entry_offset f) 0 (drop (entry_offset f) f) (each_drop Byte (entry_offset f) f bytes) inside all.listed

  pub parts_listed : Each PartNumber (parts_of f)
  unfolding parts_of
  parts_listed = parts_hold (ring_count f) (drop (entry_offset f) f) (each_drop Byte (entry_offset f) f bytes) inside

  fits : vertex_bytes * total (counts_of f) ≤ length f
  fits = omega (arith, all.ends, all.offset)

  lengths : map length (rings_of f) ≡ counts_of f
  unfolding rings_of
  lengths = rings_counts (counts_of f) f

  number : length (rings_of f) ≡ ring_count f
  unfolding counts_of
  number = sym (length-map (rings_of f) length) ∙ ap length lengths ∙ length_fieldsIn field_bytes (ring_count f) (drop (entry_offset f) f)

  the_body : body (rings_of f) ≡ take (entry_offset f) f
  unfolding rings_of
  the_body = rings_body (counts_of f) f bytes fits ∙ ap (λ (j : ℕ). take j f) all.ends

  length_body : length (body (rings_of f)) ≡ entry_offset f
  length_body = ap length the_body ∙ length-take-le (entry_offset f) f (omega (arith, all.offset))

  field : (at : ℕ) → at + field_bytes ≤ length f → bytes_of field_bytes (number_of (take field_bytes (drop at f))) ≡ take field_bytes (drop at f)
  field at h = bytes_take field_bytes (drop at f) (each_drop Byte at f bytes) (omega (arith, length-drop at f))

  the_count : bytes_of field_bytes (length (rings_of f)) ≡ take field_bytes (drop (length f - tail_bytes) f)
  unfolding ring_count
  the_count = ap (bytes_of field_bytes) number ∙ field (length f - tail_bytes) (omega (arith, all.offset))

  the_offset : bytes_of field_bytes (length (body (rings_of f))) ≡ take field_bytes (drop (length f - field_bytes) f)
  unfolding entry_offset
  the_offset = ap (bytes_of field_bytes) length_body ∙ field (length f - field_bytes) (omega (arith, all.offset))

  -- the file is the layout of the rings and the parts in it
  laid : layout (rings_of f) (parts_of f) ≡ f
  unfolding layout
  laid =
      rw (the_body, lengths, ← listing.0, the_count)
      (ap (λ (l : List ℕ). take (entry_offset f) f ++ (take (entry_bytes * ring_count f) (drop (entry_offset f) f) ++ (take field_bytes (drop (length f - tail_bytes) f) ++ l)))
      (ap (bytes_of field_bytes) (ap length (sym the_body)) ∙ the_offset)
      ∙ parts f (entry_offset f) (ring_count f) all.offset)

  -- each its own least reading
  read_kept : map least_reading (rings_of f) ≡ rings_of f
  unfolding rings_of
  read_kept = rings_kept (counts_of f) f 0 listing.1 all.leasts

  -- writing what was read gives the file again
  pub written_again : book_of (rings_of f) (parts_of f) ≡ f
  unfolding book_of
  written_again = ap (λ (rs : List (List Vertex)). layout rs (parts_of f)) read_kept ∙ laid

-- ---- what the writer writes

kept_each : (rs : List (List Vertex)) → Each Outline rs → Each (λ (r : List Vertex). least_reading r ≡ r) (map least_reading rs)
kept_each [] h = tt
kept_each (r ∷ rs) h = (least_again r (omega (arith, h.0.least)), kept_each rs h.1)

pub book_passes : (rs : List (List Vertex)) (ps : List ℕ) → Accepted rs ps → book_check (book_of rs ps) passes
unfolding book_of
book_passes rs ps a = layout_pass (map least_reading rs) ps (least_accepted rs ps a) (kept_each rs a.rings)
