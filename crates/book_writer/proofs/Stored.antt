-- The bytes that `put_book` stores are the book. Assumes nothing.
use Prim.Native.Nat.{ℕ, ◌+◌, ◌*◌, ◌≤◌}
use native.Mathlib.Omega.{arith}
use mathlib.Core.Path.{◌≡◌, refl, sym, ap, ap₂, ◌∙◌}
use mathlib.Core.Bool.{true}
use mathlib.Core.List.{List, [], ◌∷◌, ◌++◌, map}
use lib.ListN.{length, take, drop, length-append, length-drop, length-map}
use lib.Seq.{sets}
use lib.Ieee.{Float}
use Rattle.ring.specs.Room.{laid}
use Rattle.reading.specs.Reading.{Vertex, least_reading}
use Rattle.reading.specs.Lent.{ring_of}
use Rattle.reading.proofs.Leasts.{length_least}
use Rattle.number_bytes.specs.Bytes.{bytes_of}
use Rattle.number_bytes.proofs.Bytes.{length_bytesOf}
use Rattle.refusals.specs.Rings.{vertices_least, vertices_most, within, total, sized_all}
use Rattle.book_layout.specs.Layout.{field_bytes, vertex_bytes, entry_bytes, entries, layout, book_of}
use Rattle.book_layout.specs.Writer.{rings_from, book_size}
use Rattle.ring.proofs.Emit.{laid_is, sets_append}
use Rattle.book_layout.proofs.Bytes.{length_entries}
use Rattle.book_layout.proofs.Checks.{body_total}
use Rattle.laws.proofs.Both.{both}
use Rattle.refusals.proofs.Counts.{is_within}
use Rattle.book_layout.proofs.Lent.{ring_count_lem}
use Rattle.book_writer.proofs.Storing.{stored}

stored_counts : (ns : List ℕ) (xs : List Float) → sized_all ns ≡ true → 2 * total ns ≤ length xs → map length (map least_reading (rings_from ns xs)) ≡ ns
unfolding rings_from sized_all total
stored_counts [] xs s h = refl
stored_counts (n ∷ ns) xs s h =
    let p = both (within vertices_least vertices_most n) (sized_all ns) s in
    let c : length (ring_of (take (2 * n) xs)) ≡ n = ring_count_lem n xs (omega arith) in
    ap₂ (λ (a : ℕ) (b : List ℕ). a ∷ b)
    (length_least (ring_of (take (2 * n) xs)) (omega (arith, is_within vertices_least vertices_most n p.0)) ∙ c)
    (stored_counts ns (drop (2 * n) xs) p.1 (omega (arith, length-drop (2 * n) xs)))

-- the book that is stored, and the room
module _ (xs : List Float) (ns ps room : List ℕ) (sized : sized_all ns ≡ true) (whole : length xs ≡ 2 * total ns) (many : length ps ≡ length ns) where
  abbrev kept : List (List Vertex)
  kept = map least_reading (rings_from ns xs)

  same_counts : map length kept ≡ ns
  same_counts = stored_counts ns xs sized (omega arith)

  stored_length : length (stored ns xs) ≡ vertex_bytes * total ns
  stored_length = body_total kept ∙ ap (λ (l : List ℕ). vertex_bytes * total l) same_counts

  rings_number : length kept ≡ length ns
  rings_number = sym (length-map kept length) ∙ ap length same_counts

  book_is : book_of (rings_from ns xs) ps ≡ stored ns xs ++ (entries 0 ns ps ++ (bytes_of field_bytes (length ns) ++ bytes_of field_bytes (vertex_bytes * total ns)))
  unfolding book_of layout
  book_is = rw (same_counts, rings_number, stored_length)

  -- The book has as many bytes as the writer answers.
  pub book_length : length (book_of (rings_from ns xs) ps) ≡ book_size ns
  book_length =
      ap length book_is
      ∙ omega (
        arith,
        length-append (stored ns xs) (entries 0 ns ps ++ (bytes_of field_bytes (length ns) ++ bytes_of field_bytes (vertex_bytes * total ns))),
        length-append (entries 0 ns ps) (bytes_of field_bytes (length ns) ++ bytes_of field_bytes (vertex_bytes * total ns)),
        length-append (bytes_of field_bytes (length ns)) (bytes_of field_bytes (vertex_bytes * total ns)),
        length_bytesOf field_bytes (length ns),
        length_bytesOf field_bytes (vertex_bytes * total ns),
        length_entries 0 ns ps many,
        stored_length,
      )

  -- the four runs of stores, one after the other
  pub four_runs : book_size ns ≤ length room
      → sets (sets (sets (sets room 0 (stored ns xs)) (vertex_bytes * total ns) (entries 0 ns ps)) (vertex_bytes * total ns + entry_bytes * length ns) (bytes_of field_bytes (length ns))) (vertex_bytes * total ns + entry_bytes * length ns + field_bytes) (bytes_of field_bytes (vertex_bytes * total ns))
      ≡ laid (book_of (rings_from ns xs) ps) room
  four_runs h =
      let f = vertex_bytes * total ns in
      let a = stored ns xs in
      let b = entries 0 ns ps in
      let c = bytes_of field_bytes (length ns) in
      let d = bytes_of field_bytes f in
      let e1 : 0 + length a ≡ f = omega (arith, stored_length) in
      let e2 : f + length b ≡ f + entry_bytes * length ns = omega (arith, length_entries 0 ns ps many) in
      let e3 : f + entry_bytes * length ns + length c ≡ f + entry_bytes * length ns + field_bytes = omega (arith, length_bytesOf field_bytes (length ns)) in
      let r1 = sets room 0 a in
      let r2 = sets r1 f b in
      let z : sets room 0 (a ++ (b ++ (c ++ d))) ≡ sets (sets r2 (f + entry_bytes * length ns) c) (f + entry_bytes * length ns + field_bytes) d =
      sets_append room 0 a (b ++ (c ++ d))
      ∙ ap (λ (j : ℕ). sets r1 j (b ++ (c ++ d))) e1
      ∙ sets_append r1 f b (c ++ d)
      ∙ ap (λ (j : ℕ). sets r2 j (c ++ d)) e2
      ∙ sets_append r2 (f + entry_bytes * length ns) c d
      ∙ ap (λ (j : ℕ). sets (sets r2 (f + entry_bytes * length ns) c) j d) e3 in
      sym z ∙ ap (sets room 0) (sym book_is) ∙ laid_is (book_of (rings_from ns xs) ps) room (omega (arith, book_length))
