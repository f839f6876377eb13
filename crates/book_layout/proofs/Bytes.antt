-- What a layout is read back as, part by part. Assumes nothing.
use Prim.Native.Nat.{ℕ, ◌+◌, ◌*◌, ◌^◌, ◌≤◌, ◌<◌}
use native.Mathlib.Omega.{arith}
use mathlib.Core.Path.{◌≡◌, refl, sym, ap, ◌∙◌}
use mathlib.Core.List.{List, [], ◌∷◌, ◌++◌, map, append_assoc}
use lib.ListN.{length, take, drop, length-append}
use lib.Seq.{drop_at, drop-drop}
use Rattle.reading.specs.Reading.{Vertex, flat, vertices}
use Rattle.number_bytes.specs.Bytes.{bytes_of, number_of, Each}
use Rattle.number_bytes.proofs.Bytes.{length_bytesOf, take_number, drop_number}
use Rattle.refusals.specs.Rings.{vertices_most}
use Rattle.book_layout.specs.Layout.{field_bytes, coordinate_bytes, vertex_bytes, entry_bytes, coord_bytes, body, entries, Corner, Outline, PartNumber, coords_in, fields_in, counts_in, parts_in, rings_in}
use Rattle.reading.proofs.Leasts.{vertices_flat, length_flat}

-- ---- the coordinates

length_coordBytes : (l : List ℕ) → length (coord_bytes l) ≡ coordinate_bytes * length l
unfolding coord_bytes
length_coordBytes [] = refl
length_coordBytes (c ∷ l) =
    length-append (bytes_of coordinate_bytes c) (coord_bytes l)
    ∙ (let e = length_coordBytes l in let e' = length_bytesOf coordinate_bytes c in omega arith)

pub length_ring : (r : List Vertex) → length (coord_bytes (flat r)) ≡ vertex_bytes * length r
length_ring r = omega (arith, length_coordBytes (flat r), length_flat r)

-- every coordinate is one that its bytes hold
abbrev Fits : ℕ → Type 0
Fits c = c < 256 ^ coordinate_bytes

coords_back : (l q : List ℕ) → Each Fits l → coords_in (length l) (coord_bytes l ++ q) ≡ l
unfolding coords_in coord_bytes
coords_back [] q h = refl
coords_back (c ∷ l) q h =
    rw (append_assoc (bytes_of coordinate_bytes c) (coord_bytes l) q, take_number coordinate_bytes c (coord_bytes l ++ q) h.0, drop_number coordinate_bytes c (coord_bytes l ++ q))
    (ap (λ (t : List ℕ). c ∷ t) (coords_back l q h.1))

fits_flat : (r : List Vertex) → Each Corner r → Each Fits (flat r)
fits_flat [] h = tt
fits_flat (v ∷ r) h = (h.0.x.pattern, (h.0.y.pattern, fits_flat r h.1))

pub ring_back : (r : List Vertex) (q : List ℕ) → Each Corner r → vertices (coords_in (2 * length r) (coord_bytes (flat r) ++ q)) ≡ r
ring_back r q h =
    ap (λ (k : ℕ). vertices (coords_in k (coord_bytes (flat r) ++ q))) (sym (length_flat r))
    ∙ ap vertices (coords_back (flat r) q (fits_flat r h))
    ∙ vertices_flat r

-- ---- the rings

pub rings_back : (rs : List (List Vertex)) (q : List ℕ) → Each Outline rs → rings_in (map length rs) (body rs ++ q) ≡ rs
unfolding rings_in body
rings_back [] q h = refl
rings_back (r ∷ rs) q h =
    rw (append_assoc (coord_bytes (flat r)) (body rs) q, ring_back r (body rs ++ q) h.0.corners, drop_at (coord_bytes (flat r)) (body rs ++ q) (vertex_bytes * length r) (length_ring r))
    (ap (λ (t : List (List Vertex)). r ∷ t) (rings_back rs q h.1))

-- ---- the entries

pub length_entries : (at : ℕ) (ns ps : List ℕ) → length ps ≡ length ns → length (entries at ns ps) ≡ entry_bytes * length ns
unfolding entries
length_entries at [] ps m = refl
length_entries at (n ∷ ns) [] m = absurd (omega (arith, m))
length_entries at (n ∷ ns) (p ∷ ps) m =
    simp (length-append, length_bytesOf, length_entries (at + vertex_bytes * n) ns ps (omega (arith, m))) (omega arith)

-- the first entry, and what follows it
module _ (at n p : ℕ) (ns ps q : List ℕ) where
  abbrev after : List ℕ
  after = entries (at + vertex_bytes * n) ns ps ++ q

  abbrev whole : List ℕ
  whole = entries at (n ∷ ns) (p ∷ ps) ++ q

  entry_is : whole ≡ bytes_of field_bytes at ++ (bytes_of field_bytes n ++ (bytes_of field_bytes p ++ after))
  unfolding entries
  entry_is = simp append_assoc

  entry_second : drop field_bytes whole ≡ bytes_of field_bytes n ++ (bytes_of field_bytes p ++ after)
  entry_second = ap (drop field_bytes) entry_is ∙ drop_number field_bytes at (bytes_of field_bytes n ++ (bytes_of field_bytes p ++ after))

  entry_third : drop (2 * field_bytes) whole ≡ bytes_of field_bytes p ++ after
  entry_third =
      sym (drop-drop field_bytes field_bytes whole)
      ∙ ap (drop field_bytes) entry_second
      ∙ drop_number field_bytes n (bytes_of field_bytes p ++ after)

  pub entry_offset_lem : at < 256 ^ field_bytes → number_of (take field_bytes whole) ≡ at
  entry_offset_lem h =
      ap (λ (l : List ℕ). number_of (take field_bytes l)) entry_is
      ∙ take_number field_bytes at (bytes_of field_bytes n ++ (bytes_of field_bytes p ++ after)) h

  pub entry_count : n < 256 ^ field_bytes → number_of (take field_bytes (drop field_bytes whole)) ≡ n
  entry_count h = ap (λ (l : List ℕ). number_of (take field_bytes l)) entry_second ∙ take_number field_bytes n (bytes_of field_bytes p ++ after) h

  entry_part : p < 256 ^ field_bytes → number_of (take field_bytes (drop (2 * field_bytes) whole)) ≡ p
  entry_part h = ap (λ (l : List ℕ). number_of (take field_bytes l)) entry_third ∙ take_number field_bytes p after h

  pub entry_rest : drop entry_bytes whole ≡ after
  entry_rest = sym (drop-drop field_bytes (2 * field_bytes) whole) ∙ ap (drop field_bytes) entry_third ∙ drop_number field_bytes p after

pub counts_back : (at : ℕ) (ns ps q : List ℕ) → length ps ≡ length ns → Each (λ (n : ℕ). n ≤ vertices_most) ns
    → counts_in (length ns) (entries at ns ps ++ q) ≡ ns
unfolding fields_in
counts_back at [] ps q m h = refl
counts_back at (n ∷ ns) [] q m h = absurd (omega (arith, m))
counts_back at (n ∷ ns) (p ∷ ps) q m h =
    rw (entry_count at n p ns ps q (omega (arith, h.0)), entry_rest at n p ns ps q)
    (ap (λ (l : List ℕ). n ∷ l) (counts_back (at + vertex_bytes * n) ns ps q (omega (arith, m)) h.1))

pub parts_back : (at : ℕ) (ns ps q : List ℕ) → length ps ≡ length ns → Each PartNumber ps → parts_in (length ns) (entries at ns ps ++ q) ≡ ps
unfolding fields_in
parts_back at [] [] q m h = refl
parts_back at [] (p ∷ ps) q m h = absurd (omega (arith, m))
parts_back at (n ∷ ns) [] q m h = absurd (omega (arith, m))
parts_back at (n ∷ ns) (p ∷ ps) q m h =
    rw (entry_part at n p ns ps q (omega (arith, h.0)), entry_rest at n p ns ps q)
    (ap (λ (l : List ℕ). p ∷ l) (parts_back (at + vertex_bytes * n) ns ps q (omega (arith, m)) h.1))
