-- A file that passes the checks is the book of the rings and the parts in it. Assumes nothing.
use Prim.Native.Nat.{ℕ, zero, suc, ◌+◌, ◌*◌, ◌^◌, ◌≤◌, ◌<◌}
use native.Mathlib.Omega.{arith}
use mathlib.Core.Path.{◌≡◌, refl, sym, ap, ap₂, subst, ◌∙◌}
use mathlib.Core.List.{List, [], ◌∷◌, ◌++◌, map}
use lib.ListN.{length, take, drop, length-drop}
use lib.Seq.{drop-drop, take-add, length-take-le}
use lib.Dec.{eqb}
use borrow.Author.Tests.{eqb-true}
use Rattle.refusals.specs.Refusals.{first}
use Rattle.reading.specs.Reading.{Vertex, flat, vertices, best_of, least_reading}
use Rattle.number_bytes.specs.Bytes.{bytes_of, number_of, Byte, Each}
use Rattle.number_bytes.proofs.Bytes.{bytes_take, number_lt}
use Rattle.number_bytes.proofs.Each.{each_take, each_drop}
use Rattle.refusals.specs.Rings.{vertices_least, vertices_most, within, total}
use Rattle.book_layout.specs.Layout.{field_bytes, coordinate_bytes, vertex_bytes, entry_bytes, coord_bytes, body, entries, coordinate_bits, Coordinate, Corner, PartNumber, coords_in, fields_in, counts_in, parts_in, rings_in}
use Rattle.book_layout.specs.Faults.{fault, entries_check, coords_check, least_check, ◌passes}
use Rattle.refusals.proofs.Counts.{is_within}
use Rattle.refusals.proofs.Sized.{row_parts}
use Rattle.book_layout.proofs.Passing.{held}
use Rattle.reading.proofs.Leasts.{length_flat}
use Rattle.reading.proofs.Places.{flat_vertices}
use Rattle.reading.proofs.Own.{own}

-- ---- the coordinates

pub length_coordsIn : (k : ℕ) (f : List ℕ) → length (coords_in k f) ≡ k
unfolding coords_in
length_coordsIn zero f = refl
length_coordsIn (suc k) f = ap suc (length_coordsIn k (drop coordinate_bytes f))

coords_are : (k : ℕ) (f : List ℕ) → Each Byte f → coordinate_bytes * k ≤ length f → coord_bytes (coords_in k f) ≡ take (coordinate_bytes * k) f
unfolding coords_in coord_bytes
coords_are zero f h n = refl
coords_are (suc k) f h n =
    let e : coordinate_bytes * suc k ≡ coordinate_bytes + coordinate_bytes * k = omega arith in
    ap₂ (λ (a b : List ℕ). a ++ b) (bytes_take coordinate_bytes f h (omega arith)) (coords_are k (drop coordinate_bytes f) (each_drop Byte coordinate_bytes f h) (omega (arith, length-drop coordinate_bytes f)))
    ∙ sym (ap (λ (j : ℕ). take j f) e ∙ take-add coordinate_bytes (coordinate_bytes * k) f)

pub coords_hold : (k at : ℕ) (f : List ℕ) → Each Byte f → coordinate_bytes * k ≤ length f → coords_check k at f passes → Each Coordinate (coords_in k f)
unfolding coords_check coords_in
coords_hold zero at f h n c = tt
coords_hold (suc k) at f h n c =
    let p = row_parts (fault (coordinate_bits (number_of (take coordinate_bytes f))) at) (coords_check k (at + coordinate_bytes) (drop coordinate_bytes f)) c in
    let z : length (take coordinate_bytes f) ≡ coordinate_bytes = length-take-le coordinate_bytes f (omega arith) in
    let q : number_of (take coordinate_bytes f) < 256 ^ coordinate_bytes = subst (λ (j : ℕ). number_of (take coordinate_bytes f) < 256 ^ j) z (number_lt (take coordinate_bytes f) (each_take Byte coordinate_bytes f h)) in (
      record { pattern = q; bounded = held (coordinate_bits (number_of (take coordinate_bytes f))) at p.0 },
      coords_hold k (at + coordinate_bytes) (drop coordinate_bytes f) (each_drop Byte coordinate_bytes f h) (omega (arith, length-drop coordinate_bytes f)) p.1,
    )

-- ---- a ring

module _ (n : ℕ) (f : List ℕ) where
  ring_flat : flat (vertices (coords_in (2 * n) f)) ≡ coords_in (2 * n) f
  ring_flat = flat_vertices (coords_in (2 * n) f) (omega (arith, length_coordsIn (2 * n) f))

  ring_length : length (vertices (coords_in (2 * n) f)) ≡ n
  ring_length = omega (arith, length_flat (vertices (coords_in (2 * n) f)), ap length ring_flat, length_coordsIn (2 * n) f)

pub corners : (l : List ℕ) → Each Coordinate l → Each Corner (vertices l)
corners [] h = tt
corners (a ∷ []) h = tt
corners (a ∷ b ∷ l) h = (record { x = h.0; y = h.1.0 }, corners l h.1.1)

-- ---- the rings

pub rings_counts : (ns f : List ℕ) → map length (rings_in ns f) ≡ ns
unfolding rings_in
rings_counts [] f = refl
rings_counts (n ∷ ns) f = ap₂ (λ (a : ℕ) (b : List ℕ). a ∷ b) (ring_length n f) (rings_counts ns (drop (vertex_bytes * n) f))

pub rings_body : (ns f : List ℕ) → Each Byte f → vertex_bytes * total ns ≤ length f → body (rings_in ns f) ≡ take (vertex_bytes * total ns) f
unfolding rings_in total body
rings_body [] f h s = refl
rings_body (n ∷ ns) f h s =
    let e : vertex_bytes * (n + total ns) ≡ vertex_bytes * n + vertex_bytes * total ns = omega arith in
    let d : coordinate_bytes * (2 * n) ≡ vertex_bytes * n = omega arith in
    let a : coord_bytes (flat (vertices (coords_in (2 * n) f))) ≡ take (vertex_bytes * n) f =
    ap coord_bytes (ring_flat n f) ∙ coords_are (2 * n) f h (omega arith) ∙ ap (λ (j : ℕ). take j f) d in
    ap₂ (λ (x y : List ℕ). x ++ y) a (rings_body ns (drop (vertex_bytes * n) f) (each_drop Byte (vertex_bytes * n) f h) (omega (arith, length-drop (vertex_bytes * n) f)))
    ∙ sym (ap (λ (j : ℕ). take j f) e ∙ take-add (vertex_bytes * n) (vertex_bytes * total ns) f)

pub rings_kept : (ns f : List ℕ) (at : ℕ) → Each (λ (n : ℕ). (vertices_least ≤ n) × (n ≤ vertices_most)) ns → least_check ns at f passes → map least_reading (rings_in ns f) ≡ rings_in ns f
unfolding rings_in least_check
rings_kept [] f at z c = refl
rings_kept (n ∷ ns) f at z c =
    let r = vertices (coords_in (2 * n) f) in
    let p = row_parts (fault (eqb (best_of r) 0) at) (least_check ns (at + vertex_bytes * n) (drop (vertex_bytes * n) f)) c in
    ap₂ (λ (a : List Vertex) (b : List (List Vertex)). a ∷ b) (own r (omega (arith, ring_length n f, z.0.0)) (eqb-true (best_of r) 0 (held (eqb (best_of r) 0) at p.0))) (rings_kept ns (drop (vertex_bytes * n) f) (at + vertex_bytes * n) z.1 p.1)

-- ---- the entries

pub length_fieldsIn : (p k : ℕ) (f : List ℕ) → length (fields_in p k f) ≡ k
unfolding fields_in
length_fieldsIn p zero f = refl
length_fieldsIn p (suc k) f = ap suc (length_fieldsIn p k (drop entry_bytes f))

pub parts_hold : (k : ℕ) (f : List ℕ) → Each Byte f → entry_bytes * k ≤ length f → Each PartNumber (parts_in k f)
unfolding fields_in
parts_hold zero f h s = tt
parts_hold (suc k) f h s =
    let g = drop (2 * field_bytes) f in
    let z : length (take field_bytes g) ≡ field_bytes = length-take-le field_bytes g (omega (arith, length-drop (2 * field_bytes) f)) in (
      subst (λ (j : ℕ). number_of (take field_bytes g) < 256 ^ j) z (number_lt (take field_bytes g) (each_take Byte field_bytes g (each_drop Byte (2 * field_bytes) f h))),
      parts_hold k (drop entry_bytes f) (each_drop Byte entry_bytes f h) (omega (arith, length-drop entry_bytes f)),
    )

pub entries_are : (k at before : ℕ) (f : List ℕ) → Each Byte f → entry_bytes * k ≤ length f → entries_check k at before f passes
    → (take (entry_bytes * k) f ≡ entries before (counts_in k f) (parts_in k f)) × Each (λ (n : ℕ). (vertices_least ≤ n) × (n ≤ vertices_most)) (counts_in k f)
unfolding entries_check fields_in entries
entries_are zero at before f h s c = (refl, tt)
entries_are (suc k) at before f h s t =
    let o = number_of (take field_bytes f) in
    let n = number_of (take field_bytes (drop field_bytes f)) in
    let v = entries_check k (at + entry_bytes) (before + vertex_bytes * n) (drop entry_bytes f) in
    let p = row_parts (fault (eqb o before) at) (first (fault (within vertices_least vertices_most n) (at + field_bytes)) v) t in
    let q = row_parts (fault (within vertices_least vertices_most n) (at + field_bytes)) v p.1 in
    let ih = entries_are k (at + entry_bytes) (before + vertex_bytes * n) (drop entry_bytes f) (each_drop Byte entry_bytes f h) (omega (arith, length-drop entry_bytes f)) q.1 in
    let r = number_of (take field_bytes (drop (2 * field_bytes) f)) in
    let e : entry_bytes * suc k ≡ 4 + (4 + (4 + entry_bytes * k)) = omega arith in
    let g : drop field_bytes (drop field_bytes f) ≡ drop (2 * field_bytes) f = drop-drop field_bytes field_bytes f in
    let a : take field_bytes f ≡ bytes_of field_bytes before = sym (bytes_take field_bytes f h (omega arith)) ∙ ap (bytes_of field_bytes) (eqb-true o before (held (eqb o before) at p.0)) in
    let b : take field_bytes (drop field_bytes f) ≡ bytes_of field_bytes n = sym (bytes_take field_bytes (drop field_bytes f) (each_drop Byte field_bytes f h) (omega (arith, length-drop field_bytes f))) in
    let c : take field_bytes (drop (2 * field_bytes) f) ≡ bytes_of field_bytes r = sym (bytes_take field_bytes (drop (2 * field_bytes) f) (each_drop Byte (2 * field_bytes) f h) (omega (arith, length-drop (2 * field_bytes) f))) in
    let d : take (entry_bytes * k) (drop field_bytes (drop (2 * field_bytes) f)) ≡ entries (before + vertex_bytes * n) (counts_in k (drop entry_bytes f)) (parts_in k (drop entry_bytes f)) = ap (take (entry_bytes * k)) (drop-drop field_bytes (2 * field_bytes) f) ∙ ih.0 in
    let y : take (4 + entry_bytes * k) (drop (2 * field_bytes) f) ≡ bytes_of field_bytes r ++ entries (before + vertex_bytes * n) (counts_in k (drop entry_bytes f)) (parts_in k (drop entry_bytes f)) = take-add field_bytes (entry_bytes * k) (drop (2 * field_bytes) f) ∙ ap₂ (λ (u v : List ℕ). u ++ v) c d in (
      ap (λ (j : ℕ). take j f) e
          ∙ take-add field_bytes (4 + (4 + entry_bytes * k)) f
          ∙ ap₂ (λ (u v : List ℕ). u ++ v) a (take-add field_bytes (4 + entry_bytes * k) (drop field_bytes f) ∙ ap₂ (λ (u v : List ℕ). u ++ v) b (ap (take (4 + entry_bytes * k)) g ∙ y)),
      (is_within vertices_least vertices_most n (held (within vertices_least vertices_most n) (at + field_bytes) q.0), ih.1),
    )
