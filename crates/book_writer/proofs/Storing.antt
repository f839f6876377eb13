-- Runs of stores: the bytes of coordinates, of entries and of rings. In each loop, what is yet to be stored from here on gives the room that
-- was asked for. Assumes nothing.
use Prim.Native.Nat.{ℕ, suc, ◌+◌, ◌*◌, ◌≤◌, ◌<◌}
use native.Mathlib.Omega.{arith}
use native.Mathlib.Numerals.{add-one}
use mathlib.Core.Path.{◌≡◌, sym, ap, ap₂, ◌∙◌}
use mathlib.Core.List.{List, ◌++◌, map}
use lib.ListN.{length, get_or, take, drop, length-drop, drop_of_length-le}
use lib.Seq.{sets, drop-cons, drop-drop}
use lib.Ieee.{Float}
use Rattle.reading.specs.Reading.{flat, least_reading}
use Rattle.reading.specs.Lent.{ring_of}
use Rattle.reading.proofs.Leasts.{length_least}
use Rattle.ring.proofs.Emit.{sets_append}
use Rattle.number_bytes.specs.Bytes.{bytes_of}
use Rattle.number_bytes.proofs.Bytes.{length_bytesOf}
use Rattle.book_layout.specs.Layout.{field_bytes, coordinate_bytes, vertex_bytes, entry_bytes, coord_bytes, body, entries}
use Rattle.book_layout.specs.Writer.{rings_from}
use Rattle.book_layout.proofs.Bytes.{length_ring}
use Rattle.book_layout.proofs.Lent.{ring_count_lem}

-- ---- `put_ring`

pub ring_start : (room l : List ℕ) (at : ℕ) → sets room at (coord_bytes l) ≡ sets room (at + coordinate_bytes * 0) (coord_bytes (drop 0 l))
ring_start room l at = ap (λ (a : ℕ). sets room a (coord_bytes l)) (omega arith)

pub ring_on : (room l : List ℕ) (at j : ℕ) → j < length l
    → sets room (at + coordinate_bytes * j) (coord_bytes (drop j l)) ≡ sets (sets room (at + coordinate_bytes * j) (bytes_of coordinate_bytes (get_or l j 0))) (at + coordinate_bytes * (j + 1)) (coord_bytes (drop (j + 1) l))
unfolding coord_bytes
ring_on room l at j h =
    let b = bytes_of coordinate_bytes (get_or l j 0) in
    let d : at + coordinate_bytes * j + length b ≡ at + coordinate_bytes * (j + 1) = omega (arith, length_bytesOf coordinate_bytes (get_or l j 0)) in
    let e : suc j ≡ j + 1 = omega arith in
    ap (λ (m : List ℕ). sets room (at + coordinate_bytes * j) (coord_bytes m)) (drop-cons l j 0 h)
    ∙ sets_append room (at + coordinate_bytes * j) b (coord_bytes (drop (suc j) l))
    ∙ ap₂ (λ (x y : ℕ). sets (sets room (at + coordinate_bytes * j) b) x (coord_bytes (drop y l))) d e

pub ring_end : (room l : List ℕ) (at j : ℕ) → length l ≤ j → sets room (at + coordinate_bytes * j) (coord_bytes (drop j l)) ≡ room
unfolding coord_bytes
ring_end room l at j h = ap (λ (m : List ℕ). sets room (at + coordinate_bytes * j) (coord_bytes m)) (drop_of_length-le l h)

-- ---- `put_entries`

module _ (room ns ps : List ℕ) (from before i : ℕ) (m : length ps ≡ length ns) where
  pub entries_on : i < length ns
      → sets room (from + entry_bytes * i) (entries before (drop i ns) (drop i ps))
      ≡ sets (sets (sets (sets room (from + entry_bytes * i) (bytes_of field_bytes before)) (from + entry_bytes * i + field_bytes) (bytes_of field_bytes (get_or ns i 0))) (from + entry_bytes * i + 2 * field_bytes) (bytes_of field_bytes (get_or ps i 0))) (from + entry_bytes * (i + 1)) (entries (before + vertex_bytes * get_or ns i 0) (drop (i + 1) ns) (drop (i + 1) ps))
  unfolding entries
  entries_on h =
      let a = from + entry_bytes * i in
      let n = get_or ns i 0 in
      let u = bytes_of field_bytes before in
      let w = bytes_of field_bytes n in
      let v = bytes_of field_bytes (get_or ps i 0) in
      let x = entries (before + vertex_bytes * n) (drop (suc i) ns) (drop (suc i) ps) in
      let e : a + length u ≡ a + field_bytes = omega (arith, length_bytesOf field_bytes before) in
      let e' : a + field_bytes + length w ≡ a + 2 * field_bytes = omega (arith, length_bytesOf field_bytes n) in
      let e'' : a + 2 * field_bytes + length v ≡ from + entry_bytes * (i + 1) = omega (arith, length_bytesOf field_bytes (get_or ps i 0)) in
      let r1 = sets room a u in
      let r2 = sets r1 (a + field_bytes) w in
      let r3 = sets r2 (a + 2 * field_bytes) v in
      ap₂ (λ (l k : List ℕ). sets room a (entries before l k)) (drop-cons ns i 0 h) (drop-cons ps i 0 (omega arith))
      ∙ sets_append room a u (w ++ (v ++ x))
      ∙ ap (λ (j : ℕ). sets r1 j (w ++ (v ++ x))) e
      ∙ sets_append r1 (a + field_bytes) w (v ++ x)
      ∙ ap (λ (j : ℕ). sets r2 j (v ++ x)) e'
      ∙ sets_append r2 (a + 2 * field_bytes) v x
      ∙ ap (λ (j : ℕ). sets r3 j x) e''
      ∙ ap (λ (j : ℕ). sets r3 (from + entry_bytes * (i + 1)) (entries (before + vertex_bytes * n) (drop j ns) (drop j ps))) (sym (add-one i))

  pub entries_end : length ns ≤ i → sets room (from + entry_bytes * i) (entries before (drop i ns) (drop i ps)) ≡ room
  unfolding entries
  entries_end h = ap (λ (l : List ℕ). sets room (from + entry_bytes * i) (entries before l (drop i ps))) (drop_of_length-le ns h)

pub entries_start : (room ns ps : List ℕ) (from : ℕ) → sets room from (entries 0 ns ps) ≡ sets room (from + entry_bytes * 0) (entries 0 (drop 0 ns) (drop 0 ps))
entries_start room ns ps from = let e : from ≡ from + entry_bytes * 0 = omega arith in ap (λ (a : ℕ). sets room a (entries 0 ns ps)) e

-- ---- `put_rings`

-- the bytes of the rings' least readings
abbrev pub stored : List ℕ → List Float → List ℕ
stored ns xs = body (map least_reading (rings_from ns xs))

module _ (room ns : List ℕ) (xs : List Float) (at i : ℕ) where
  pub rings_on : i < length ns → 0 < get_or ns i 0 → at + 2 * get_or ns i 0 ≤ length xs
      → sets room (coordinate_bytes * at) (stored (drop i ns) (drop at xs))
      ≡ sets (sets room (coordinate_bytes * at) (coord_bytes (flat (least_reading (ring_of (take (2 * get_or ns i 0) (drop at xs))))))) (coordinate_bytes * (at + 2 * get_or ns i 0)) (stored (drop (i + 1) ns) (drop (at + 2 * get_or ns i 0) xs))
  unfolding rings_from body
  rings_on h p k =
      let n = get_or ns i 0 in
      let r = ring_of (take (2 * n) (drop at xs)) in
      let u = coord_bytes (flat (least_reading r)) in
      let m : length r ≡ n = ring_count_lem n (drop at xs) (omega (arith, length-drop at xs)) in
      let l : length u ≡ vertex_bytes * n = omega (arith, length_ring (least_reading r), length_least r (omega arith)) in
      let e : coordinate_bytes * at + length u ≡ coordinate_bytes * (at + 2 * n) = omega arith in
      ap (λ (t : List ℕ). sets room (coordinate_bytes * at) (stored t (drop at xs))) (drop-cons ns i 0 h)
      ∙ sets_append room (coordinate_bytes * at) u (stored (drop (suc i) ns) (drop (2 * n) (drop at xs)))
      ∙ ap (λ (j : ℕ). sets (sets room (coordinate_bytes * at) u) j (stored (drop (suc i) ns) (drop (2 * n) (drop at xs)))) e
      ∙ ap₂ (λ (j : ℕ) (t : List Float). sets (sets room (coordinate_bytes * at) u) (coordinate_bytes * (at + 2 * n)) (stored (drop j ns) t)) (sym (add-one i)) (drop-drop (2 * n) at xs)

  pub rings_end : length ns ≤ i → sets room (coordinate_bytes * at) (stored (drop i ns) (drop at xs)) ≡ room
  unfolding rings_from body
  rings_end h = ap (λ (t : List ℕ). sets room (coordinate_bytes * at) (stored t (drop at xs))) (drop_of_length-le ns h)
