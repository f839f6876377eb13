-- The checks of the reader pass what the writer writes. Assumes nothing.
use Prim.Native.Nat.{ℕ, zero, suc, ◌+◌, ◌*◌, ◌/◌, ◌^◌, ◌≤◌, ◌<◌}
use native.Mathlib.Omega.{arith}
use mathlib.Core.Path.{◌≡◌, refl, sym, ap, ap₂, ◌∙◌}
use mathlib.Core.Bool.{true}
use mathlib.Core.List.{List, [], ◌∷◌, ◌++◌, map, append_assoc}
use lib.ListN.{length, take, drop, length-append, length-map}
use lib.Seq.{drop_at, drop-drop}
use lib.Dec.{eqb}
use borrow.Author.Tests.{eq-eqb}
use Rattle.refusals.specs.Refusals.{passed, first}
use Rattle.refusals.proofs.First.{first_assoc}
use Rattle.reading.specs.Reading.{Vertex, flat, least_reading}
use Rattle.number_bytes.specs.Bytes.{bytes_of, number_of, Each}
use Rattle.number_bytes.proofs.Bytes.{take_number, drop_number}
use Rattle.refusals.specs.Rings.{vertices_least, vertices_most, rings_most, within, total}
use Rattle.book_layout.specs.Layout.{field_bytes, coordinate_bytes, vertex_bytes, entry_bytes, tail_bytes, book_least, book_most, coord_bytes, body, entries, layout, coordinate_bits, Coordinate, Corner, Outline, Accepted, ring_count, entry_offset, counts_of}
use Rattle.book_layout.specs.Faults.{fault, entries_check, coords_check, least_check, book_check, ◌passes}
use Rattle.book_layout.proofs.Bytes.{length_ring, entry_offset_lem, entry_count, entry_rest, ring_back}
use Rattle.refusals.proofs.Counts.{within_true}
use Rattle.book_layout.proofs.Passing.{pass}
use Rattle.book_layout.proofs.Laid.{tail, layout_is, many_counts, length_layout, body_most, body_least, count_back, offset_back, counts_of_lem}
use Rattle.reading.proofs.Leasts.{length_flat}
use Rattle.reading.proofs.Own.{is_own}

-- ---- the entries

entries_pass : (ns ps q : List ℕ) (at before : ℕ) → length ps ≡ length ns → Each (λ (n : ℕ). (vertices_least ≤ n) × (n ≤ vertices_most)) ns → before + vertex_bytes * total ns < 256 ^ field_bytes
    → entries_check (length ns) at before (entries before ns ps ++ q) passes
unfolding entries_check total
entries_pass [] ps q at before m h s = refl
entries_pass (n ∷ ns) [] q at before m h s = absurd (omega (arith, m))
entries_pass (n ∷ ns) (p ∷ ps) q at before m h s =
    let f = entries before (n ∷ ns) (p ∷ ps) ++ q in
    let a : number_of (take field_bytes f) ≡ before = entry_offset_lem before n p ns ps q (omega arith) in
    let b : number_of (take field_bytes (drop field_bytes f)) ≡ n = entry_count before n p ns ps q (omega (arith, h.0.1)) in
    let d : drop entry_bytes f ≡ entries (before + vertex_bytes * n) ns ps ++ q = entry_rest before n p ns ps q in
    let t : eqb before before ≡ true = eq-eqb before before refl in
    let u : within vertices_least vertices_most n ≡ true = within_true vertices_least vertices_most n h.0.0 h.0.1 in
    rw (a, b, d, t, u) (entries_pass ns ps q (at + entry_bytes) (before + vertex_bytes * n) (omega (arith, m)) h.1 (omega arith))

-- ---- the coordinates

coords_pass : (l q : List ℕ) (at : ℕ) → Each Coordinate l → coords_check (length l) at (coord_bytes l ++ q) passes
unfolding coords_check coord_bytes
coords_pass [] q at h = refl
coords_pass (c ∷ l) q at h =
    rw (append_assoc (bytes_of coordinate_bytes c) (coord_bytes l) q, take_number coordinate_bytes c (coord_bytes l ++ q) h.0.pattern, drop_number coordinate_bytes c (coord_bytes l ++ q), h.0.bounded)
    (coords_pass l q (at + coordinate_bytes) h.1)

pub coords_split : (a b at : ℕ) (f : List ℕ) → coords_check (a + b) at f ≡ first (coords_check a at f) (coords_check b (at + coordinate_bytes * a) (drop (coordinate_bytes * a) f))
unfolding coords_check
coords_split zero b at f =
    let e : 0 + b ≡ b = omega arith in
    let d : at ≡ at + coordinate_bytes * 0 = omega arith in
    ap₂ (λ (m n : ℕ). coords_check m n f) e d
coords_split (suc a) b at f =
    let e : suc a + b ≡ suc (a + b) = omega arith in
    let z : coordinate_bytes + coordinate_bytes * a ≡ coordinate_bytes * suc a = omega arith in
    let d : drop (coordinate_bytes * a) (drop coordinate_bytes f) ≡ drop (coordinate_bytes * suc a) f = drop-drop (coordinate_bytes * a) coordinate_bytes f ∙ ap (λ (m : ℕ). drop m f) z in
    let d' : at + coordinate_bytes + coordinate_bytes * a ≡ at + coordinate_bytes * suc a = omega arith in
    ap (λ (m : ℕ). coords_check m at f) e
    ∙ ap (first (fault (coordinate_bits (number_of (take coordinate_bytes f))) at)) (coords_split a b (at + coordinate_bytes) (drop coordinate_bytes f) ∙ ap₂ (λ (m : ℕ) (g : List ℕ). first (coords_check a (at + coordinate_bytes) (drop coordinate_bytes f)) (coords_check b m g)) d' d)
    ∙ sym (first_assoc (fault (coordinate_bits (number_of (take coordinate_bytes f))) at) (coords_check a (at + coordinate_bytes) (drop coordinate_bytes f)) (coords_check b (at + coordinate_bytes * suc a) (drop (coordinate_bytes * suc a) f)))

flat_each : (r : List Vertex) → Each Corner r → Each Coordinate (flat r)
flat_each [] h = tt
flat_each (v ∷ r) h = (h.0.x, (h.0.y, flat_each r h.1))

body_pass : (rs : List (List Vertex)) (q : List ℕ) (at : ℕ) → Each Outline rs → coords_check (2 * total (map length rs)) at (body rs ++ q) passes
unfolding total body
body_pass [] q at h = unfold coords_check in refl
body_pass (r ∷ rs) q at h =
    let k = 2 * total (map length rs) in
    let f = coord_bytes (flat r) ++ body rs ++ q in
    let e : 2 * (length r + total (map length rs)) ≡ length (flat r) + k = omega (arith, length_flat r) in
    let g : f ≡ coord_bytes (flat r) ++ (body rs ++ q) = append_assoc (coord_bytes (flat r)) (body rs) q in
    let n : length (coord_bytes (flat r)) ≡ coordinate_bytes * length (flat r) = omega (arith, length_ring r, length_flat r) in
    let d : drop (coordinate_bytes * length (flat r)) f ≡ body rs ++ q = ap (drop (coordinate_bytes * length (flat r))) g ∙ drop_at (coord_bytes (flat r)) (body rs ++ q) (coordinate_bytes * length (flat r)) n in
    let one : coords_check (length (flat r)) at f passes = rw g (coords_pass (flat r) (body rs ++ q) at (flat_each r h.0.corners)) in
    let all : coords_check k (at + coordinate_bytes * length (flat r)) (drop (coordinate_bytes * length (flat r)) f) passes = rw d (body_pass rs q (at + coordinate_bytes * length (flat r)) h.1) in
    ap passed (ap (λ (m : ℕ). coords_check m at f) e ∙ coords_split (length (flat r)) k at f)
    ∙ pass (coords_check (length (flat r)) at f) (coords_check k (at + coordinate_bytes * length (flat r)) (drop (coordinate_bytes * length (flat r)) f)) one all

-- ---- the least readings

least_pass : (rs : List (List Vertex)) (q : List ℕ) (at : ℕ) → Each Outline rs → Each (λ (r : List Vertex). least_reading r ≡ r) rs
    → least_check (map length rs) at (body rs ++ q) passes
unfolding least_check body
least_pass [] q at h k = refl
least_pass (r ∷ rs) q at h k =
    rw (append_assoc (coord_bytes (flat r)) (body rs) q, ring_back r (body rs ++ q) h.0.corners, drop_at (coord_bytes (flat r)) (body rs ++ q) (vertex_bytes * length r) (length_ring r), is_own r (omega (arith, h.0.least)) k.0)
    (least_pass rs q (at + vertex_bytes * length r) h.1 k.1)

-- ---- the whole

pub body_total : (rs : List (List Vertex)) → length (body rs) ≡ vertex_bytes * total (map length rs)
unfolding body total
body_total [] = refl
body_total (r ∷ rs) = omega (arith, length-append (coord_bytes (flat r)) (body rs), length_ring r, body_total rs)

sizes : (rs : List (List Vertex)) → Each Outline rs → Each (λ (n : ℕ). (vertices_least ≤ n) × (n ≤ vertices_most)) (map length rs)
sizes [] h = tt
sizes (r ∷ rs) h = ((h.0.least, h.0.most), sizes rs h.1)

-- what the writer can write is accepted
pub layout_pass : (rs : List (List Vertex)) (ps : List ℕ) → Accepted rs ps → Each (λ (r : List Vertex). least_reading r ≡ r) rs → book_check (layout rs ps) passes
unfolding book_check
layout_pass rs ps ok kept =
    let b = length (body rs) in
    let most : b ≤ vertices_most * vertex_bytes * length rs = body_most rs ok.rings in
    let least : vertices_least * vertex_bytes * length rs ≤ b = body_least rs ok.rings in
    let k : ring_count (layout rs ps) ≡ length rs = count_back rs ps ok.most in
    let e : entry_offset (layout rs ps) ≡ b = offset_back rs ps (omega (arith, ok.most)) in
    let n : length (layout rs ps) ≡ b + entry_bytes * length rs + tail_bytes = length_layout rs ps ok.many in
    let s : b ≡ vertex_bytes * total (map length rs) = body_total rs in
    let c : counts_of (layout rs ps) ≡ map length rs = counts_of_lem rs ps ok in
    let f = layout rs ps in
    let t1 : within book_least book_most (length f) ≡ true = within_true book_least book_most (length f) (omega (arith, ok.least)) (omega (arith, ok.most)) in
    let t2 : within 1 rings_most (ring_count f) ≡ true = within_true 1 rings_most (ring_count f) (omega (arith, ok.least)) (omega (arith, ok.most)) in
    let t3 : eqb (entry_offset f + entry_bytes * ring_count f + tail_bytes) (length f) ≡ true = eq-eqb (entry_offset f + entry_bytes * ring_count f + tail_bytes) (length f) (omega arith) in
    let rest = entries 0 (map length rs) ps ++ tail rs in
    let d : drop (entry_offset f) f ≡ rest = ap (λ (m : ℕ). drop m f) e ∙ ap (drop b) (layout_is rs ps) ∙ drop_at (body rs) rest b refl in
    let t4 : entries_check (ring_count f) (entry_offset f) 0 (drop (entry_offset f) f) passes =
    rw (k, d) (ap (λ (m : ℕ). passed (entries_check m (entry_offset f) 0 rest)) (sym (length-map rs (length {A = Vertex}))) ∙ entries_pass (map length rs) ps (tail rs) (entry_offset f) 0 (many_counts rs ps ok.many) (sizes rs ok.rings) (omega (arith, ok.most))) in
    let t5 : eqb (vertex_bytes * total (counts_of f)) (entry_offset f) ≡ true = eq-eqb (vertex_bytes * total (counts_of f)) (entry_offset f) (ap (λ (l : List ℕ). vertex_bytes * total l) c ∙ sym s ∙ sym e) in
    let m : entry_offset f / coordinate_bytes ≡ 2 * total (map length rs) = omega arith in
    let t6 : coords_check (entry_offset f / coordinate_bytes) 0 f passes = ap₂ (λ (j : ℕ) (g : List ℕ). passed (coords_check j 0 g)) m (layout_is rs ps) ∙ body_pass rs rest 0 ok.rings in
    let t7 : least_check (counts_of f) 0 f passes = ap₂ (λ (j g : List ℕ). passed (least_check j 0 g)) c (layout_is rs ps) ∙ least_pass rs rest 0 ok.rings kept in
    rw (t1, t2, t3) (pass (entries_check (ring_count f) (entry_offset f) 0 (drop (entry_offset f) f)) _ t4 (rw t5 (pass (coords_check (entry_offset f / coordinate_bytes) 0 f) (least_check (counts_of f) 0 f) t6 t7)))
