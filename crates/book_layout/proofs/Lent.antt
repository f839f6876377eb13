-- Lists of f64s with counts and parts: those that the writer takes are rings that a book holds, and those that the reader hands out are taken by the writer. Assumes nothing.
use Prim.Native.Nat.{ℕ, zero, suc, ◌+◌, ◌*◌, ◌/◌, ◌≤◌}
use native.Mathlib.Omega.{arith}
use mathlib.Core.Path.{◌≡◌, refl, ap, ap₂, subst, ◌∙◌}
use mathlib.Core.Bool.{true, not}
use mathlib.Core.List.{List, [], ◌∷◌, ◌++◌, map, map-append}
use lib.ListN.{length, take, drop, length-drop, length-map}
use lib.Seq.{drop-drop, length-take-le, take_at, drop_at}
use lib.Dec.{T, leb, eqb}
use lib.Ieee.{Float, binary64, fits, is_nan, of_bits}
use borrow.Author.Tests.{le-leb, leb-true, eq-eqb, eqb-true}
use Rattle.refusals.specs.Screens.{short_room}
use Rattle.refusals.specs.Rows.{of_rings}
use Rattle.refusals.specs.Bounds.{coordinate, every, coordinates}
use Rattle.refusals.proofs.Coordinate.{coordinate_number}
use Rattle.reading.specs.Reading.{Vertex, vertices}
use Rattle.reading.specs.Lent.{kept, ring_of}
use Rattle.reading.proofs.KeptBits.{kept_lt, of_kept, kept_again}
use Rattle.reading.proofs.Places.{length_ringOf}
use Rattle.number_bytes.specs.Bytes.{number_of, Each, Byte, Formed}
use Rattle.number_bytes.proofs.Each.{each_take, each_drop}
use Rattle.refusals.specs.Rings.{vertices_least, vertices_most, within, total, sized_all}
use Rattle.book_layout.specs.Layout.{field_bytes, coordinate_bytes, vertex_bytes, coordinate_bits, Coordinate, Outline, PartNumber, Accepted, coords_in, rings_in, ring_count, entry_offset, coords_of, counts_of, parts_of, rings_of}
use Rattle.book_layout.specs.Faults.{◌passes, book_check}
use Rattle.book_layout.specs.Writer.{rings_from, book_size, write_refusal, Held}
use Rattle.book_layout.specs.Reader.{numbers_of}
use Rattle.laws.proofs.Both.{both}
use Rattle.refusals.proofs.Counts.{within_true, is_within}
use Rattle.refusals.proofs.Sized.{row_parts, holds}
use Rattle.refusals.proofs.RingRow.{rings_taken, taken_rings}
use Rattle.book_layout.proofs.Found.{corners, coords_hold, length_coordsIn, length_fieldsIn}
use Rattle.book_layout.proofs.Exact.{checked, listing}

-- ---- the writer's tests

module _ (xs : List Float) (ns ps : List ℕ) (size : ℕ) where
  pub takes : write_refusal xs ns ps size passes → Held xs ns ps × (book_size ns ≤ size)
  unfolding write_refusal
  takes h =
      let p = row_parts (of_rings xs ns ps) (short_room (book_size ns) size) h in
      let t = rings_taken xs ns ps p.0 in (
        record { one = t.0; few = t.1; sized = t.2; whole = t.3; bounded = t.4; many = t.5 },
        leb-true (book_size ns) size (holds (leb (book_size ns) size) 4 0 refl p.1),
      )

  pub taken : Held xs ns ps → book_size ns ≤ size → write_refusal xs ns ps size passes
  unfolding write_refusal
  taken h l = rw (taken_rings xs ns ps h.one h.few h.sized h.whole h.bounded h.many, le-leb (book_size ns) size l)

-- ---- coordinates

zero_coordinate : coordinate (of_bits binary64 0) ≡ true
unfolding coordinate of_bits
zero_coordinate = refl

-- what is kept of a coordinate are such bits
coordinate_kept : (x : Float) → T (fits binary64 x) → coordinate x ≡ true → Coordinate (kept x)
unfolding coordinate_bits
coordinate_kept x f h =
    let c : coordinate (of_bits binary64 (kept x)) ≡ true = of_kept (λ (y : Float). coordinate y ≡ true) x f zero_coordinate h in
    record { pattern = kept_lt x f; bounded = rw (c, eq-eqb (kept (of_bits binary64 (kept x))) (kept x) (kept_again x f)) }

-- they stand for one, and as they are kept
pub stored : (b : ℕ) → coordinate_bits b ≡ true → (coordinate (of_bits binary64 b) ≡ true) × (kept (of_bits binary64 b) ≡ b)
unfolding coordinate_bits
stored b h =
    let p = both (coordinate (of_bits binary64 b)) (eqb (kept (of_bits binary64 b)) b) h in
    (p.0, eqb-true (kept (of_bits binary64 b)) b p.1)

pub bits_number : (b : ℕ) → Coordinate b → T (not (is_nan (of_bits binary64 b)))
bits_number b c = coordinate_number (of_bits binary64 b) (stored b c.bounded).0

coordinates_take : (n : ℕ) (xs : List Float) → coordinates xs ≡ true → coordinates (take n xs) ≡ true
unfolding every
coordinates_take zero xs t = refl
coordinates_take (suc n) [] t = refl
coordinates_take (suc n) (x ∷ xs) t =
    let p = both (coordinate x) (coordinates xs) t in
    rw p.0 (coordinates_take n xs p.1)

coordinates_drop : (n : ℕ) (xs : List Float) → coordinates xs ≡ true → coordinates (drop n xs) ≡ true
unfolding every
coordinates_drop zero xs t = t
coordinates_drop (suc n) [] t = refl
coordinates_drop (suc n) (x ∷ xs) t = coordinates_drop n xs (both (coordinate x) (coordinates xs) t).1

all_kept : (xs : List Float) → Formed xs → coordinates xs ≡ true → Each Coordinate (map kept xs)
unfolding every
all_kept [] f t = tt
all_kept (x ∷ xs) f t =
    let p = both (coordinate x) (coordinates xs) t in
    (coordinate_kept x f.0 p.0, all_kept xs f.1 p.1)

-- ---- what the writer takes is what a book holds

length_rings : (ns : List ℕ) (xs : List Float) → length (rings_from ns xs) ≡ length ns
unfolding rings_from
length_rings [] xs = refl
length_rings (n ∷ ns) xs = ap suc (length_rings ns (drop (2 * n) xs))

pub ring_count_lem : (n : ℕ) (xs : List Float) → 2 * n ≤ length xs → length (ring_of (take (2 * n) xs)) ≡ n
ring_count_lem n xs h =
    let l : length (take (2 * n) xs) ≡ 2 * n = length-take-le (2 * n) xs h in
    omega (arith, length_ringOf (take (2 * n) xs) (omega arith))

-- one ring, as it is kept
ring_outline : (n : ℕ) (xs : List Float) → Formed xs → within vertices_least vertices_most n ≡ true → coordinates xs ≡ true → 2 * n ≤ length xs → Outline (ring_of (take (2 * n) xs))
ring_outline n xs f s t h =
    let w = is_within vertices_least vertices_most n s in
    let c : length (ring_of (take (2 * n) xs)) ≡ n = ring_count_lem n xs h in
    record {
      least = omega (arith, w.0);
      most = omega (arith, w.1);
      corners = corners (map kept (take (2 * n) xs)) (all_kept (take (2 * n) xs) (each_take (λ (x : Float). T (fits binary64 x)) (2 * n) xs f) (coordinates_take (2 * n) xs t));
    }

rings_outline : (ns : List ℕ) (xs : List Float) → Formed xs → sized_all ns ≡ true → coordinates xs ≡ true → 2 * total ns ≤ length xs → Each Outline (rings_from ns xs)
unfolding rings_from sized_all total
rings_outline [] xs f s t h = tt
rings_outline (n ∷ ns) xs f s t h =
    let p = both (within vertices_least vertices_most n) (sized_all ns) s in (
      ring_outline n xs f p.0 t (omega arith),
      rings_outline ns (drop (2 * n) xs) (each_drop (λ (x : Float). T (fits binary64 x)) (2 * n) xs f) p.1 (coordinates_drop (2 * n) xs t) (omega (arith, length-drop (2 * n) xs)),
    )

pub held_accepted : (xs : List Float) (ns ps : List ℕ) → Formed xs → Each PartNumber ps → Held xs ns ps → Accepted (rings_from ns xs) ps
held_accepted xs ns ps f w h =
    let l = length_rings ns xs in
    record {
      least = omega (arith, h.one);
      most = omega (arith, h.few);
      rings = rings_outline ns xs f h.sized h.bounded (omega (arith, h.whole));
      many = omega (arith, h.many);
      parts = w;
    }

-- ---- what the reader hands out is the rings of the file

back : (l : List ℕ) → Each Coordinate l → map kept (map (of_bits binary64) l) ≡ l
back [] h = refl
back (b ∷ l) h = ap₂ (λ (a : ℕ) (t : List ℕ). a ∷ t) (stored b h.0.bounded).1 (back l h.1)

pub ring_loaded : (l : List ℕ) → Each Coordinate l → ring_of (map (of_bits binary64) l) ≡ vertices l
ring_loaded l h = ap vertices (back l h)

coordsIn_add : (a b : ℕ) (f : List ℕ) → coords_in (a + b) f ≡ coords_in a f ++ coords_in b (drop (coordinate_bytes * a) f)
unfolding coords_in
coordsIn_add zero b f = let e : 0 + b ≡ b = omega arith in ap (λ (n : ℕ). coords_in n f) e
coordsIn_add (suc a) b f =
    let e : suc a + b ≡ suc (a + b) = omega arith in
    let d : coordinate_bytes + coordinate_bytes * a ≡ coordinate_bytes * suc a = omega arith in
    ap (λ (n : ℕ). coords_in n f) e
    ∙ ap (λ (l : List ℕ). number_of (take coordinate_bytes f) ∷ l) (coordsIn_add a b (drop coordinate_bytes f))
    ∙ ap (λ (g : List ℕ). number_of (take coordinate_bytes f) ∷ (coords_in a (drop coordinate_bytes f) ++ coords_in b g)) (drop-drop (coordinate_bytes * a) coordinate_bytes f ∙ ap (λ (j : ℕ). drop j f) d)

each_parts : {A : Type 0} (P : A → Type 0) (l m : List A) → Each P (l ++ m) → Each P l × Each P m
each_parts P [] m h = (tt, h)
each_parts P (a ∷ l) m h = let r = each_parts P l m h.1 in ((h.0, r.0), r.1)

rings_read : (ns f : List ℕ) → Each Coordinate (coords_in (2 * total ns) f) → rings_from ns (map (of_bits binary64) (coords_in (2 * total ns) f)) ≡ rings_in ns f
unfolding rings_from rings_in total
rings_read [] f h = refl
rings_read (n ∷ ns) f h =
    let t = 2 * total ns in
    let e : 2 * (n + total ns) ≡ 2 * n + t = omega arith in
    let d : coordinate_bytes * (2 * n) ≡ vertex_bytes * n = omega arith in
    let a = coords_in (2 * n) f in
    let b = coords_in t (drop (vertex_bytes * n) f) in
    let s : coords_in (2 * (n + total ns)) f ≡ a ++ b =
    ap (λ (m : ℕ). coords_in m f) e ∙ coordsIn_add (2 * n) t f ∙ ap (λ (j : ℕ). a ++ coords_in t (drop j f)) d in
    let p = each_parts Coordinate a b (subst (Each Coordinate) s h) in
    let q : map (of_bits binary64) (coords_in (2 * (n + total ns)) f) ≡ map (of_bits binary64) a ++ map (of_bits binary64) b = ap (map (of_bits binary64)) s ∙ map-append (of_bits binary64) a b in
    let z : length (map (of_bits binary64) a) ≡ 2 * n = length-map a (of_bits binary64) ∙ length_coordsIn (2 * n) f in
    rw q
    (ap₂ (λ (x : List Vertex) (y : List (List Vertex)). x ∷ y)
    (ap ring_of (take_at (map (of_bits binary64) a) (map (of_bits binary64) b) (2 * n) z) ∙ ring_loaded a p.0)
    (ap (rings_from ns) (drop_at (map (of_bits binary64) a) (map (of_bits binary64) b) (2 * n) z) ∙ rings_read ns (drop (vertex_bytes * n) f) p.1))

-- ---- and the writer takes it

sized_all_lem : (ns : List ℕ) → Each (λ (n : ℕ). (vertices_least ≤ n) × (n ≤ vertices_most)) ns → sized_all ns ≡ true
unfolding sized_all
sized_all_lem [] h = refl
sized_all_lem (n ∷ ns) h = rw (within_true vertices_least vertices_most n h.0.0 h.0.1) (sized_all_lem ns h.1)

coordinates_read : (l : List ℕ) → Each Coordinate l → coordinates (map (of_bits binary64) l) ≡ true
unfolding every
coordinates_read [] h = refl
coordinates_read (b ∷ l) h = rw (stored b h.0.bounded).0 (coordinates_read l h.1)

pub length_counts : (f : List ℕ) → length (counts_of f) ≡ ring_count f
unfolding counts_of
length_counts f = length_fieldsIn field_bytes (ring_count f) (drop (entry_offset f) f)

pub length_parts : (f : List ℕ) → length (parts_of f) ≡ ring_count f
unfolding parts_of
length_parts f = length_fieldsIn (2 * field_bytes) (ring_count f) (drop (entry_offset f) f)

pub length_numbers : (f : List ℕ) → length (numbers_of f) ≡ entry_offset f / coordinate_bytes
unfolding coords_of
length_numbers f = length-map (coords_in (entry_offset f / coordinate_bytes) f) (of_bits binary64) ∙ length_coordsIn (entry_offset f / coordinate_bytes) f

module _ (f : List ℕ) (bytes : Each Byte f) (ok : book_check f passes) where
  pub all_hold : Each Coordinate (coords_of f)
  unfolding coords_of
  all_hold = let all = checked f ok in coords_hold (entry_offset f / coordinate_bytes) 0 f bytes (omega (arith, all.offset)) all.coords

  pub handed : rings_from (counts_of f) (numbers_of f) ≡ rings_of f
  unfolding coords_of rings_of
  handed =
      let z : entry_offset f / coordinate_bytes ≡ 2 * total (counts_of f) = omega (arith, (checked f ok).ends) in
      ap (λ (m : ℕ). rings_from (counts_of f) (map (of_bits binary64) (coords_in m f))) z
      ∙ rings_read (counts_of f) f (subst (λ (m : ℕ). Each Coordinate (coords_in m f)) z all_hold)

  pub read_held : Held (numbers_of f) (counts_of f) (parts_of f)
  read_held =
      let all = checked f ok in
      let k = length_counts f in
      record {
        one = omega (arith, all.count);
        few = omega (arith, all.count);
        sized = sized_all_lem (counts_of f) (listing f bytes ok).1;
        whole = omega (arith, length_numbers f, all.ends);
        bounded = coordinates_read (coords_of f) all_hold;
        many = omega (arith, k, length_parts f);
      }

  pub read_size : book_size (counts_of f) ≡ length f
  read_size = let all = checked f ok in omega (arith, length_counts f, all.ends, all.offset)
