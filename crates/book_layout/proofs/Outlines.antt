-- Two books are the same bytes exactly if the lists of rings are equally long, each ring is, its coordinates compared as numbers, a reading of the one
-- at its place, and the parts are the same. Assumes nothing.
use Prim.Native.Nat.{ℕ, zero, suc, ◌*◌, ◌<◌}
use native.Mathlib.Omega.{arith}
use native.Mathlib.Nat.{not-suc-le-zero}
use mathlib.Core.Path.{◌≡◌, refl, sym, ap, ap₂, subst, ◌∙◌}
use mathlib.Core.Logic.{◌↔◌}
use mathlib.Core.List.{List, [], ◌∷◌, map}
use lib.ListN.{length, get_or, take, drop}
use lib.Dec.{T}
use lib.Ieee.{Float, binary64, fits, of_bits, to_bits}
use lib.Ieee.Bits.{of_bits-to_bits, of_bits-fits}
use Rattle.number_bytes.specs.Bytes.{Each, Formed}
use Rattle.number_bytes.proofs.Each.{each_take, each_drop}
use Rattle.reading.specs.Reading.{Reads, Vertex, flat, vertices, Alike, ReadsUpTo, least_reading}
use Rattle.reading.specs.Lent.{kept, ring_of}
use Rattle.reading.proofs.KeptBits.{kept_number, eq_kept, kept_eq}
use Rattle.reading.proofs.Leasts.{same_least, reads_of_least}
use Rattle.reading.proofs.Changed.{reads_map, map_reads}
use Rattle.book_layout.specs.Layout.{book_of, Coordinate, Corner, Outline, Accepted, SameOutlines}
use Rattle.book_layout.specs.Writer.{rings_from, lent_from, AsNumbers}
use Rattle.book_layout.proofs.Books.{same_book}
use Rattle.book_layout.proofs.Lent.{bits_number}

-- ---- coordinates: of those that a book stores, what is kept is the same exactly if the numbers are

-- a pattern as a book keeps its number, and a vertex
abbrev kept_of : ℕ → ℕ
kept_of b = kept (of_bits binary64 b)

abbrev kept_vertex : Vertex → Vertex
kept_vertex v = record { x = kept_of v.x; y = kept_of v.y }

kept_same : (a b : ℕ) → Coordinate (kept_of b) → kept_of a ≡ kept_of b → AsNumbers a b
kept_same a b c =
    eq_kept (of_bits binary64 a) (of_bits binary64 b) (of_bits-fits binary64 a) (of_bits-fits binary64 b)
    (kept_number (of_bits binary64 b) (of_bits-fits binary64 b) (bits_number (kept_of b) c))

same_kept : (a b : ℕ) → AsNumbers a b → kept_of a ≡ kept_of b
same_kept a b = kept_eq (of_bits binary64 a) (of_bits binary64 b) (of_bits-fits binary64 a) (of_bits-fits binary64 b)

-- ---- rings, as they are lent and as they are kept

alike_kept : (p q : List Vertex) → Alike AsNumbers (flat p) (flat q) → map kept_vertex p ≡ map kept_vertex q
alike_kept [] [] h = refl
alike_kept [] (v ∷ q) h = absurd h
alike_kept (u ∷ p) [] h = absurd h
alike_kept (u ∷ p) (v ∷ q) h =
    let a = same_kept u.x v.x h.0 in
    let b = same_kept u.y v.y h.1.0 in
    ap₂ (λ (w : Vertex) (l : List Vertex). w ∷ l) (ap₂ (λ (i j : ℕ). record { x = i; y = j }) a b) (alike_kept p q h.1.1)

no_cons : {X A : Type 0} (a : A) (l : List A) → ◌≡◌ {A = List A} [] (a ∷ l) → X
no_cons a l e = absurd (omega (arith, ap length e))

kept_alike : (p q : List Vertex) → Each Corner (map kept_vertex q) → map kept_vertex p ≡ map kept_vertex q → Alike AsNumbers (flat p) (flat q)
kept_alike [] [] c e = tt
kept_alike [] (v ∷ q) c e = no_cons (kept_vertex v) (map kept_vertex q) e
kept_alike (u ∷ p) [] c e = no_cons (kept_vertex u) (map kept_vertex p) (sym e)
kept_alike (u ∷ p) (v ∷ q) c e =
    let w : kept_vertex u ≡ kept_vertex v = cc in
    let a : kept_of u.x ≡ kept_of v.x = ap (λ (z : Vertex). z.x) w in
    let b : kept_of u.y ≡ kept_of v.y = ap (λ (z : Vertex). z.y) w in
    (kept_same u.x v.x c.0.x a, (kept_same u.y v.y c.0.y b, kept_alike p q c.1 (cc)))

module _ (r x : List Vertex) where
  -- a reading as numbers is a reading of what is kept
  to_kept : ReadsUpTo AsNumbers r x → Reads (map kept_vertex r) (map kept_vertex x)
  to_kept q = subst (Reads (map kept_vertex r)) (alike_kept q.read x q.alike) (reads_map kept_vertex r q.read q.reads)

  from_kept : Each Corner (map kept_vertex x) → Reads (map kept_vertex r) (map kept_vertex x) → ReadsUpTo AsNumbers r x
  from_kept c q =
      let z = map_reads kept_vertex r (map kept_vertex x) q in
      record { read = z.0; reads = z.1; alike = kept_alike z.0 x c (sym z.2) }

-- ---- ring by ring

abbrev all_kept : List (List Vertex) → List (List Vertex)
all_kept rs = map (map kept_vertex) rs

same_cons : (r x : List Vertex) (rs xs : List (List Vertex)) → ReadsUpTo AsNumbers r x → SameOutlines AsNumbers rs xs → SameOutlines AsNumbers (r ∷ rs) (x ∷ xs)
same_cons r x rs xs q s = record { long = ap suc s.long; each = go }
  where
    go : (i : ℕ) → i < suc (length rs) → ReadsUpTo AsNumbers (get_or (r ∷ rs) i []) (get_or (x ∷ xs) i [])
    go zero h = q
    go (suc i) h = s.each i (omega arith)

from_least : (rs xs : List (List Vertex)) → Each Outline (all_kept rs) → Each Outline (all_kept xs) → map least_reading (all_kept rs) ≡ map least_reading (all_kept xs)
    → SameOutlines AsNumbers rs xs
from_least [] [] h k e = record { long = refl; each = λ i l. absurd (not-suc-le-zero l) }
from_least [] (x ∷ xs) h k e = no_cons (least_reading (map kept_vertex x)) (map least_reading (all_kept xs)) e
from_least (r ∷ rs) [] h k e = no_cons (least_reading (map kept_vertex r)) (map least_reading (all_kept rs)) (sym e)
from_least (r ∷ rs) (x ∷ xs) h k e =
    same_cons r x rs xs
    (from_kept r x k.0.corners (reads_of_least (map kept_vertex r) (map kept_vertex x) (omega (arith, h.0.least)) (omega (arith, k.0.least)) (cc)))
    (from_least rs xs h.1 k.1 (cc))

to_least : (rs xs : List (List Vertex)) → Each Outline (all_kept rs) → SameOutlines AsNumbers rs xs → map least_reading (all_kept rs) ≡ map least_reading (all_kept xs)
to_least [] [] h s = refl
to_least [] (x ∷ xs) h s = absurd (omega (arith, s.long))
to_least (r ∷ rs) [] h s = absurd (omega (arith, s.long))
to_least (r ∷ rs) (x ∷ xs) h s =
    let e : least_reading (map kept_vertex r) ≡ least_reading (map kept_vertex x) =
    same_least (map kept_vertex r) (map kept_vertex x) (omega (arith, h.0.least)) (to_kept r x (s.each 0 (omega arith))) in
    let t : map least_reading (all_kept rs) ≡ map least_reading (all_kept xs) =
    to_least rs xs h.1 (record { long = omega (arith, s.long); each = λ i l. s.each (suc i) (omega arith) }) in
    cc

-- ---- the rings that are stored are those that are lent, as they are kept

ring_kept : (xs : List Float) → Formed xs → ring_of xs ≡ map kept_vertex (vertices (map (to_bits binary64) xs))
ring_kept [] f = refl
ring_kept (x ∷ []) f = refl
ring_kept (x ∷ y ∷ xs) f =
    let a : kept x ≡ kept_of (to_bits binary64 x) = ap kept (sym (of_bits-to_bits binary64 x f.0)) in
    let b : kept y ≡ kept_of (to_bits binary64 y) = ap kept (sym (of_bits-to_bits binary64 y f.1.0)) in
    ap₂ (λ (w : Vertex) (l : List Vertex). w ∷ l) (ap₂ (λ (i j : ℕ). record { x = i; y = j }) a b) (ring_kept xs f.1.1)

rings_kept : (ns : List ℕ) (xs : List Float) → Formed xs → rings_from ns xs ≡ all_kept (lent_from ns xs)
unfolding rings_from lent_from
rings_kept [] xs f = refl
rings_kept (n ∷ ns) xs f =
    ap₂ (λ (r : List Vertex) (rs : List (List Vertex)). r ∷ rs)
    (ring_kept (take (2 * n) xs) (each_take (λ (x : Float). T (fits binary64 x)) (2 * n) xs f))
    (rings_kept ns (drop (2 * n) xs) (each_drop (λ (x : Float). T (fits binary64 x)) (2 * n) xs f))

-- the theorem
pub same_outlines : (xs ys : List Float) (ns ms ps qs : List ℕ) → Formed xs → Formed ys → Accepted (rings_from ns xs) ps → Accepted (rings_from ms ys) qs
    → (book_of (rings_from ns xs) ps ≡ book_of (rings_from ms ys) qs) ↔ (SameOutlines AsNumbers (lent_from ns xs) (lent_from ms ys) × (ps ≡ qs))
same_outlines xs ys ns ms ps qs f g a b =
    let p = rings_kept ns xs f in
    let q = rings_kept ms ys g in
    let h : Each Outline (all_kept (lent_from ns xs)) = subst (Each Outline) p a.rings in
    let k : Each Outline (all_kept (lent_from ms ys)) = subst (Each Outline) q b.rings in
    let s = same_book (rings_from ns xs) (rings_from ms ys) ps qs a b in (
      λ e. (from_least (lent_from ns xs) (lent_from ms ys) h k (ap (map least_reading) (sym p) ∙ (s.0 e).0 ∙ ap (map least_reading) q), (s.0 e).1),
      λ z. s.1 (ap (map least_reading) p ∙ to_least (lent_from ns xs) (lent_from ms ys) h z.0 ∙ ap (map least_reading) (sym q), z.1),
    )
