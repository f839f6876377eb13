-- The book of mirrored rings depends only on the book of the rings: what is kept of a negated number depends only on what is kept of the
-- number, so the vertices that are kept of a mirrored ring are those of the ring, each changed by itself and read from the end. A reading
-- of the ring, so changed, is a reading of the mirrored one. Assumes nothing.
use Prim.Native.Nat.{ℕ, zero, suc, ◌-◌, ◌*◌, ◌%◌, ◌<◌}
use native.Mathlib.Omega.{arith}
use mathlib.Core.Path.{◌≡◌, refl, sym, ap, ap₂, ◌∙◌}
use mathlib.Core.Logic.{◌↔◌}
use mathlib.Core.Bool.{Bool, true, false, not, ◌&&◌}
use mathlib.Core.List.{List, [], ◌∷◌, ◌++◌, map, map-append, append-nil, reverse, reverse-cons}
use lib.ListN.{length, take, drop, length-append, length-drop, length-map, length-reverse, take-append-drop}
use lib.Seq.{take-length, drop-length, take_all, length-take-le, take_at, drop_at}
use lib.Dec.{T}
use lib.Ieee.{Float, nan, inf, fin, binary64, neg, eq, fits, of_bits}
use lib.Ieee.Bits.{of_bits-to_bits}
use lib.Ieee.Fits.{neg-fits}
use Rattle.scalar.specs.Float.{f0}
use Rattle.scalar.proofs.Zero.{zero_eq, some_eq}
use Rattle.ring.specs.Ring.{count}
use Rattle.ring.specs.Room.{laid}
use Rattle.refusals.specs.Bounds.{coordinate, every, coordinates}
use Rattle.refusals.specs.Rings.{total}
use Rattle.refusals.specs.Rows.{of_rings}
use Rattle.number_bytes.specs.Bytes.{Each, Formed}
use Rattle.number_bytes.proofs.Each.{each_take, each_drop}
use Rattle.reading.specs.Reading.{Vertex, Reads, rot, vertices, least_reading}
use Rattle.reading.specs.Lent.{kept, ring_of}
use Rattle.reading.proofs.Order.{no_bool}
use Rattle.reading.proofs.KeptBits.{kept_zero, kept_own}
use Rattle.reading.proofs.Turning.{reads_sym, reads_trans}
use Rattle.reading.proofs.Changed.{reads_map}
use Rattle.reading.proofs.Leasts.{same_least, reads_of_least}
use Rattle.book_layout.specs.Layout.{layout, book_of, Outline, PartNumber}
use Rattle.book_layout.specs.Faults.{◌passes}
use Rattle.book_layout.specs.Writer.{rings_from, write_refusal, write_call, write_room}
use Rattle.book_layout.proofs.Each.{each_append}
use Rattle.book_layout.proofs.Books.{same_book}
use Rattle.book_layout.proofs.Lent.{takes, held_accepted}
use Rattle.ring_copies.specs.Copies.{mirrored}
use Rattle.mirror_laws.specs.Mirrored.{mirrored_rings}
use Rattle.mirror_laws.proofs.Twice.{twice, length_mirrored, every_append, coordinates_mirrored}

abbrev Fits : Float → Type 0
Fits x = T (fits binary64 x)

-- ---- numbers

-- the bits that are kept of the negative of a number, by those that are kept of the number
abbrev kept_negative : ℕ → ℕ
kept_negative b = kept (neg (of_bits binary64 b))

zero_negative : (x : Float) → eq x f0 ≡ true → eq (neg x) f0 ≡ true
unfolding neg
zero_negative nan h = unfold eq in no_bool h
zero_negative (inf s) h = unfold eq of_bits in no_bool h
zero_negative (fin s zero e) h = zero_eq (not s) e
zero_negative (fin s (suc m) e) h = no_bool (sym (some_eq s m e) ∙ h)

plus_zero : eq f0 f0 ≡ true
unfolding eq of_bits
plus_zero = refl

kept_negative_lem : (x : Float) → T (fits binary64 x) → kept (neg x) ≡ kept_negative (kept x)
kept_negative_lem x f = by (eq x f0) refl
  where
    by : (b : Bool) → eq x f0 ≡ b → kept (neg x) ≡ kept_negative (kept x)
    by true e = kept_zero (neg x) (zero_negative x e) ∙ sym (ap kept_negative (kept_zero x e) ∙ kept_zero (neg f0)
        (zero_negative f0 plus_zero))
    by false e = sym (ap kept_negative (kept_own x e) ∙ ap (λ (y : Float). kept (neg y)) (of_bits-to_bits binary64 x f))

-- ---- rings

abbrev across : Vertex → Vertex
across v = record { x = kept_negative v.x; y = v.y }

abbrev mirror_of : List Vertex → List Vertex
mirror_of r = reverse (map across r)

vertices_append : (a b : List ℕ) → length a % 2 ≡ 0 → vertices (a ++ b) ≡ vertices a ++ vertices b
vertices_append [] b h = refl
vertices_append (x ∷ []) b h = absurd (omega arith)
vertices_append (x ∷ y ∷ a) b h = ap (λ (l : List Vertex). record { x = x; y = y } ∷ l) (vertices_append a b (omega arith))

ring_append : (a b : List Float) → length a % 2 ≡ 0 → ring_of (a ++ b) ≡ ring_of a ++ ring_of b
ring_append a b h =
    ap vertices (map-append kept a b) ∙ vertices_append (map kept a) (map kept b) (let e = length-map a kept in omega arith)

ring_mirrored : (xs : List Float) → Formed xs → length xs % 2 ≡ 0 → ring_of (mirrored xs) ≡ mirror_of (ring_of xs)
unfolding mirrored
ring_mirrored [] f h = refl
ring_mirrored (x ∷ []) f h = absurd (omega arith)
ring_mirrored (x ∷ y ∷ xs) f h =
    let e : length (mirrored xs) % 2 ≡ 0 = rw (length_mirrored xs (omega arith)) (omega arith) in
    ring_append (mirrored xs) (neg x ∷ y ∷ []) e
    ∙ ap₂ (λ (l : List Vertex) (b : ℕ). l ++ (record { x = b; y = kept y } ∷ [])) (ring_mirrored xs f.1.1 (omega arith))
    (kept_negative_lem x f.0)
    ∙ sym (reverse-cons (across (record { x = kept x; y = kept y })) (map across (ring_of xs)))

-- a ring read from its end is a reading of it
from_end : {A : Type 0} (r : List A) → 0 < length r → Reads r (reverse r)
from_end r n =
    let e : suc (length r - 1) ≡ length r = omega arith in
    let whole : rot (suc (length r - 1)) r ≡ r = rw (e, drop-length, take-length) refl in
    record { start = length r - 1; back = true; within = omega arith; is = ap reverse (sym whole) }

-- a ring that has the least reading of another: so has its mirror that of the other's
same_mirror : (r x : List Vertex) → 0 < length r → 0 < length x → least_reading r ≡ least_reading x
    → least_reading (mirror_of r) ≡ least_reading (mirror_of x)
same_mirror r x h k e =
    let q : Reads (map across r) (map across x) = reads_map across r x (reads_of_least r x h k e) in
    let n : 0 < length (map across r) = omega (arith, length-map r across) in
    let m : 0 < length (map across x) = omega (arith, length-map x across) in
    let z : Reads (mirror_of r) (mirror_of x) = reads_trans (reads_sym (from_end (map across r) n))
    (reads_trans q (from_end (map across x) m)) in
    same_least (mirror_of r) (mirror_of x) (omega (arith, length-reverse (map across r))) z

same_mirrors : (rs qs : List (List Vertex)) → Each Outline rs → Each Outline qs → map least_reading rs ≡ map least_reading qs
    → map least_reading (map mirror_of rs) ≡ map least_reading (map mirror_of qs)
same_mirrors [] [] h k e = refl
same_mirrors [] (x ∷ xs) h k e = absurd (omega (arith, ap length e))
same_mirrors (r ∷ rs) [] h k e = absurd (omega (arith, ap length e))
same_mirrors (r ∷ rs) (x ∷ xs) h k e =
    ap₂ (λ (a : List Vertex) (l : List (List Vertex)). a ∷ l)
    (same_mirror r x (omega (arith, h.0.least)) (omega (arith, k.0.least)) (cc)) (same_mirrors rs xs h.1 k.1 (cc))

-- ---- the rings of a book

module _ (n : ℕ) (ns : List ℕ) (xs : List Float) (whole : length xs ≡ 2 * total (n ∷ ns)) where
  front : length (take (2 * n) xs) ≡ 2 * n
  unfolding total
  front = length-take-le (2 * n) xs (omega arith)

  front_even : length (take (2 * n) xs) % 2 ≡ 0
  front_even = omega (arith, front)

  rest : length (drop (2 * n) xs) ≡ 2 * total ns
  unfolding total
  rest = length-drop (2 * n) xs ∙ (omega arith)

  front_mirrored : length (mirrored (take (2 * n) xs)) ≡ 2 * n
  front_mirrored = length_mirrored (take (2 * n) xs) front_even ∙ front

length_mirrors : (ns : List ℕ) (xs : List Float) → length xs ≡ 2 * total ns → length (mirrored_rings ns xs) ≡ length xs
unfolding mirrored_rings total
length_mirrors [] xs h = sym h
length_mirrors (n ∷ ns) xs h =
    let a = front_mirrored n ns xs h in
    let b = rest n ns xs h in
    length-append (mirrored (take (2 * n) xs)) (mirrored_rings ns (drop (2 * n) xs))
    ∙ (let c = length_mirrors ns (drop (2 * n) xs) b in omega arith)

coordinates_none : (xs : List Float) → length xs ≡ 0 → coordinates xs ≡ true
unfolding every
coordinates_none [] h = refl
coordinates_none (x ∷ xs) h = absurd (omega arith)

coordinates_mirrors : (ns : List ℕ) (xs : List Float) → length xs ≡ 2 * total ns → coordinates (mirrored_rings ns xs) ≡ coordinates xs
unfolding mirrored_rings total every
coordinates_mirrors [] xs h = sym (coordinates_none xs h)
coordinates_mirrors (n ∷ ns) xs h =
    every_append coordinate (mirrored (take (2 * n) xs)) (mirrored_rings ns (drop (2 * n) xs))
    ∙ ap₂ (λ (a b : Bool). a && b) (coordinates_mirrored (take (2 * n) xs) (front_even n ns xs h))
    (coordinates_mirrors ns (drop (2 * n) xs) (rest n ns xs h))
    ∙ sym (every_append coordinate (take (2 * n) xs) (drop (2 * n) xs))
    ∙ ap coordinates (take-append-drop (2 * n) xs)

rings_mirrored : (ns : List ℕ) (xs : List Float) → Formed xs → length xs ≡ 2 * total ns
    → rings_from ns (mirrored_rings ns xs) ≡ map mirror_of (rings_from ns xs)
unfolding mirrored_rings rings_from
rings_mirrored [] xs f h = refl
rings_mirrored (n ∷ ns) xs f h =
    let m = mirrored (take (2 * n) xs) in
    let later = mirrored_rings ns (drop (2 * n) xs) in
    let e = front_mirrored n ns xs h in
    ap₂ (λ (a : List Vertex) (l : List (List Vertex)). a ∷ l)
    (ap ring_of (take_at m later (2 * n) e)
    ∙ ring_mirrored (take (2 * n) xs) (each_take Fits (2 * n) xs f) (front_even n ns xs h))
    (ap (rings_from ns) (drop_at m later (2 * n) e)
    ∙ rings_mirrored ns (drop (2 * n) xs) (each_drop Fits (2 * n) xs f) (rest n ns xs h))

-- The writer takes the mirrored rings in exactly the rooms in which it takes the rings, and answers the same.
pub mirrored_taken : (xs : List Float) (ns ps : List ℕ) → length xs ≡ 2 * total ns → (size : ℕ)
    → (write_refusal (mirrored_rings ns xs) ns ps size ≡ write_refusal xs ns ps size) ×
    (write_call (mirrored_rings ns xs) ns ps size ≡ write_call xs ns ps size)
unfolding write_refusal of_rings
mirrored_taken xs ns ps h size =
    let a = length_mirrors ns xs h in
    let b = coordinates_mirrors ns xs h in
    (rw (a, b) refl, rw (a, b) refl)

-- ---- mirrored twice

formed_mirrored : (r : List Float) → Formed r → Formed (mirrored r)
unfolding mirrored
formed_mirrored [] f = tt
formed_mirrored (x ∷ []) f = tt
formed_mirrored (x ∷ y ∷ r) f =
    each_append Fits (mirrored r) (neg x ∷ y ∷ []) (formed_mirrored r f.1.1) (neg-fits binary64 x f.0, (f.1.0, tt))

formed_mirrors : (ns : List ℕ) (xs : List Float) → Formed xs → Formed (mirrored_rings ns xs)
unfolding mirrored_rings
formed_mirrors [] xs f = tt
formed_mirrors (n ∷ ns) xs f =
    each_append Fits (mirrored (take (2 * n) xs)) (mirrored_rings ns (drop (2 * n) xs))
    (formed_mirrored (take (2 * n) xs) (each_take Fits (2 * n) xs f))
    (formed_mirrors ns (drop (2 * n) xs) (each_drop Fits (2 * n) xs f))

nothing : (xs : List Float) → length xs ≡ 0 → [] ≡ xs
nothing [] h = refl
nothing (x ∷ xs) h = absurd (omega arith)

pub mirrors_twice : (ns : List ℕ) (xs : List Float) → length xs ≡ 2 * total ns → mirrored_rings ns (mirrored_rings ns xs) ≡ xs
unfolding mirrored_rings total
mirrors_twice [] xs h = nothing xs h
mirrors_twice (n ∷ ns) xs h =
    let m = mirrored (take (2 * n) xs) in
    let later = mirrored_rings ns (drop (2 * n) xs) in
    let e = front_mirrored n ns xs h in
    ap₂ (λ (a b : List Float). a ++ b)
    (ap mirrored (take_at m later (2 * n) e) ∙ twice (take (2 * n) xs) (front_even n ns xs h))
    (ap (mirrored_rings ns) (drop_at m later (2 * n) e) ∙ mirrors_twice ns (drop (2 * n) xs) (rest n ns xs h))
    ∙ take-append-drop (2 * n) xs

-- ---- the theorems

-- the book of rings as they are, in which each is read as its least reading is
book_of_lem : (ps : List ℕ) (rs : List (List Vertex)) → List ℕ
book_of_lem ps rs = layout (map least_reading rs) ps

module _ (xs ys : List Float) (ns ms ps qs : List ℕ) (s t : ℕ) (f : Formed xs) (g : Formed ys) (v : Each PartNumber ps) (w : Each PartNumber qs) where
  one_book : write_refusal xs ns ps s passes → write_refusal ys ms qs t passes
      → book_of (rings_from ns xs) ps ≡ book_of (rings_from ms ys) qs
      → book_of (rings_from ns (mirrored_rings ns xs)) ps ≡ book_of (rings_from ms (mirrored_rings ms ys)) qs
  unfolding book_of book_of_lem
  one_book h k e =
      let p = (takes xs ns ps s h).0 in
      let q = (takes ys ms qs t k).0 in
      let a = held_accepted xs ns ps f v p in
      let b = held_accepted ys ms qs g w q in
      let l = (same_book (rings_from ns xs) (rings_from ms ys) ps qs a b).0 e in
      ap (book_of_lem ps) (rings_mirrored ns xs f p.whole)
      ∙ ap₂ layout (same_mirrors (rings_from ns xs) (rings_from ms ys) a.rings b.rings l.0) l.1
      ∙ sym (ap (book_of_lem qs) (rings_mirrored ms ys g q.whole))

-- Two lists of rings with parts that the writer takes have one book exactly if the mirrored rings have one.
pub mirrored_books : (xs ys : List Float) (ns ms ps qs : List ℕ) (s t : ℕ) → Formed xs → Formed ys → Each PartNumber ps
    → Each PartNumber qs → write_refusal xs ns ps s passes → write_refusal ys ms qs t passes
    → (book_of (rings_from ns xs) ps ≡ book_of (rings_from ms ys) qs) ↔ (book_of (rings_from ns (mirrored_rings ns xs)) ps ≡ book_of
    (rings_from ms (mirrored_rings ms ys)) qs)
mirrored_books xs ys ns ms ps qs s t f g v w h k =
    let p = (takes xs ns ps s h).0.whole in
    let q = (takes ys ms qs t k).0.whole in
    let h' : write_refusal (mirrored_rings ns xs) ns ps s passes = rw (mirrored_taken xs ns ps p s).0 h in
    let k' : write_refusal (mirrored_rings ms ys) ms qs t passes = rw (mirrored_taken ys ms qs q t).0 k in (
      one_book xs ys ns ms ps qs s t f g v w h k,
      λ e.
          rw (mirrors_twice ns xs p, mirrors_twice ms ys q)
          at (one_book (mirrored_rings ns xs) (mirrored_rings ms ys) ns ms ps qs s t (formed_mirrors ns xs f) (formed_mirrors ms ys g) v w h' k' e),
    )

-- What the writer leaves of the mirrored rings in two rooms in which it takes the rings: where these have one book, one book and then what
-- each room held.
pub mirrored_rooms : (xs ys : List Float) (ns ms ps qs room room' : List ℕ) → Formed xs → Formed ys → Each PartNumber ps
    → Each PartNumber qs → write_refusal xs ns ps (length room) passes → write_refusal ys ms qs (length room') passes
    → book_of (rings_from ns xs) ps ≡ book_of (rings_from ms ys) qs
    → (book : List ℕ) × (write_room (mirrored_rings ns xs) ns ps room ≡ laid book room) ×
    (write_room (mirrored_rings ms ys) ms qs room' ≡ laid book room')
mirrored_rooms xs ys ns ms ps qs room room' f g v w h k e =
    let p = (takes xs ns ps (length room) h).0.whole in
    let q = (takes ys ms qs (length room') k).0.whole in (
      book_of (rings_from ns (mirrored_rings ns xs)) ps,
      rw ((mirrored_taken xs ns ps p (length room)).0, h) refl,
      rw ((mirrored_taken ys ms qs q (length room')).0, k, one_book xs ys ns ms ps qs (length room) (length room') f g v w h k e) refl,
    )

-- a ring by itself
module _ (r : List Float) (whole : length r ≡ 2 * count r) where
  alone : rings_from (count r ∷ []) r ≡ ring_of r ∷ []
  unfolding rings_from
  alone = ap (λ (l : List Float). ring_of l ∷ []) (take_all (2 * count r) r (omega arith))

  alone_mirrored : rings_from (count r ∷ []) (mirrored_rings (count r ∷ []) r) ≡ ring_of (mirrored r) ∷ []
  unfolding mirrored_rings rings_from
  alone_mirrored =
      let e : length (mirrored r) ≡ length r = length_mirrored r (omega arith) in
      rw (take_all (2 * count r) r (omega arith), append-nil (mirrored r), take_all (2 * count r) (mirrored r) (omega arith)) refl

-- Of two single rings, and what the mirror call writes of them.
pub mirrored_ring_books : (r q : List Float) (part part' : ℕ) (s t : ℕ) → Formed r → Formed q → PartNumber part → PartNumber part'
    → write_refusal r (count r ∷ []) (part ∷ []) s passes → write_refusal q (count q ∷ []) (part' ∷ []) t passes
    → (book_of (ring_of r ∷ []) (part ∷ []) ≡ book_of (ring_of q ∷ []) (part' ∷ []))
    ↔ (book_of (ring_of (mirrored r) ∷ []) (part ∷ []) ≡ book_of (ring_of (mirrored q) ∷ []) (part' ∷ []))
unfolding total
mirrored_ring_books r q part part' s t f g v w h k =
    let a : length r ≡ 2 * count r = omega (arith, (takes r (count r ∷ []) (part ∷ []) s h).0.whole) in
    let b : length q ≡ 2 * count q = omega (arith, (takes q (count q ∷ []) (part' ∷ []) t k).0.whole) in
    rw (alone_mirrored r a, alone_mirrored q b, alone r a, alone q b)
    at (mirrored_books r q (count r ∷ []) (count q ∷ []) (part ∷ []) (part' ∷ []) s t f g (v, tt) (w, tt) h k)
