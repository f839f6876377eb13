-- A layout is read back as the rings and the parts that it was made of, so two layouts that are equal are of the same rings and parts. Assumes nothing.
use Prim.Native.Nat.{ℕ, ◌+◌, ◌-◌, ◌*◌, ◌^◌, ◌≤◌, ◌<◌}
use native.Mathlib.Omega.{arith}
use mathlib.Core.Path.{◌≡◌, refl, sym, ap, ◌∙◌}
use mathlib.Core.List.{List, [], ◌∷◌, ◌++◌, map, append_assoc, append-nil}
use lib.ListN.{length, take, drop, length-append, length-map}
use lib.Seq.{drop_at}
use Rattle.reading.specs.Reading.{Vertex, flat}
use Rattle.number_bytes.specs.Bytes.{bytes_of, number_of, Each}
use Rattle.number_bytes.proofs.Bytes.{length_bytesOf, take_number}
use Rattle.refusals.specs.Rings.{vertices_least, vertices_most, rings_most}
use Rattle.book_layout.specs.Layout.{field_bytes, vertex_bytes, entry_bytes, tail_bytes, coord_bytes, body, entries, layout, Outline, Accepted, counts_in, parts_in, rings_in, ring_count, entry_offset, counts_of, parts_of, rings_of}
use Rattle.book_layout.proofs.Bytes.{length_ring, length_entries, counts_back, parts_back, rings_back}

-- ---- lengths

pub body_most : (rs : List (List Vertex)) → Each Outline rs → length (body rs) ≤ vertices_most * vertex_bytes * length rs
unfolding body
body_most [] h = omega arith
body_most (r ∷ rs) h =
    let e = length-append (coord_bytes (flat r)) (body rs) in
    let d = length_ring r in
    let k = body_most rs h.1 in
    omega (arith, h.0.most)

pub body_least : (rs : List (List Vertex)) → Each Outline rs → vertices_least * vertex_bytes * length rs ≤ length (body rs)
unfolding body
body_least [] h = omega arith
body_least (r ∷ rs) h =
    let e = length-append (coord_bytes (flat r)) (body rs) in
    let d = length_ring r in
    let k = body_least rs h.1 in
    omega (arith, h.0.least)

pub tail : List (List Vertex) → List ℕ
tail rs = bytes_of field_bytes (length rs) ++ bytes_of field_bytes (length (body rs))

length_tail : (rs : List (List Vertex)) → length (tail rs) ≡ tail_bytes
unfolding tail
length_tail rs =
    omega (arith, length-append (bytes_of field_bytes (length rs)) (bytes_of field_bytes (length (body rs))), length_bytesOf field_bytes (length rs), length_bytesOf field_bytes (length (body rs)))

pub layout_is : (rs : List (List Vertex)) (ps : List ℕ) → layout rs ps ≡ body rs ++ (entries 0 (map length rs) ps ++ tail rs)
unfolding layout tail
layout_is rs ps = refl

-- as many parts as counts
pub many_counts : (rs : List (List Vertex)) (ps : List ℕ) → length ps ≡ length rs → length ps ≡ length (map length rs)
many_counts rs ps m = m ∙ sym (length-map rs (length {A = Vertex}))

pub length_layout : (rs : List (List Vertex)) (ps : List ℕ) → length ps ≡ length rs → length (layout rs ps) ≡ length (body rs) + entry_bytes * length rs + tail_bytes
length_layout rs ps m =
    ap length (layout_is rs ps)
    ∙ omega (arith, length-append (body rs) (entries 0 (map length rs) ps ++ tail rs), length-append (entries 0 (map length rs) ps) (tail rs), length_entries 0 (map length rs) ps (many_counts rs ps m), length-map rs (length {A = Vertex}), length_tail rs)

-- ---- the two last fields

drop_last : (p q : List ℕ) (n : ℕ) → length p + n ≡ length (p ++ q) → drop (length (p ++ q) - n) (p ++ q) ≡ q
drop_last p q n h = drop_at p q (length (p ++ q) - n) (omega arith)

pub count_back : (rs : List (List Vertex)) (ps : List ℕ) → length rs ≤ rings_most → ring_count (layout rs ps) ≡ length rs
unfolding ring_count tail
count_back rs ps h =
    let p = body rs ++ entries 0 (map length rs) ps in
    let e : layout rs ps ≡ p ++ tail rs = layout_is rs ps ∙ sym (append_assoc (body rs) (entries 0 (map length rs) ps) (tail rs)) in
    ap (λ (f : List ℕ). number_of (take field_bytes (drop (length f - tail_bytes) f))) e
    ∙ ap (λ (f : List ℕ). number_of (take field_bytes f)) (drop_last p (tail rs) tail_bytes (omega (arith, length-append p (tail rs), length_tail rs)))
    ∙ take_number field_bytes (length rs) (bytes_of field_bytes (length (body rs))) (omega arith)

pub offset_back : (rs : List (List Vertex)) (ps : List ℕ) → length (body rs) < 256 ^ field_bytes → entry_offset (layout rs ps) ≡ length (body rs)
unfolding entry_offset tail
offset_back rs ps h =
    let p = body rs ++ (entries 0 (map length rs) ps ++ bytes_of field_bytes (length rs)) in
    let q = bytes_of field_bytes (length (body rs)) in
    let e : layout rs ps ≡ p ++ q = layout_is rs ps ∙ (simp append_assoc) in
    ap (λ (f : List ℕ). number_of (take field_bytes (drop (length f - field_bytes) f))) e
    ∙ ap (λ (f : List ℕ). number_of (take field_bytes f)) (drop_last p q field_bytes (omega (arith, length-append p q, length_bytesOf field_bytes (length (body rs)))))
    ∙ ap (λ (f : List ℕ). number_of (take field_bytes f)) (sym (append-nil q))
    ∙ take_number field_bytes (length (body rs)) [] (omega arith)

-- ---- the whole

counts_most : (rs : List (List Vertex)) → Each Outline rs → Each (λ (n : ℕ). n ≤ vertices_most) (map length rs)
counts_most [] h = tt
counts_most (r ∷ rs) h = (h.0.most, counts_most rs h.1)

module _ (rs : List (List Vertex)) (ps : List ℕ) (ok : Accepted rs ps) where
  small : length (body rs) < 256 ^ field_bytes
  small = omega (arith, body_most rs ok.rings, ok.most)

  -- the entries, as they are looked for
  abbrev rest : List ℕ
  rest = entries 0 (map length rs) ps ++ tail rs

  at_entries : drop (length (body rs)) (layout rs ps) ≡ rest
  at_entries = ap (drop (length (body rs))) (layout_is rs ps) ∙ drop_at (body rs) rest (length (body rs)) refl

  pub counts_of_lem : counts_of (layout rs ps) ≡ map length rs
  unfolding counts_of
  counts_of_lem =
      rw (count_back rs ps ok.most, offset_back rs ps small)
      (ap (counts_in (length rs)) at_entries
      ∙ ap (λ (k : ℕ). counts_in k rest) (sym (length-map rs length))
      ∙ counts_back 0 (map length rs) ps (tail rs) (many_counts rs ps ok.many) (counts_most rs ok.rings))

  pub parts_of_lem : parts_of (layout rs ps) ≡ ps
  unfolding parts_of
  parts_of_lem =
      rw (count_back rs ps ok.most, offset_back rs ps small)
      (ap (parts_in (length rs)) at_entries
      ∙ ap (λ (k : ℕ). parts_in k rest) (sym (length-map rs length))
      ∙ parts_back 0 (map length rs) ps (tail rs) (many_counts rs ps ok.many) ok.parts)

  pub rings_of_lem : rings_of (layout rs ps) ≡ rs
  unfolding rings_of
  rings_of_lem = rw counts_of_lem (ap (rings_in (map length rs)) (layout_is rs ps) ∙ rings_back rs rest ok.rings)

pub layout_inj : (rs xs : List (List Vertex)) (ps qs : List ℕ) → Accepted rs ps → Accepted xs qs → layout rs ps ≡ layout xs qs → (rs ≡ xs) × (ps ≡ qs)
layout_inj rs xs ps qs h k e =
    (sym (rings_of_lem rs ps h) ∙ ap rings_of e ∙ rings_of_lem xs qs k, sym (parts_of_lem rs ps h) ∙ ap parts_of e ∙ parts_of_lem xs qs k)
