-- A drawing in either byte order, with any closing point that equals the first: it passes the checks, and its ring is read back bit for
-- bit. Assumes nothing.
use Prim.Native.Nat.{ℕ, ◌+◌, ◌-◌, ◌*◌, ◌/◌, ◌^◌, ◌<◌}
use native.Mathlib.Omega.{arith}
use mathlib.Core.Path.{◌≡◌, refl, sym, ap, ◌∙◌}
use mathlib.Core.Bool.{true}
use mathlib.Core.List.{List, [], ◌∷◌, map, map-append}
use lib.ListN.{length, get_or, take, length-append, length-map, get_or-append}
use lib.Seq.{take_at, take_all, get_or-append-add}
use lib.Ieee.{Float, nan, binary64, of_bits, to_bits}
use Rattle.number_bytes.specs.Bytes.{Each}
use Rattle.refusals.specs.Refusals.{none}
use Rattle.refusals.specs.Bounds.{coordinate, every, coordinates}
use Rattle.refusals.proofs.Sized.{Polygon, one_polygon}
use Rattle.refusals.proofs.Every.{every_at}
use Rattle.wkb_layout.specs.Layout.{code_bytes, points_at, wkb_of, code_in, open_vertices, open_numbers}
use Rattle.wkb_layout.specs.Faults.{closes, wkb_check}
use Rattle.wkb_layout.specs.Reader.{open_ring}
use Rattle.wkb_layout.specs.Drawing.{closed_by, Drawing}
use Rattle.wkb_layout.specs.declared.Order.{Order}
use Rattle.wkb_layout.proofs.Numbers.{Pattern}
use Rattle.wkb_layout.proofs.Patterns.{patterns_of, floats_back, float_at, formed_front, coordinates_append, equal_coordinate}
use Rattle.wkb_layout.proofs.Checks.{Checked, passes, all_numbers}
use Rattle.wkb_layout.proofs.ReadBack.{length_file, order_small, type_back, rings_back, points_back, numbers_in_lem, closes_back}

module _ {f : List ℕ} (d : Drawing f) where
  abbrev o : Order
  o = d.order

  abbrev xs : List Float
  xs = d.ring

  abbrev x : Float
  x = d.x

  abbrev y : Float
  y = d.y

  abbrev all : List Float
  all = closed_by xs x y

  abbrev cs : List ℕ
  cs = map (to_bits binary64) all

  abbrev g : List ℕ
  g = wkb_of o cs

  ring : Polygon xs
  ring = (one_polygon xs d.taken).0

  length_all : length all ≡ length xs + 2
  length_all = length-append xs (x ∷ y ∷ [])

  length_cs : length cs ≡ length xs + 2
  length_cs = length-map all (to_bits binary64) ∙ length_all

  fit : Each Pattern cs
  fit = patterns_of all d.formed

  few : length cs / 2 < 256 ^ code_bytes
  few = omega (arith, length_cs, ring.most)

  points : code_in g points_at ≡ length cs / 2
  points = points_back o cs few

  -- ---- the coordinates

  all_bounded : coordinates all ≡ true
  unfolding every
  all_bounded =
      let bound = (one_polygon xs d.taken).1 in
      let cx : coordinate x ≡ true =
      equal_coordinate (get_or xs 0 nan) x d.closes_x (every_at coordinate xs 0 bound (omega (arith, ring.least))) in
      let cy : coordinate y ≡ true =
      equal_coordinate (get_or xs 1 nan) y d.closes_y (every_at coordinate xs 1 bound (omega (arith, ring.least))) in
      coordinates_append xs (x ∷ y ∷ []) ∙ (rw (bound, cx, cy) refl)

  all_back : all_numbers g ≡ cs
  all_back =
      let n : 2 * code_in g points_at ≡ length cs = omega (arith, points, length_cs, ring.even) in
      numbers_in_lem o cs fit (2 * code_in g points_at) (omega (arith, n)) ∙ take_all (2 * code_in g points_at) cs (omega (arith, n))

  -- ---- the closing point

  place : (i : ℕ) → i < length xs + 2 → of_bits binary64 (get_or cs i 0) ≡ get_or all i nan
  place i h = float_at all i d.formed (omega (arith, length_all))

  in_ring : (i : ℕ) → i < length xs → of_bits binary64 (get_or cs i 0) ≡ get_or xs i nan
  in_ring i h = place i (omega arith) ∙ get_or-append xs (x ∷ y ∷ []) nan i h

  beyond : (i j : ℕ) → j ≡ length xs + i → i < 2 → of_bits binary64 (get_or cs j 0) ≡ get_or (x ∷ y ∷ []) i nan
  beyond i j e h = place j (omega arith) ∙ ap (λ (k : ℕ). get_or all k nan) e ∙ get_or-append-add xs (x ∷ y ∷ []) i nan

  closing : closes g ≡ true
  closing =
      let last = 2 * (length cs / 2 - 1) in
      let e0 : last ≡ length xs + 0 = omega (arith, length_cs, ring.even) in
      let e1 : last + 1 ≡ length xs + 1 = omega (arith, length_cs, ring.even) in
      let a = in_ring 0 (omega (arith, ring.least)) in
      let b = in_ring 1 (omega (arith, ring.least)) in
      let u = beyond 0 last e0 (omega arith) in
      let v = beyond 1 (last + 1) e1 (omega arith) in
      closes_back o cs fit few ∙ (rw (a, b, u, v, d.closes_x, d.closes_y) refl)

  -- ---- the whole

  drawn : Checked g
  drawn =
      record {
        order = order_small o cs;
        polygon = type_back o cs;
        one = rings_back o cs;
        least = omega (arith, points, length_cs, ring.least);
        most = omega (arith, points, length_cs, ring.most);
        long = omega (arith, points, length_file o cs, length_cs, ring.even);
        bounded = ap coordinates (ap (map (of_bits binary64)) all_back ∙ floats_back all d.formed) ∙ all_bounded;
        closed = closing;
      }

  vertices : open_vertices g ≡ length xs / 2
  vertices = omega (arith, points, length_cs)

  opened : open_ring g ≡ xs
  unfolding open_numbers
  opened =
      let n = 2 * open_vertices g in
      let e : n ≡ length xs = omega (arith, points, length_cs, ring.even) in
      let front = map (to_bits binary64) xs in
      let rest = map (to_bits binary64) (x ∷ y ∷ []) in
      let t : take n cs ≡ front =
      ap (take n) (map-append (to_bits binary64) xs (x ∷ y ∷ []))
      ∙ take_at front rest n (length-map xs (to_bits binary64) ∙ sym e) in
      ap (map (of_bits binary64)) (numbers_in_lem o cs fit n (omega (arith, e, length_cs)) ∙ t)
      ∙ floats_back xs (formed_front xs (x ∷ y ∷ []) d.formed)

  pub drawing_passes : wkb_check f ≡ none
  drawing_passes = ap wkb_check (sym d.file) ∙ passes g drawn

  pub drawing_vertices : open_vertices f ≡ length d.ring / 2
  drawing_vertices = ap open_vertices (sym d.file) ∙ vertices

  pub drawing_ring : open_ring f ≡ d.ring
  drawing_ring = ap open_ring (sym d.file) ∙ opened
