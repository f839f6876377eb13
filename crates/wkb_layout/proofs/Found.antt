-- A file that passes the checks is the layout of what is in it: its ring, its closing point, in its byte order. Assumes nothing.
use Prim.Native.Nat.{ℕ, zero, suc, ◌+◌, ◌-◌, ◌*◌, ◌/◌, ◌≤◌}
use native.Mathlib.Omega.{arith}
use mathlib.Core.Path.{◌≡◌, refl, sym, ap, ap₂, subst, ◌∙◌}
use mathlib.Core.Bool.{true, ◌&&◌, cond}
use mathlib.Core.List.{List, [], ◌∷◌, ◌++◌, map, map-append}
use lib.ListN.{length, get_or, take, drop, length-map, length-drop, take-append-drop}
use lib.Seq.{drop-drop, drop-cons, take_all}
use lib.Dec.{eqb}
use lib.Ieee.{Float, nan, binary64, of_bits, to_bits, eq}
use Rattle.laws.proofs.Both.{both}
use Rattle.number_bytes.specs.Bytes.{Byte, Each, Formed}
use Rattle.number_bytes.proofs.Each.{each_drop}
use Rattle.refusals.specs.Bounds.{coordinates}
use Rattle.refusals.proofs.Sized.{Polygon}
use Rattle.wkb_layout.specs.Layout.{code_bytes, number_bytes, type_at, rings_at, points_at, head_bytes, polygon_type, code_of, written_as, read_as, numbers_as, wkb_of, order_in, code_in, bits_in, numbers_in, open_vertices, open_numbers}
use Rattle.wkb_layout.specs.Faults.{closing_at, number_in, closes}
use Rattle.wkb_layout.specs.Reader.{open_ring}
use Rattle.wkb_layout.specs.Drawing.{closed_by, Drawing}
use Rattle.wkb_layout.specs.declared.Order.{Order}
use Rattle.wkb_layout.specs.declared.Order.TheVariants.{Big, Little}
use Rattle.wkb_layout.proofs.Ordered.{written_read}
use Rattle.wkb_layout.proofs.Numbers.{Pattern, length_numbersIn, numbers_add, numbers_lt, numbers_again}
use Rattle.wkb_layout.proofs.Patterns.{bits_back, coordinates_append}
use Rattle.number_bytes.proofs.Formed.{formed_of}
use Rattle.wkb_layout.proofs.Rings.{taken_of}
use Rattle.wkb_layout.proofs.Checks.{Checked, all_numbers}
use Rattle.wkb_layout.proofs.ReadBack.{after_points, after_one, file_is}

-- the order of a first byte is the one that is written as it
code_of_lem : (b : ℕ) → b ≤ 1 → code_of (cond (eqb b 0) Big Little) ≡ b
code_of_lem zero h = refl
code_of_lem (suc zero) h = refl
code_of_lem (suc (suc b)) h = absurd (omega arith)

module _ (f : List ℕ) where
  abbrev o : Order
  o = order_in f

  abbrev n : ℕ
  n = open_vertices f

  abbrev x : Float
  x = number_in f (closing_at f)

  abbrev y : Float
  y = number_in f (closing_at f + number_bytes)

  -- ---- all coordinates are those of the ring and then those of the closing point

  two : (k : ℕ) → numbers_in o 2 (drop k f) ≡ bits_in f k ∷ bits_in f (k + number_bytes) ∷ []
  unfolding numbers_in bits_in
  two k = ap (λ (l : List ℕ). read_as o (take number_bytes (drop k f)) ∷ read_as o (take number_bytes l) ∷ []) (drop-drop number_bytes k f)

  module _ (some : 1 ≤ code_in f points_at) where
    numbers_are : all_numbers f ≡ open_numbers f ++ (bits_in f (closing_at f) ∷ bits_in f (closing_at f + number_bytes) ∷ [])
    unfolding open_numbers
    numbers_are =
        let e : 2 * code_in f points_at ≡ 2 * n + 2 = omega (arith, some) in
        let d : head_bytes + number_bytes * (2 * n) ≡ closing_at f = omega arith in
        ap (λ (k : ℕ). numbers_in o k (drop head_bytes f)) e
        ∙ numbers_add o (2 * n) 2 (drop head_bytes f)
        ∙ ap (λ (l : List ℕ). open_numbers f ++ numbers_in o 2 l) (drop-drop (number_bytes * (2 * n)) head_bytes f ∙ ap (λ (k : ℕ). drop k f) d)
        ∙ ap (λ (l : List ℕ). open_numbers f ++ l) (two (closing_at f))

    floats_are : map (of_bits binary64) (all_numbers f) ≡ closed_by (open_ring f) x y
    floats_are =
        ap (map (of_bits binary64)) numbers_are
        ∙ map-append (of_bits binary64) (open_numbers f) (bits_in f (closing_at f) ∷ bits_in f (closing_at f + number_bytes) ∷ [])

  -- ---- the first vertex

  length_ring : length (open_ring f) ≡ 2 * n
  unfolding open_numbers
  length_ring = length-map (open_numbers f) (of_bits binary64) ∙ length_numbersIn o (2 * n) (drop head_bytes f)

  module _ (some : 1 ≤ n) where
    abbrev later : List ℕ
    later = numbers_in o (2 * (n - 1)) (drop (number_bytes * 2) (drop head_bytes f))

    begins : open_ring f ≡ number_in f head_bytes ∷ number_in f (head_bytes + number_bytes) ∷ map (of_bits binary64) later
    unfolding open_numbers
    begins =
        let e : 2 * n ≡ 2 + 2 * (n - 1) = omega (arith, some) in
        ap (map (of_bits binary64))
        (ap (λ (k : ℕ). numbers_in o k (drop head_bytes f)) e
        ∙ numbers_add o 2 (2 * (n - 1)) (drop head_bytes f)
        ∙ ap (λ (l : List ℕ). l ++ later) (two head_bytes))

  -- ---- the file field by field

  module _ (bytes : Each Byte f) (c : Checked f) where
    enough : head_bytes ≤ length f
    enough = omega (arith, c.long)

    abbrev cs : List ℕ
    cs = all_numbers f

    written : (at : ℕ) → at + code_bytes ≤ head_bytes → written_as o code_bytes (code_in f at) ≡ take code_bytes (drop at f)
    unfolding code_in
    written at h = written_read o code_bytes (drop at f) (each_drop Byte at f bytes) (omega (arith, length-drop at f, enough))

    joined : (at : ℕ) → take code_bytes (drop at f) ++ drop (at + code_bytes) f ≡ drop at f
    joined at =
        ap (λ (l : List ℕ). take code_bytes (drop at f) ++ l) (sym (drop-drop code_bytes at f)) ∙ take-append-drop code_bytes (drop at f)

    -- a field of the layout, and what follows it
    field : (at k : ℕ) {q : List ℕ} → code_in f at ≡ k → at + code_bytes ≤ head_bytes → q ≡ drop (at + code_bytes) f
        → written_as o code_bytes k ++ q ≡ drop at f
    field at k e h r = ap₂ (λ (s t : List ℕ). s ++ t) (ap (written_as o code_bytes) (sym e) ∙ written at h) r ∙ joined at

    length_all : length cs ≡ 2 * code_in f points_at
    length_all = length_numbersIn o (2 * code_in f points_at) (drop head_bytes f)

    fits : number_bytes * (2 * code_in f points_at) ≡ length (drop head_bytes f)
    fits = omega (arith, length-drop head_bytes f, c.long)

    the_numbers : numbers_as o cs ≡ drop head_bytes f
    the_numbers =
        numbers_again o (2 * code_in f points_at) (drop head_bytes f) (each_drop Byte head_bytes f bytes) (omega (arith, fits))
        ∙ take_all (number_bytes * (2 * code_in f points_at)) (drop head_bytes f) (omega (arith, fits))

    laid_again : wkb_of o cs ≡ f
    laid_again =
        let p : length cs / 2 ≡ code_in f points_at = omega (arith, length_all) in
        let e3 : after_points o cs ≡ drop points_at f = field points_at (length cs / 2) (sym p) (omega arith) the_numbers in
        let e2 : after_one o cs ≡ drop rings_at f = field rings_at 1 c.one (omega arith) e3 in
        let e1 : written_as o code_bytes polygon_type ++ after_one o cs ≡ drop type_at f =
        field type_at polygon_type c.polygon (omega arith) e2 in
        file_is o cs
        ∙ ap₂ (λ (b : ℕ) (l : List ℕ). b ∷ l) (code_of_lem (get_or f 0 0) c.order) e1
        ∙ sym (drop-cons f 0 0 (omega (arith, enough)))

    -- ---- the whole

    patterns : Each Pattern cs
    patterns = numbers_lt o (2 * code_in f points_at) (drop head_bytes f) (each_drop Byte head_bytes f bytes) (omega (arith, fits))

    pub found : Drawing f
    unfolding closes
    found =
        let some : 1 ≤ code_in f points_at = omega (arith, c.least) in
        let all = floats_are some in
        let start = begins (omega (arith, c.least)) in
        let t : (coordinates (open_ring f) && coordinates (x ∷ y ∷ [])) ≡ true =
        sym (coordinates_append (open_ring f) (x ∷ y ∷ [])) ∙ ap coordinates (sym all) ∙ c.bounded in
        let q = both (eq (number_in f head_bytes) x) (eq (number_in f (head_bytes + number_bytes)) y) c.closed in
        let l = length_ring in
        let p : Polygon (open_ring f) =
        record { even = omega (arith, l); least = omega (arith, l, c.least); most = omega (arith, l, c.most) } in
        record {
          ring = open_ring f;
          x = x;
          y = y;
          order = o;
          formed = subst Formed all (formed_of cs);
          taken = taken_of (open_ring f) p (both (coordinates (open_ring f)) (coordinates (x ∷ y ∷ [])) t).0;
          closes_x = ap (λ (l : List Float). eq (get_or l 0 nan) x) start ∙ q.0;
          closes_y = ap (λ (l : List Float). eq (get_or l 1 nan) y) start ∙ q.1;
          file = ap (wkb_of o) (ap (map (to_bits binary64)) (sym all) ∙ bits_back cs patterns c.bounded) ∙ laid_again;
        }
