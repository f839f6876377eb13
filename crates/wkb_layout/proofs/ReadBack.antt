-- What is read of a file laid out in either byte order: the order, the fields, and the coordinates' bit patterns. Assumes nothing.
use Prim.Native.Nat.{ℕ, ◌+◌, ◌-◌, ◌*◌, ◌/◌, ◌^◌, ◌≤◌, ◌<◌}
use native.Mathlib.Omega.{arith}
use mathlib.Core.Path.{◌≡◌, refl, sym, ap, ap₂, ◌∙◌}
use mathlib.Core.Bool.{Bool, ◌&&◌, cond}
use mathlib.Core.List.{List, ◌∷◌, ◌++◌, append_assoc}
use lib.ListN.{length, get_or, take, drop, length-append}
use lib.Seq.{drop-drop}
use lib.Dec.{eqb}
use lib.Ieee.{Float, binary64, of_bits, eq}
use Rattle.number_bytes.specs.Bytes.{Each}
use Rattle.wkb_layout.specs.Layout.{code_bytes, number_bytes, type_at, rings_at, points_at, head_bytes, polygon_type, code_of, written_as, read_as, numbers_as, wkb_of, order_in, code_in, bits_in, numbers_in}
use Rattle.wkb_layout.specs.Faults.{closing_at, number_in, closes}
use Rattle.wkb_layout.specs.declared.Order.{Order}
use Rattle.wkb_layout.specs.declared.Order.TheVariants.{Big, Little}
use Rattle.wkb_layout.proofs.Ordered.{length_written, take_written, drop_written}
use Rattle.wkb_layout.proofs.Numbers.{Pattern, length_numbersAs, numbers_back, number_back}

order_is : (o : Order) → cond (eqb (code_of o) 0) Big Little ≡ o
order_is Big = refl
order_is Little = refl

code_small : (o : Order) → code_of o ≤ 1
code_small Big = omega arith
code_small Little = omega arith

module _ (o : Order) (cs : List ℕ) where
  abbrev pub file : List ℕ
  file = wkb_of o cs

  abbrev pub points : ℕ
  points = length cs / 2

  -- ---- what follows each field

  abbrev pub after_points : List ℕ
  after_points = written_as o code_bytes points ++ numbers_as o cs

  abbrev pub after_one : List ℕ
  after_one = written_as o code_bytes 1 ++ after_points

  pub file_is : file ≡ code_of o ∷ (written_as o code_bytes polygon_type ++ after_one)
  unfolding wkb_of
  file_is =
      let w = written_as o code_bytes in
      ap (λ (l : List ℕ). code_of o ∷ l)
      (append_assoc (w polygon_type) (w 1 ++ w points) (numbers_as o cs)
      ∙ ap (λ (l : List ℕ). w polygon_type ++ l) (append_assoc (w 1) (w points) (numbers_as o cs)))

  drop_type : drop rings_at file ≡ after_one
  drop_type = ap (drop rings_at) file_is ∙ drop_written o code_bytes polygon_type after_one

  drop_one : drop points_at file ≡ after_points
  drop_one = sym (drop-drop code_bytes rings_at file) ∙ ap (drop code_bytes) drop_type ∙ drop_written o code_bytes 1 after_points

  drop_head : drop head_bytes file ≡ numbers_as o cs
  drop_head =
      sym (drop-drop code_bytes points_at file) ∙ ap (drop code_bytes) drop_one ∙ drop_written o code_bytes points (numbers_as o cs)

  code_and : (n : ℕ) (q : List ℕ) → length (written_as o code_bytes n ++ q) ≡ code_bytes + length q
  code_and n q = omega (arith, length-append (written_as o code_bytes n) q, length_written o code_bytes n)

  pub length_file : length file ≡ head_bytes + number_bytes * length cs
  length_file =
      ap length file_is
      ∙ omega (arith, code_and polygon_type after_one, code_and 1 after_points, code_and points (numbers_as o cs), length_numbersAs o cs)

  -- ---- the fields

  order_back : order_in file ≡ o
  unfolding wkb_of
  order_back = order_is o

  pub order_small : get_or file 0 0 ≤ 1
  unfolding wkb_of
  order_small = code_small o

  code_back : (at n : ℕ) (q : List ℕ) → drop at file ≡ written_as o code_bytes n ++ q → n < 256 ^ code_bytes → code_in file at ≡ n
  unfolding code_in
  code_back at n q e h =
      ap₂ (λ (p : Order) (l : List ℕ). read_as p (take code_bytes l)) order_back e ∙ take_written o code_bytes n q h

  pub type_back : code_in file type_at ≡ polygon_type
  type_back = code_back type_at polygon_type after_one (ap (drop type_at) file_is) (omega arith)

  pub rings_back : code_in file rings_at ≡ 1
  rings_back = code_back rings_at 1 after_points drop_type (omega arith)

  module _ (few : points < 256 ^ code_bytes) where
    pub points_back : code_in file points_at ≡ points
    points_back = code_back points_at points (numbers_as o cs) drop_one few

  -- ---- the coordinates

  module _ (fit : Each Pattern cs) where
    pub numbers_in_lem : (k : ℕ) → k ≤ length cs → numbers_in (order_in file) k (drop head_bytes file) ≡ take k cs
    numbers_in_lem k h = ap₂ (λ (p : Order) (l : List ℕ). numbers_in p k l) order_back drop_head ∙ numbers_back o k cs fit h

    number_in_lem : (at i : ℕ) → at ≡ head_bytes + number_bytes * i → number_in file at ≡ of_bits binary64 (get_or cs i 0)
    unfolding bits_in
    number_in_lem at i e =
        let d : drop at file ≡ drop (number_bytes * i) (numbers_as o cs) =
        ap (λ (j : ℕ). drop j file) e ∙ sym (drop-drop (number_bytes * i) head_bytes file) ∙ ap (drop (number_bytes * i)) drop_head in
        ap (of_bits binary64) (ap₂ (λ (p : Order) (l : List ℕ). read_as p (take number_bytes l)) order_back d ∙ number_back o cs i fit)

    -- the closing point equals the first, by the list's numbers
    pub closes_back : (few : points < 256 ^ code_bytes) →
        let at : ℕ → Float = λ i. of_bits binary64 (get_or cs i 0) in
        closes file ≡ (eq (at 0) (at (2 * (points - 1))) && eq (at 1) (at (2 * (points - 1) + 1)))
    unfolding closes
    closes_back few =
        let p = points_back few in
        let last = 2 * (points - 1) in
        let c : closing_at file ≡ head_bytes + number_bytes * last = omega (arith, p) in
        let d : closing_at file + number_bytes ≡ head_bytes + number_bytes * (last + 1) = omega (arith, p) in
        ap₂ (λ (a b : Bool). a && b)
        (ap₂ eq (number_in_lem head_bytes 0 (omega arith)) (number_in_lem (closing_at file) last c))
        (ap₂ eq (number_in_lem (head_bytes + number_bytes) 1 (omega arith)) (number_in_lem (closing_at file + number_bytes) (last + 1) d))
