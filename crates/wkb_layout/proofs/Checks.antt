-- The checks of a file as what they hold of it, and that they go by what is read alone. Assumes nothing.
use Prim.Native.Nat.{ℕ, zero, suc, ◌+◌, ◌*◌, ◌≤◌}
use native.Mathlib.Omega.{arith}
use mathlib.Core.Path.{◌≡◌, refl, sym, ap, ◌∙◌}
use mathlib.Core.Bool.{Bool, true}
use mathlib.Core.List.{List, [], ◌∷◌, map}
use lib.ListN.{length, get_or, take, drop}
use lib.Dec.{leb, eqb}
use lib.Ieee.{binary64, of_bits}
use borrow.Author.Tests.{le-leb, leb-true, eq-eqb, eqb-true}
use Rattle.laws.proofs.Both.{both}
use Rattle.refusals.specs.Refusals.{refused_wkb, none, passed, first, first_of}
use Rattle.refusals.specs.Bounds.{coordinate, every, coordinates}
use Rattle.refusals.specs.Rings.{within}
use Rattle.refusals.specs.Refusals.{Told}
use Rattle.refusals.proofs.Counts.{within_true, is_within}
use Rattle.refusals.proofs.Sized.{row_parts, holds}
use Rattle.wkb_layout.specs.Layout.{number_bytes, point_bytes, type_at, rings_at, points_at, head_bytes, polygon_type, points_least, points_most, read_as, order_in, code_in, numbers_in}
use Rattle.wkb_layout.specs.Faults.{wkb_fault, numbers_check, closing_at, closes, wkb_check}
use Rattle.wkb_layout.specs.declared.Order.{Order}

held : (ok : Bool) (at : ℕ) → passed (wkb_fault ok at) ≡ true → ok ≡ true
held ok at h = holds ok refused_wkb at refl h

-- ---- the coordinates

-- the check of coordinates by their bit patterns, the first of them at the byte `at`
unfoldable patterns_check : ℕ → List ℕ → Told
patterns_check at [] = none
patterns_check at (c ∷ cs) = first_of (wkb_fault (coordinate (of_bits binary64 c)) at ∷ patterns_check (at + number_bytes) cs ∷ [])

by_patterns : (o : Order) (k at : ℕ) (f : List ℕ) → numbers_check o k at f ≡ patterns_check at (numbers_in o k f)
unfolding numbers_check patterns_check numbers_in
by_patterns o zero at f = refl
by_patterns o (suc k) at f =
    let here = wkb_fault (coordinate (of_bits binary64 (read_as o (take number_bytes f)))) at in
    ap (first here) (by_patterns o k (at + number_bytes) (drop number_bytes f))

patterns_pass : (at : ℕ) (cs : List ℕ) → coordinates (map (of_bits binary64) cs) ≡ true → patterns_check at cs ≡ none
unfolding patterns_check every
patterns_pass at [] h = refl
patterns_pass at (c ∷ cs) h =
    let p = both (coordinate (of_bits binary64 c)) (coordinates (map (of_bits binary64) cs)) h in
    rw p.0 (patterns_pass (at + number_bytes) cs p.1)

patterns_hold : (at : ℕ) (cs : List ℕ) → passed (patterns_check at cs) ≡ true → coordinates (map (of_bits binary64) cs) ≡ true
unfolding patterns_check every
patterns_hold at [] h = refl
patterns_hold at (c ∷ cs) h =
    let p = row_parts (wkb_fault (coordinate (of_bits binary64 c)) at) (patterns_check (at + number_bytes) cs) h in
    rw (held (coordinate (of_bits binary64 c)) at p.0) (patterns_hold (at + number_bytes) cs p.1)

-- ---- the whole

-- all coordinates of a file, those of the closing point last
abbrev pub all_numbers : List ℕ → List ℕ
all_numbers f = numbers_in (order_in f) (2 * code_in f points_at) (drop head_bytes f)

-- what a passed check tells
pub record Checked (f : List ℕ) : Type 0 where
  pub order : get_or f 0 0 ≤ 1
  pub polygon : code_in f type_at ≡ polygon_type
  pub one : code_in f rings_at ≡ 1
  pub least : points_least ≤ code_in f points_at
  pub most : code_in f points_at ≤ points_most
  pub long : length f ≡ head_bytes + point_bytes * code_in f points_at
  pub bounded : coordinates (map (of_bits binary64) (all_numbers f)) ≡ true
  pub closed : closes f ≡ true

module _ (f : List ℕ) where
  abbrev points : ℕ
  points = code_in f points_at

  abbrev numbers : Told
  numbers = numbers_check (order_in f) (2 * points) head_bytes (drop head_bytes f)

  numbers_are : numbers ≡ patterns_check head_bytes (all_numbers f)
  numbers_are = by_patterns (order_in f) (2 * points) head_bytes (drop head_bytes f)

  pub checked : passed (wkb_check f) ≡ true → Checked f
  unfolding wkb_check
  checked h =
      let v8 = wkb_fault (closes f) (closing_at f) in
      let v7 = first numbers v8 in
      let v6 = first (wkb_fault (eqb (length f) (head_bytes + point_bytes * points)) 0) v7 in
      let v5 = first (wkb_fault (within points_least points_most points) points_at) v6 in
      let v4 = first (wkb_fault (eqb (code_in f rings_at) 1) rings_at) v5 in
      let v3 = first (wkb_fault (eqb (code_in f type_at) polygon_type) type_at) v4 in
      let v2 = first (wkb_fault (leb (get_or f 0 0) 1) 0) v3 in
      let p1 = row_parts (wkb_fault (leb head_bytes (length f)) 0) v2 h in
      let p2 = row_parts (wkb_fault (leb (get_or f 0 0) 1) 0) v3 p1.1 in
      let p3 = row_parts (wkb_fault (eqb (code_in f type_at) polygon_type) type_at) v4 p2.1 in
      let p4 = row_parts (wkb_fault (eqb (code_in f rings_at) 1) rings_at) v5 p3.1 in
      let p5 = row_parts (wkb_fault (within points_least points_most points) points_at) v6 p4.1 in
      let p6 = row_parts (wkb_fault (eqb (length f) (head_bytes + point_bytes * points)) 0) v7 p5.1 in
      let p7 = row_parts numbers v8 p6.1 in
      let w = is_within points_least points_most points (held (within points_least points_most points) points_at p5.0) in
      record {
        order = leb-true (get_or f 0 0) 1 (held (leb (get_or f 0 0) 1) 0 p2.0);
        polygon = eqb-true (code_in f type_at) polygon_type (held (eqb (code_in f type_at) polygon_type) type_at p3.0);
        one = eqb-true (code_in f rings_at) 1 (held (eqb (code_in f rings_at) 1) rings_at p4.0);
        least = w.0;
        most = w.1;
        long = eqb-true (length f) (head_bytes + point_bytes * points) (held (eqb (length f) (head_bytes + point_bytes * points)) 0 p6.0);
        bounded = patterns_hold head_bytes (all_numbers f) (ap passed (sym numbers_are) ∙ p7.0);
        closed = held (closes f) (closing_at f) p7.1;
      }

  pub passes : Checked f → wkb_check f ≡ none
  unfolding wkb_check
  passes c =
      let n : numbers ≡ none = numbers_are ∙ patterns_pass head_bytes (all_numbers f) c.bounded in
      let t1 : leb head_bytes (length f) ≡ true = le-leb head_bytes (length f) (omega (arith, c.long)) in
      let t2 : leb (get_or f 0 0) 1 ≡ true = le-leb (get_or f 0 0) 1 c.order in
      let t3 : eqb (code_in f type_at) polygon_type ≡ true = eq-eqb (code_in f type_at) polygon_type c.polygon in
      let t4 : eqb (code_in f rings_at) 1 ≡ true = eq-eqb (code_in f rings_at) 1 c.one in
      let t5 : within points_least points_most points ≡ true = within_true points_least points_most points c.least c.most in
      let t6 : eqb (length f) (head_bytes + point_bytes * points) ≡ true = eq-eqb (length f) (head_bytes + point_bytes * points) c.long in
      rw (t1, t2, t3, t4, t5, t6, n, c.closed) refl

-- the check goes by what is read: two files of which the same is read have the same first fault
pub same_check : (f g : List ℕ) → length f ≡ length g → get_or f 0 0 ≤ 1 → get_or g 0 0 ≤ 1 → code_in f type_at ≡ code_in g type_at
    → code_in f rings_at ≡ code_in g rings_at → code_in f points_at ≡ code_in g points_at → all_numbers f ≡ all_numbers g → closes f ≡ closes g
    → wkb_check f ≡ wkb_check g
unfolding wkb_check
same_check f g l a b t r p n c =
    let m : numbers f ≡ numbers g = numbers_are f ∙ ap (patterns_check head_bytes) n ∙ sym (numbers_are g) in
    let ta : leb (get_or f 0 0) 1 ≡ true = le-leb (get_or f 0 0) 1 a in
    let tb : leb (get_or g 0 0) 1 ≡ true = le-leb (get_or g 0 0) 1 b in
    rw (m, ta, tb, l, t, r, c, p) refl
