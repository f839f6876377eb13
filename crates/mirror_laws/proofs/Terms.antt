-- The terms that `signed_area2` adds up for a mirrored ring are those of the ring, bit for bit, from the other end, and last the one that
-- closes the ring. What rounding makes of the two sums may differ. Assumes nothing.
use Prim.Native.Nat.{ℕ, zero, suc, ◌+◌, ◌*◌, ◌-◌, ◌%◌}
use native.Mathlib.Omega.{arith}
use native.Mathlib.Nat.{add_comm, mul_comm, mod-eq_of_lt, mod_self}
use mathlib.Core.Path.{◌≡◌, refl, sym, ap, ap₂, ◌∙◌}
use mathlib.Core.Bool.{Bool, true, false, cond}
use mathlib.Core.List.{List, [], ◌∷◌, ◌++◌}
use lib.ListN.{length, get_or, get_or-append}
use lib.Seq.{get_or-append-add}
use lib.Dec.{ltb}
use lib.Ieee.{Float, nan, inf, fin, binary64, up, down, round, sum, add, sub, neg}
use borrow.Author.Tests.{ltb-true, ltb-false}
use Rattle.scalar.specs.Float.{◌⊕◌, ◌⊖◌, ◌⊗◌}
use Rattle.plane.specs.Vector.{point}
use Rattle.plane.specs.declared.Point.{Point}
use Rattle.ring.specs.Ring.{count, point_at, next_of}
use Rattle.ring_copies.specs.Copies.{mirrored}
use Rattle.signed_area.specs.Area.{term_of}
use Rattle.mirror_laws.specs.Mirrored.{mirrored_point}
use Rattle.mirror_laws.proofs.Twice.{neg_neg, length_mirrored}
use Rattle.mirror_laws.proofs.Opposite.{one_sign, plus_minus, minus_plus, mul_neg}

-- ---- a sum turned round

both_ways : (a b c : ℕ) → sum binary64 false a true b c ≡ sum binary64 true b false a c
both_ways a b c = plus_minus a b c ∙ by (ltb a b) refl (ltb b a) refl ∙ sym (minus_plus b a c)
  where
    by : (p : Bool) → ltb a b ≡ p → (q : Bool) → ltb b a ≡ q
        → cond p (round binary64 true (b - a) c) (round binary64 false (a - b) c) ≡ cond q (round binary64 false (a - b) c)
        (round binary64 p (b - a) c)
    by true h true k = let l = ltb-true a b h in let m = ltb-true b a k in absurd (omega arith)
    by true h false k = refl
    by false h true k = refl
    by false h false k =
        let l = ltb-false a b h in
        let m = ltb-false b a k in
        let e : a - b ≡ b - a = omega arith in
        ap (λ (n : ℕ). round binary64 false n c) e

sum_back : (s t : Bool) (a b c : ℕ) → sum binary64 s a t b c ≡ sum binary64 t b s a c
sum_back false false a b c = one_sign false a b c ∙ ap (λ (n : ℕ). round binary64 false n c) (add_comm a b) ∙ sym (one_sign false b a c)
sum_back true true a b c = one_sign true a b c ∙ ap (λ (n : ℕ). round binary64 true n c) (add_comm a b) ∙ sym (one_sign true b a c)
sum_back false true a b c = both_ways a b c
sum_back true false a b c = sym (both_ways b a c)

add_back : (x y : Float) → x ⊕ y ≡ y ⊕ x
unfolding add
add_back nan nan = refl
add_back nan (inf t) = refl
add_back nan (fin t n d) = refl
add_back (inf s) nan = refl
add_back (inf true) (inf true) = refl
add_back (inf true) (inf false) = refl
add_back (inf false) (inf true) = refl
add_back (inf false) (inf false) = refl
add_back (inf s) (fin t n d) = refl
add_back (fin s m e) nan = refl
add_back (fin s m e) (inf t) = refl
add_back (fin s m e) (fin t n d) =
    sum_back s t (m * up e * down d) (n * up d * down e) (down e * down d)
    ∙ ap (λ (c : ℕ). sum binary64 t (n * up d * down e) s (m * up e * down d) c) (mul_comm (down e) (down d))

-- the term of an edge, and of the mirrored edge, which runs the other way
edge_mirrored : (p q : Point) → neg q.x ⊗ p.y ⊖ neg p.x ⊗ q.y ≡ p.x ⊗ q.y ⊖ q.x ⊗ p.y
unfolding sub
edge_mirrored p q =
    rw (mul_neg q.x p.y, mul_neg p.x q.y, neg_neg (p.x ⊗ q.y)) (add_back (neg (q.x ⊗ p.y)) (p.x ⊗ q.y))

-- ---- the vertices of a mirrored ring, from the other end

vertex_mirrored : (r : List Float) (i j : ℕ) → length r % 2 ≡ 0 → i + j + 1 ≡ count r → point_at (mirrored r) i ≡ mirrored_point (point_at r j)
unfolding mirrored point_at
vertex_mirrored [] i j h e = absurd (omega arith)
vertex_mirrored (x ∷ []) i j h e = absurd (omega arith)
vertex_mirrored (x ∷ y ∷ r) i zero h e =
    let m = mirrored r in
    let n : length m ≡ length r = length_mirrored r (omega arith) in
    let a : 2 * i ≡ length m + 0 = omega arith in
    let b : 2 * i + 1 ≡ length m + 1 = omega arith in
    ap₂ point
    (ap (λ (k : ℕ). get_or (m ++ (neg x ∷ y ∷ [])) k nan) a ∙ get_or-append-add m (neg x ∷ y ∷ []) 0 nan)
    (ap (λ (k : ℕ). get_or (m ++ (neg x ∷ y ∷ [])) k nan) b ∙ get_or-append-add m (neg x ∷ y ∷ []) 1 nan)
vertex_mirrored (x ∷ y ∷ r) i (suc j) h e =
    let m = mirrored r in
    let n : length m ≡ length r = length_mirrored r (omega arith) in
    let c : 2 * suc j ≡ suc (suc (2 * j)) = omega arith in
    let d : suc (suc (2 * j)) + 1 ≡ suc (suc (2 * j + 1)) = omega arith in
    let z = vertex_mirrored r i j (omega arith) (omega arith) in
    rw (c, d)
    (ap₂ point (get_or-append m (neg x ∷ y ∷ []) nan (2 * i) (omega arith))
    (get_or-append m (neg x ∷ y ∷ []) nan (2 * i + 1) (omega arith))
    ∙ z)

module _ (r : List Float) (even : length r % 2 ≡ 0) where
  same_count : count (mirrored r) ≡ count r
  same_count = rw (length_mirrored r even) refl

  -- The term i of the mirrored ring is the term j of the ring, where i and j are so far from the two ends.
  pub term_mirrored : (i j : ℕ) → i + j + 2 ≡ count r → term_of (mirrored r) i ≡ term_of r j
  unfolding term_of
  term_mirrored i j e =
      let a : next_of i (count r) ≡ i + 1 = mod-eq_of_lt (omega arith) in
      let b : next_of j (count r) ≡ j + 1 = mod-eq_of_lt (omega arith) in
      rw (same_count, a, b, vertex_mirrored r i (j + 1) even (omega arith), vertex_mirrored r (i + 1) j even (omega arith))
      (edge_mirrored (point_at r j) (point_at r (j + 1)))

  -- The edge that closes the ring is last on both sides.
  pub last_term_mirrored : (i : ℕ) → i + 1 ≡ count r → term_of (mirrored r) i ≡ term_of r i
  unfolding term_of
  last_term_mirrored i e =
      let a : next_of i (count r) ≡ 0 = rw e (mod_self _) in
      rw (same_count, a, vertex_mirrored r i 0 even (omega arith), vertex_mirrored r 0 i even (omega arith))
      (edge_mirrored (point_at r i) (point_at r 0))
