-- The first number of which a test holds, sought one by one and row by row. The invariant: from `from` on the test fails before i. Assumes nothing.
use Prim.Native.Nat.{ℕ, ◌+◌, ◌*◌, ◌-◌, ◌≤◌, ◌<◌}
use native.Mathlib.Omega.{arith}
use native.Mathlib.Nat.{eq-or-lt_of_le, mul-le-mul, mul-le-mul_right}
use native.Mathlib.Decide.{dec_le}
use mathlib.Core.Logic.{inl, inr}
use mathlib.Core.Path.{◌≡◌, refl, ◌∙◌}
use mathlib.Core.Bool.{Bool, true, false, ◌&&◌}
use mathlib.Core.List.{List}
use lib.Ieee.{Float}
use Rattle.plane.specs.Vector.{minus_of, parallel_of}
use Rattle.plane.specs.Segment.{near_segment_of}
use Rattle.plane.specs.declared.Point.{Point}
use Rattle.ring.specs.Ring.{count, point_at, next_of}
use Rattle.pairs.proofs.Numbers.{below, div_of, mod_of}
use Rattle.contacts.specs.Touching.{edge_end, edges_touch}
use Rattle.contacts.specs.Rows.{FirstFrom, on_edge, along_edge, on_edge_at, along_edge_at}

module _ (f : ℕ → Bool) (from n : ℕ) where
  pub record Sought (i : ℕ) : Type 0 where
    pub least : from ≤ i
    pub most : i ≤ n
    pub clear : (k : ℕ) → from ≤ k → k < i → f k ≡ false

  pub begun : from ≤ n → Sought from
  begun h = record { least = omega arith; most = h; clear = λ k l u. absurd (omega (arith, l, u)) }

  module _ {i : ℕ} (s : Sought i) where
    pub onward : i < n → f i ≡ false → Sought (i + 1)
    onward h e =
        record {
          least = omega (arith, s.least);
          most = omega arith;
          clear = λ k l u. elim (eq-or-lt_of_le {n = k} {m = i} (omega arith)) [ inl q ↦ rw q e | inr b ↦ s.clear k l b ];
        }

    pub found : i < n → f i ≡ true → FirstFrom f from n i
    found h e = record { least = s.least; most = s.most; clear = s.clear; hit = λ l. e }

    pub none_found : n ≤ i → FirstFrom f from n n
    none_found h =
        let e : i ≡ n = omega (arith, s.most) in
        record {
          least = omega (arith, s.least);
          most = omega arith;
          clear = λ k l u. s.clear k l (omega (arith, e));
          hit = λ l. absurd (omega (arith, l));
        }

-- one turn of `near_edge` and of `edge_along`
module _ (r : List Float) (tol : Float) (i : ℕ) where
  pub on_edge_lem : (p : Point) {a b : Point} {t : Bool} → a ≡ point_at r i → b ≡ point_at r (next_of i (count r)) → t ≡ near_segment_of p a b tol → on_edge p r tol i ≡ t
  unfolding on_edge edge_end
  on_edge_lem p e f h = rw (h, e, f) refl

  pub is_along : (a b : Point) {c d : Point} {s t u : Bool} → c ≡ point_at r i → d ≡ point_at r (next_of i (count r)) → s ≡ near_segment_of (point_at r i) a b tol → t ≡ near_segment_of d a b tol
      → u ≡ (parallel_of (minus_of b a) (minus_of d c) && (s && t)) → along_edge a b r tol i ≡ u
  unfolding along_edge edge_end edges_touch
  is_along a b e f g h q = rw (q, g, h, e, f) refl

-- rows of en numbers each, of which G i is row i
module _ (F : ℕ → Bool) (G : ℕ → ℕ → Bool) (vn en base : ℕ) (same : (i e : ℕ) → e < en → F (i * en + e) ≡ G i e) where
  module _ (i from : ℕ) (s : Sought F base (vn * en) (i * en + from)) (h : i < vn) where
    row_end : (i + 1) * en ≤ vn * en
    row_end = mul-le-mul_right en (omega arith)

    module _ {j : ℕ} (w : FirstFrom (G i) from en j) where
      along_row : Sought F base (vn * en) (i * en + j)
      along_row =
          record {
            least = omega (arith, s.least, w.least);
            most = omega (arith, row_end, w.most);
            clear = λ k l u. by k l u (dec_le (i * en + from) k);
          }
        where
          inside : (k : ℕ) → i * en + from ≤ k → k < i * en + j → F k ≡ false
          inside k g u =
              let e : i * en + (k - i * en) ≡ k = omega (arith, g) in
              rw (← e) (same i (k - i * en) (omega (arith, w.most, g, u)) ∙ w.clear (k - i * en) (omega (arith, g)) (omega (arith, g, u)))

          by : (k : ℕ) → base ≤ k → k < i * en + j → Dec (i * en + from ≤ k) → F k ≡ false
          by k l u (yes g) = inside k g u
          by k l u (no g) = s.clear k l (omega (arith, g))

      pub in_row : j < en → FirstFrom F base (vn * en) (i * en + j)
      in_row l = found F base (vn * en) along_row (omega (arith, row_end)) (same i j l ∙ w.hit l)

      pub next_row : en ≤ j → Sought F base (vn * en) ((i + 1) * en + 0)
      next_row g =
          let e : i * en + j ≡ (i + 1) * en + 0 = omega (arith, w.most) in
          rw (← e) along_row

-- the rows of the two scans
pub on_rows : (vs r : List Float) (tol : Float) (i e : ℕ) → e < count r → on_edge_at vs r tol (i * count r + e) ≡ on_edge (point_at vs i) r tol e
unfolding on_edge_at
on_rows vs r tol i e h = rw (div_of i (count r) e h, mod_of i (count r) e h) refl

pub along_rows : (st orb : List Float) (tol : Float) (i e : ℕ) → e < count orb
    → along_edge_at st orb tol (i * count orb + e) ≡ along_edge (point_at st i) (edge_end st i) orb tol e
unfolding along_edge_at
along_rows st orb tol i e h = rw (div_of i (count orb) e h, mod_of i (count orb) e h) refl

-- the row of an edge, by its ends
pub edged : (st orb : List Float) (tol : Float) (i : ℕ) {a b : Point} {from n j : ℕ} → a ≡ point_at st i → b ≡ point_at st (next_of i (count st))
    → FirstFrom (along_edge a b orb tol) from n j → FirstFrom (along_edge (point_at st i) (edge_end st i) orb tol) from n j
unfolding edge_end
edged st orb tol i e f w = rw (← e, ← f) w

-- the bounds of the rows
pub within_rows : (vn en v e : ℕ) → v < vn → e < en → v * en + e ≤ vn * en
within_rows vn en v e h k = omega (arith, below vn en v e h k)

pub past_rows : (vn en i from : ℕ) → vn ≤ i → vn * en ≤ i * en + from
past_rows vn en i from h = omega (arith, mul-le-mul_right en h)

pub small : (a b : ℕ) → a ≤ 256 → b ≤ 256 → a * b ≤ 65536
small a b h k = mul-le-mul {n₂ = 256} {m₂ = 256} h k

-- the three tests of `aligned`
never : (p : Bool) → false ≡ p && false
never true = refl
never false = refl

always : (p : Bool) → p ≡ p && true
always true = refl
always false = refl

module _ (a b c d : Point) (s t : Bool) where
  abbrev three : Bool
  three = parallel_of (minus_of b a) (minus_of d c) && (s && t)

  pub start_far : s ≡ false → false ≡ three
  start_far e = rw e (never (parallel_of (minus_of b a) (minus_of d c)))

  pub end_far : s ≡ true → t ≡ false → false ≡ three
  end_far e f = rw (e, f) (never (parallel_of (minus_of b a) (minus_of d c)))

  pub both_near : {u : Bool} → s ≡ true → t ≡ true → u ≡ parallel_of (minus_of b a) (minus_of d c) → u ≡ three
  both_near e f h = h ∙ (rw (e, f) (always (parallel_of (minus_of b a) (minus_of d c))))
