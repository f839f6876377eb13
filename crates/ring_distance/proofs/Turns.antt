-- One edge after the other: the smallest of the squares so far is the square of the smallest distance so far, edges that are not nearer leave
-- it as it is, and the second way may go on from what the first has found. What the loops over edges keep is `Carries`. Assumes nothing.
use Prim.Native.Nat.{ℕ, zero, suc, ◌+◌, ◌≤◌, ◌<◌}
use mathlib.Core.Path.{◌≡◌, refl, sym, ap, ◌∙◌}
use mathlib.Core.Logic.{inl, inr}
use mathlib.Core.Bool.{Bool, true, false, cond, true≢false}
use mathlib.Core.List.{List}
use native.Mathlib.Omega.{arith}
use native.Mathlib.Nat.{le_refl, eq-or-lt_of_le, mod_self}
use native.Mathlib.Numerals.{add-one}
use lib.Ieee.{Float, inf, lt, is_nan}
use lib.Ieee.Fits.{add-fits}
use Rattle.laws.proofs.Order.{le_of_lt, lt_le, lt_of_infinity, lt_weave}
use Rattle.scalar.specs.Scalar.{smaller_of}
use Rattle.square_root.proofs.Compare.{sqrt_infinity}
use Rattle.plane.specs.Vector.{minus_of, dot_of, root}
use Rattle.plane.specs.Segment.{clamped_foot, ring_foot_of, segment_distance_of}
use Rattle.plane.specs.declared.Point.{Point}
use Rattle.ring.specs.Ring.{count, point_at, next_of}
use Rattle.ring_distance.specs.Distance.{edge_distance, to_ring, one_way, ring_distance_of}
use Rattle.ring_distance.specs.Squared.{foot_along, squared_from, squared_distance, nearer_of, squared_to, squared_way, Carries, Squares}
use Rattle.ring_distance.proofs.Signs.{squares_sign}
use Rattle.ring_distance.proofs.Roots.{infinite_square, nearer_squares, nearer_root}

-- ---- squares of distances

-- the distance is the root of the squared distance
root_of_squared : (p a b : Point) → root (squared_distance p a b) ≡ segment_distance_of p a b
unfolding segment_distance_of ring_foot_of clamped_foot squared_from foot_along minus_of dot_of
root_of_squared p a b = refl

to : {s r q : Float} → Squares s r → r ≡ q → Squares s q
to S e = record { square = S.square; is = S.is ∙ e }

-- a segment more
with_segment : (p a b : Point) {s r : Float} → Squares s r → Squares (nearer_of s (squared_distance p a b)) (smaller_of r (segment_distance_of p a b))
unfolding squared_from dot_of
with_segment p a b S =
    to (nearer_squares _ _ S.square (add-fits _ _ _) (squares_sign _ _)) (rw (S.is, root_of_squared p a b))

squares_to : (p : Point) (r : List Float) {s q : Float} → Squares s q → (k : ℕ) → Squares (squared_to p r s k) (to_ring p r q k)
unfolding squared_to to_ring edge_distance
squares_to p r S zero = S
squares_to p r S (suc k) = with_segment p (point_at r k) (point_at r (next_of k (count r))) (squares_to p r S k)

pub squares_way : (a b : List Float) (k : ℕ) → Squares (squared_way a b (inf false) k) (one_way a b k)
unfolding squared_way one_way
squares_way a b zero = record { square = infinite_square; is = sqrt_infinity }
squares_way a b (suc k) = squares_to (point_at a k) b (squares_way a b k) (count b)

-- ---- the second way goes on from the first

together : (x y s : Float) → is_nan y ≡ false → nearer_of (nearer_of x y) s ≡ nearer_of x (nearer_of y s)
together x y s n = by (lt y x) refl (lt s y) refl
  where
    by : (b : Bool) → lt y x ≡ b → (d : Bool) → lt s y ≡ d → nearer_of (cond b y x) s ≡ nearer_of x (cond d s y)
    by true h true k = rw (k, lt_le s y x k (le_of_lt y x h))
    by true h false k = rw (h, k)
    by false h true k = refl
    by false h false k = rw (h, above (lt s x) refl)
      where
        above : (d : Bool) → lt s x ≡ d → lt s x ≡ false
        above true g = absurd (true≢false (sym (lt_weave s x y n g h) ∙ k))
        above false g = g

module _ (a b : List Float) (x : Float) where
  to_apart : (p : Point) {y q : Float} → Squares y q → (k : ℕ) → squared_to p b (nearer_of x y) k ≡ nearer_of x (squared_to p b y k)
  unfolding squared_to
  to_apart p R zero = refl
  to_apart p {y} R (suc k) =
      let s = squared_distance p (point_at b k) (point_at b (next_of k (count b))) in
      ap (λ (z : Float). nearer_of z s) (to_apart p R k) ∙ together x (squared_to p b y k) s (squares_to p b R k).square.number

  way_apart : (k : ℕ) → squared_way a b (nearer_of x (inf false)) k ≡ nearer_of x (squared_way a b (inf false) k)
  unfolding squared_way
  way_apart zero = refl
  way_apart (suc k) = ap (λ (z : Float). squared_to (point_at a k) b z (count b)) (way_apart k) ∙ to_apart (point_at a k) (squares_way a b k) (count b)

  from_found : (k : ℕ) → squared_way a b x k ≡ nearer_of x (squared_way a b (inf false) k)
  from_found k = ap (λ (z : Float). squared_way a b z k) (rw (lt_of_infinity x)) ∙ way_apart k

pub both_ways : (a b : List Float) {s t : Float} → s ≡ squared_way a b (inf false) (count a) → t ≡ squared_way b a s (count b) → root t ≡ ring_distance_of a b
unfolding ring_distance_of
both_ways a b e f =
    rw (f, e, from_found b a (squared_way a b (inf false) (count a)) (count b)) (nearer_root (squares_way a b (count a)) (squares_way b a (count b)))

-- ---- what the loops keep

module _ (p : Point) (r : List Float) where
  pub none_taken : (e : ℕ) (least : Float) → Carries p r e e least least
  none_taken e least before h = h

  -- an edge more
  pub one_taken : (from e : ℕ) (least : Float) {a b : Point} {s t : Float} → Carries p r from e least s
      → a ≡ point_at r e → b ≡ point_at r (next_of e (count r)) → t ≡ nearer_of s (squared_distance p a b) → Carries p r from (e + 1) least t
  unfolding squared_to
  one_taken from e least {a} {b} {s} C ea eb h before k =
      let more : nearer_of s (squared_distance p a b) ≡ squared_to p r before (suc e) = rw (ea, eb, C before k) in
      h ∙ more ∙ ap (squared_to p r before) (sym (add-one e))

  -- the last one
  pub last_taken : (e : ℕ) (before : Float) {a b : Point} {s t : Float} → e < count r → count r ≤ e + 1 → Carries p r 0 e before s
      → a ≡ point_at r e → b ≡ point_at r 0 → t ≡ nearer_of s (squared_distance p a b) → t ≡ squared_to p r before (count r)
  unfolding squared_to
  last_taken e before l m C ea eb h =
      let n : e + 1 ≡ count r = omega arith in
      let around : next_of e (count r) ≡ 0 = rw n (mod_self _) in
      one_taken 0 e before C ea (eb ∙ ap (point_at r) (sym around)) h before refl ∙ ap (squared_to p r before) n

  -- edges that are not nearer
  pub passed : (from to : ℕ) (least : Float) → from ≤ to
      → ((e : ℕ) → from ≤ e → e < to → lt (squared_distance p (point_at r e) (point_at r (next_of e (count r)))) least ≡ false)
      → Carries p r from to least least
  unfolding squared_to
  passed from to least l far before h = go to l (le_refl to)
    where
      one : (e : ℕ) → from ≤ e → e < to → least ≡ squared_to p r before e → least ≡ squared_to p r before (suc e)
      one e a b q = rw (← q, far e a b)

      go : (k : ℕ) → from ≤ k → k ≤ to → least ≡ squared_to p r before k
      go zero a b = let z : from ≡ 0 = omega arith in h ∙ ap (squared_to p r before) z
      go (suc k) a b =
          elim (eq-or-lt_of_le a) [
            | inl z ↦ h ∙ ap (squared_to p r before) z
            | inr u ↦ one k (omega arith) (omega arith) (go k (omega arith) (omega arith))
          ]

-- a vertex more
pub vertex_taken : (a b : List Float) (before : Float) (i : ℕ) {p : Point} {s t : Float} → s ≡ squared_way a b before i → p ≡ point_at a i
    → t ≡ squared_to p b s (count b) → t ≡ squared_way a b before (i + 1)
unfolding squared_way
vertex_taken a b before i {p} {s} e f g =
    let more : squared_to p b s (count b) ≡ squared_way a b before (suc i) = rw (e, f) in
    g ∙ more ∙ ap (squared_way a b before) (sym (add-one i))

-- and no more
pub at_end : (f : ℕ → Float) {e n : ℕ} {s : Float} → s ≡ f e → e ≤ n → n ≤ e → s ≡ f n
at_end f {e} {n} q l m = let z : e ≡ n = omega arith in q ∙ ap f z
