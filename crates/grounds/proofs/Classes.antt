-- A computed hit is too near, between or too far, and never two of them; of a call that is not refused it is one of them, so the three counts come to
-- the count of all hits. For no distance is a NaN, and neither is the limit. Assumes nothing.
use Prim.Native.Nat.{ℕ, zero, suc, ◌+◌, ◌-◌, ◌*◌, ◌/◌, ◌^◌, compare}
use mathlib.Core.Path.{◌≡◌, refl, sym, ap, ◌∙◌}
use mathlib.Core.Logic.{inl, inr}
use mathlib.Core.Bool.{Bool, true, false, not, ◌&&◌, cond, true≢false}
use mathlib.Core.List.{List}
use lib.Dec.{eqb}
use lib.Ieee.{Float, nan, inf, fin, Format, prec, low, size, nearest, binary64, up, down, is_nan, lt, le, eq, neg, add, mul, sub, of_bits}
use Rattle.laws.proofs.Both.{both}
use Rattle.laws.proofs.Order.{no_nan, total, clash, not_less}
use Rattle.laws.proofs.Plain.{Plain, infinite, number, round_plain, units_plain, sum_plain}
use Rattle.laws.proofs.Rounding.{Rounds, upward, downward, round_minus, finite_sum}
use Rattle.laws.proofs.Turns.{tally_three}
use Rattle.scalar.specs.Float.{◌⊖◌, ◌⊘◌, f0}
use Rattle.scalar.specs.Scalar.{abs_of, ahead, or_number, larger_of}
use Rattle.square_root.specs.Root.{isqrt, rooted, sqrt_of}
use Rattle.plane.specs.Vector.{minus_of, cross_of, dot_of, length_of}
use Rattle.plane.specs.declared.Point.{Point}
use Rattle.ring.specs.Ring.{count, point_at, next_of}
use Rattle.refusals.specs.Refusals.{passed, first}
use Rattle.refusals.specs.Bounds.{finite, finite_point, tolerance_ok}
use Rattle.refusals.specs.Screens.{wrong_position, wrong_tolerance}
use Rattle.refusals.specs.Rows.{of_two_polygons, of_moving}
use Rattle.refusals.proofs.Sized.{row_parts, holds}
use Rattle.pairs.specs.declared.Pair.{Pair}
use Rattle.collision.specs.Ray.{ray_within, ray_of, edge_ray}
use Rattle.collision.specs.Check.{back_of, sweep_of}
use Rattle.collision.specs.Nearest.{pair_no, scans, ray_at, Meets}
use Rattle.collision.specs.declared.Sweep.{Sweep}
use Rattle.std.specs.Prelude.{Option, Some, None}
use Rattle.grounds.specs.Classes.{too_near, in_between, too_far, hit_is, hit_at, how_many}
use Rattle.grounds.specs.Grounds.{any}

pub no_bool : {A : Type 0} → true ≡ false → A
no_bool e = absurd (true≢false e)

-- ---- a hit's distance is no NaN

-- what is not below a number is none
above_real : (a d : Float) → le a d ≡ true → is_nan d ≡ false
unfolding is_nan
above_real a nan h = absurd (no_nan a (rw h tt))
above_real a (inf s) h = refl
above_real a (fin s m e) h = refl

either_real : (b : Bool) (x y : Float) → is_nan x ≡ false → is_nan y ≡ false → is_nan (cond b x y) ≡ false
either_real true x y h k = h
either_real false x y h k = k

larger_real : (t : Float) → is_nan t ≡ false → is_nan (larger_of t f0) ≡ false
unfolding is_nan larger_of or_number of_bits
larger_real nan h = no_bool h
larger_real (inf s) h = either_real (ahead (inf s) f0) f0 (inf s) refl refl
larger_real (fin s m e) h = either_real (ahead (fin s m e) f0) f0 (fin s m e) refl refl

within_real : (t u tol d : Float) → ray_within t u tol ≡ Some d → is_nan d ≡ false
unfolding ray_within
within_real t u tol d h = go (le (neg tol) t) _ refl h
  where
    go : (a b : Bool) → le (neg tol) t ≡ a → cond (a && b) (Some (larger_of t f0)) None ≡ Some d → is_nan d ≡ false
    go false b x q = no_bool (let z : true ≡ false = cc in z)
    go true false x q = no_bool (let z : true ≡ false = cc in z)
    go true true x q =
        let same : larger_of t f0 ≡ d = cc in
        rw (← same) (larger_real t (above_real (neg tol) t x))

or_miss : (b : Bool) (t u tol d : Float) → cond b None (ray_within t u tol) ≡ Some d → is_nan d ≡ false
or_miss true t u tol d h = no_bool (let z : true ≡ false = cc in z)
or_miss false t u tol d h = within_real t u tol d h

edge_real : (o d : Point) (r : List Float) (e : ℕ) (tol far : Float) → edge_ray o d r e tol ≡ Some far → is_nan far ≡ false
unfolding edge_ray ray_of
edge_real o d r e tol far h =
    let p = point_at r e in
    let seg = minus_of (point_at r (next_of e (count r))) p in
    let den = cross_of d seg in
    let diff = minus_of p o in
    or_miss (lt (abs_of den) tol) (cross_of diff seg ⊘ den) (cross_of diff d ⊘ den) tol far h

module _ (st orb : List Float) (move : Point) (tol : Float) where
  pub distance_real : (p : Pair) (d : Float) → ray_at st orb move tol p ≡ Some d → is_nan d ≡ false
  unfolding ray_at
  distance_real p d h = go (eqb p.kind 0) h
    where
      go : (b : Bool)
          → cond b (edge_ray (point_at orb p.orbiting) (sweep_of move tol).dir st p.stationary tol)
          (edge_ray (point_at st p.stationary) (back_of (sweep_of move tol)).dir orb p.orbiting tol)
          ≡ Some d
          → is_nan d ≡ false
      go true k = edge_real (point_at orb p.orbiting) (sweep_of move tol).dir st p.stationary tol d k
      go false k = edge_real (point_at st p.stationary) (back_of (sweep_of move tol)).dir orb p.orbiting tol d k

-- ---- the limit is no NaN, for a move and a tolerance that are taken

finite_square : (x : Float) → finite x ≡ true → Plain (mul binary64 x x)
unfolding finite mul
finite_square nan h = no_bool (sym h)
finite_square (inf s) h = no_bool (sym h)
finite_square (fin true m e) h = round_plain binary64 (m * up e * (m * up e)) (down e * down e)
finite_square (fin false m e) h = round_plain binary64 (m * up e * (m * up e)) (down e * down e)

rooted_plain : (f : Format) (n : ℕ) → Plain (rooted f n)
unfolding rooted
rooted_plain f n =
    let k = size (isqrt n) - prec f in
    let q = isqrt n / 2 ^ k in
    units_plain f (nearest q (compare (4 * n) ((2 * q + 1) * (2 * q + 1) * 4 ^ k))) k

root_plain : (f : Format) {x : Float} → Plain x → Plain (sqrt_of f x)
unfolding sqrt_of
root_plain f infinite = infinite
root_plain f (number zero e) = number zero e
root_plain f (number (suc m) e) = rooted_plain f (suc m * up e * 4 ^ low f / down e)

length_plain : (move : Point) → finite_point move ≡ true → Plain (length_of move)
unfolding length_of dot_of
length_plain move h =
    let f = both (finite move.x) (finite move.y) h in
    root_plain binary64 (sum_plain (finite_square move.x f.0) (finite_square move.y f.1))

plain_real : {x : Float} → Plain x → (is_nan x ≡ false) × (is_nan (neg x) ≡ false)
unfolding is_nan neg
plain_real infinite = (refl, refl)
plain_real (number m e) = (refl, refl)

rounds_real : {x : Float} {p n c : ℕ} → Rounds binary64 x p n c → is_nan x ≡ false
rounds_real (upward p n c u h) = (plain_real (round_plain binary64 u c)).0
rounds_real (downward p n c u h) = rw (round_minus binary64 u c) (plain_real (round_plain binary64 u c)).1

-- above 0 and at most 1 is a number
tolerance_finite : (t : Float) → tolerance_ok t ≡ true → finite t ≡ true
unfolding finite lt le eq of_bits
tolerance_finite nan h = h
tolerance_finite (inf true) h = h
tolerance_finite (inf false) h = h
tolerance_finite (fin s m e) h = refl

less_real : {x : Float} → Plain x → (t : Float) → finite t ≡ true → is_nan (x ⊖ t) ≡ false
unfolding finite is_nan sub add neg
less_real infinite nan h = no_bool (sym h)
less_real infinite (inf s) h = no_bool (sym h)
less_real infinite (fin s m e) h = refl
less_real (number n d) nan h = no_bool (sym h)
less_real (number n d) (inf s) h = no_bool (sym h)
less_real (number n d) (fin s m e) h = rounds_real (finite_sum binary64 false n d (not s) m e)

finite_real : (t : Float) → finite t ≡ true → is_nan t ≡ false
unfolding finite is_nan
finite_real nan h = no_bool (sym h)
finite_real (inf s) h = refl
finite_real (fin s m e) h = refl

-- what a call that is not refused is lent beside its polygons
taken : (st orb : List Float) (move : Point) (tol : Float) → passed (of_moving st orb move tol) ≡ true → (finite_point move ≡ true) × (tolerance_ok tol ≡ true)
unfolding of_moving
taken st orb move tol h =
    let p = (row_parts (of_two_polygons st orb) (first (wrong_position move) (wrong_tolerance tol)) h).1 in
    let q = row_parts (wrong_position move) (wrong_tolerance tol) p in
    (holds (finite_point move) 2 0 refl q.0, holds (tolerance_ok tol) 3 0 refl q.1)

pub limit_real : (st orb : List Float) (move : Point) (tol : Float) → passed (of_moving st orb move tol) ≡ true → is_nan (length_of move ⊖ tol) ≡ false
limit_real st orb move tol h =
    let t = taken st orb move tol h in
    less_real (length_plain move t.0) tol (tolerance_finite tol t.1)

-- ---- one of the three, and no other

-- one of three truths holds, and the other two do not
pub data OneOf : Bool → Bool → Bool → Type 0 where
  the_first : OneOf true false false
  the_second : OneOf false true false
  the_third : OneOf false false true

-- what is not at most a number lies above it
above : (d t : Float) → is_nan d ≡ false → is_nan t ≡ false → le d t ≡ false → lt t d ≡ true
unfolding is_nan
above d t D N h = go (lt t d) refl
  where
    go : (b : Bool) → lt t d ≡ b → b ≡ true
    go true e = refl
    go false e =
        elim (total t d e) [
          | inl q ↦ no_bool (rw q at N)
          | inr g ↦ elim g [ inl q ↦ no_bool (rw q at D) | inr l ↦ absurd (rw h at l) ]
        ]

by_comparing : (d t l : Float) → is_nan d ≡ false → is_nan t ≡ false → is_nan l ≡ false → OneOf (le d t) (lt t d && lt d l) (not (le d t) && le l d)
by_comparing d t l D N L = go (le d t) (le l d) refl refl
  where
    go : (a b : Bool) → le d t ≡ a → le l d ≡ b → OneOf (le d t) (lt t d && lt d l) (not (le d t) && le l d)
    go true b x y = rw (x, not_less d t (rw x tt)) the_first
    go false true x y = rw (x, y, above d t D N x, not_less l d (rw y tt)) the_third
    go false false x y = rw (x, y, above d t D N x, above l d L D y) the_second

-- a hit is counted once, and a miss not at all
once : (a b c : Bool) → OneOf a b c → ◌≡◌ {A = ℕ} (cond a 1 0 + cond b 1 0 + cond c 1 0) 1
once a b c the_first = refl
once a b c the_second = refl
once a b c the_third = refl

ray_once : (w : Sweep) (ray : Option Float) → ((d : Float) → ray ≡ Some d → OneOf (too_near w d) (in_between w d) (too_far w d))
    → ◌≡◌ {A = ℕ} (cond (hit_is (too_near w) ray) 1 0 + cond (hit_is (in_between w) ray) 1 0 + cond (hit_is (too_far w) ray) 1 0) (cond (hit_is any ray) 1 0)
unfolding hit_is
ray_once w None h = refl
ray_once w (Some d) h = once (too_near w d) (in_between w d) (too_far w d) (h d refl)

-- without any premise: where one of the three holds, the other two do not
pub record Apart (a b c : Bool) : Type 0 where
  pub by_first : a ≡ true → (b ≡ false) × (c ≡ false)
  pub by_second : b ≡ true → (a ≡ false) × (c ≡ false)
  pub by_third : c ≡ true → (a ≡ false) × (b ≡ false)

-- three truths of which no two hold
no_two : (a b c : Bool) → (a ≡ true → b ≡ true → ⊥) → (a ≡ true → c ≡ true → ⊥) → (b ≡ true → c ≡ true → ⊥) → Apart a b c
no_two a b c f g h =
    record {
      by_first = λ x. (not_so b (f x), not_so c (g x));
      by_second = λ y. (not_so a (λ x. f x y), not_so c (h y));
      by_third = λ z. (not_so a (λ x. g x z), not_so b (λ y. h y z));
    }
  where
    not_so : (b : Bool) → (b ≡ true → ⊥) → b ≡ false
    not_so true f = absurd (f refl)
    not_so false f = refl

pub apart : (w : Sweep) (d : Float) → Apart (too_near w d) (in_between w d) (too_far w d)
apart w d =
    no_two (too_near w d) (in_between w d) (too_far w d)
    (λ n b. clash w.tolerance d (both (lt w.tolerance d) (lt d w.limit) b).0 (rw n tt))
    (λ n f. no_bool (sym (both (not (le d w.tolerance)) (le w.limit d) f).0 ∙ ap not n))
    (λ b f. clash d w.limit (both (lt w.tolerance d) (lt d w.limit) b).1 (rw (both (not (le d w.tolerance)) (le w.limit d) f).1 tt))

module _ (st orb : List Float) (move : Point) (tol : Float) (takes : passed (of_moving st orb move tol) ≡ true) where
  -- a call that is not refused: each computed hit is one of the three
  pub classes : (k : ℕ) (d : Float) → Meets st orb move tol k d →
      let w = sweep_of move tol in
      OneOf (too_near w d) (in_between w d) (too_far w d)
  unfolding sweep_of
  classes k d m =
      let t = tolerance_finite tol (taken st orb move tol takes).1 in
      by_comparing d tol (length_of move ⊖ tol) (distance_real st orb move tol (pair_no st orb k) d m.at) (finite_real tol t) (limit_real st orb move tol takes)

  -- and the three counts come to the count of all
  pub together :
      let w = sweep_of move tol in
      how_many st orb move tol (too_near w) + how_many st orb move tol (in_between w) + how_many st orb move tol (too_far w) ≡ how_many st orb move tol any
  unfolding how_many
  together =
      let w = sweep_of move tol in
      tally_three (hit_at st orb move tol (too_near w)) (hit_at st orb move tol (in_between w)) (hit_at st orb move tol (too_far w)) (hit_at st orb move tol any)
      (scans st orb)
      (λ k l. ray_once w (ray_at st orb move tol (pair_no st orb k)) (λ d e. classes k d (record { scanned = l; at = e })))
