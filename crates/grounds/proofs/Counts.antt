-- A miss leaves everything as it is, and no count grows by more than one a pair. Assumes nothing.
use Prim.Native.Nat.{ℕ, zero, suc, ◌+◌, ◌*◌, ◌≤◌}
use native.Mathlib.Omega.{arith}
use native.Mathlib.Nat.{add-zero, mul-le-mul}
use mathlib.Core.Path.{◌≡◌, refl}
use mathlib.Core.Bool.{Bool, true, false, cond}
use mathlib.Core.List.{List}
use lib.Dec.{eqb}
use lib.Ieee.{Float, lt, eq}
use Rattle.std.specs.Prelude.{Option, Some, None}
use Rattle.ring.specs.Ring.{count}
use Rattle.laws.specs.FirstBest.{better}
use Rattle.laws.specs.Turns.{turns, turn_rows}
use Rattle.laws.proofs.Turns.{rows_flat}
use Rattle.collision.specs.Hit.{counted_of, nearer}
use Rattle.collision.specs.declared.Sweep.{Sweep}
use Rattle.collision.specs.declared.Hit.{Hit}
use Rattle.grounds.specs.Classes.{too_near, in_between, too_far, hit_is}
use Rattle.grounds.specs.Scan.{kind_most, pairs_most, AtMost, others_after, noted_of, pair_noted}
use Rattle.grounds.specs.declared.Tally.{Tally}

-- ---- a miss

missed_by : (t : Tally) (c : Option Hit) → c ≡ None
    → t ≡ record { best = better nearer t.best c; others = others_after t.others t.best c; near = t.near + 0; between = t.between + 0; far = t.far + 0 }
unfolding better nearer others_after
missed_by t c h = rw (h, add-zero t.near, add-zero t.between, add-zero t.far)

either : (b : Bool) → ◌≡◌ {A = Option Hit} (cond b None None) None
either true = refl
either false = refl

pub missed : (w : Sweep) (kind : ℕ) (t : Tally) (v e : ℕ) → t ≡ noted_of w kind t v e None
unfolding noted_of counted_of hit_is
missed w kind t v e = missed_by t _ (either (eqb kind 0))

-- ---- at most one more

one_most : (n m : ℕ) (b : Bool) → n ≤ m → n + cond b 1 0 ≤ m + 1
one_most n m true h = omega arith
one_most n m false h = omega arith

others_most : (n m : ℕ) (best new : Option Hit) → n ≤ m → others_after n best new ≤ m + 1
unfolding others_after
others_most n m best None h = omega arith
others_most n m None (Some y) h = omega arith
others_most n m (Some x) (Some y) h = go (lt y.distance x.distance)
  where
    go : (b : Bool) → cond b 0 (n + cond (eq y.distance x.distance) 1 0) ≤ m + 1
    go true = omega arith
    go false = one_most n m (eq y.distance x.distance) h

noted_most : (w : Sweep) (kind : ℕ) (t : Tally) (v e : ℕ) (ray : Option Float) (m : ℕ) → AtMost t m → AtMost (noted_of w kind t v e ray) (m + 1)
unfolding noted_of
noted_most w kind t v e ray m h =
    record {
      others_below = others_most t.others m t.best _ h.others_below;
      near_below = one_most t.near m (hit_is (too_near w) ray) h.near_below;
      between_below = one_most t.between m (hit_is (in_between w) ray) h.between_below;
      far_below = one_most t.far m (hit_is (too_far w) ray) h.far_below;
    }

turns_most : (step : Tally → ℕ → Tally) → ((s : Tally) (k m : ℕ) → AtMost s m → AtMost (step s k) (m + 1))
    → (from : Tally) (m : ℕ) → AtMost from m → (n : ℕ) → AtMost (turns step from n) (m + n)
unfolding turns
turns_most step each from m h zero = rw (add-zero m) h
turns_most step each from m h (suc n) =
    let e : m + suc n ≡ m + n + 1 = omega arith in
    rw e (each (turns step from n) n (m + n) (turns_most step each from m h n))

module _ (vs es : List Float) (w : Sweep) (kind : ℕ) (before : Tally) (m : ℕ) (h : AtMost before m) where
  -- after e edges of a vertex
  pub row_most : (v e : ℕ) → AtMost (turns (λ t k. pair_noted vs es w kind t v k) before e) (m + e)
  unfolding pair_noted
  row_most v e = turns_most _ (λ s k n a. noted_most w kind s v k _ n a) before m h e

  -- after so many rows
  pub rows_most : (n o : ℕ) → AtMost (turn_rows (pair_noted vs es w kind) n before o) (m + o * n)
  unfolding pair_noted
  rows_most n o = rw (rows_flat (pair_noted vs es w kind) n before o) (turns_most _ (λ s k q a. noted_most w kind s _ _ _ q a) before m h (o * n))

-- what is below a number is below a larger one
pub most_more : (t : Tally) (m n : ℕ) → AtMost t m → m ≤ n → AtMost t n
most_more t m n h l =
    record {
      others_below = omega (arith, h.others_below);
      near_below = omega (arith, h.near_below);
      between_below = omega (arith, h.between_below);
      far_below = omega (arith, h.far_below);
    }

-- after v rows of one kind, and e edges of the next
pub scan_small : (vs es : List Float) (w : Sweep) (kind v e : ℕ) (before : Tally) → AtMost before kind_most → v ≤ 256 → count es ≤ 256 → e ≤ 256
    → AtMost (turns (λ t k. pair_noted vs es w kind t v k) (turn_rows (pair_noted vs es w kind) (count es) before v) e) (2 * pairs_most)
scan_small vs es w kind v e before a l n o =
    let m : v * count es ≤ 256 * 256 = mul-le-mul l n in
    let b = turn_rows (pair_noted vs es w kind) (count es) before v in
    most_more _ _ _ (row_most vs es w kind b (kind_most + v * count es) (rows_most vs es w kind before kind_most a (count es) v) v e) (omega (arith, m))
