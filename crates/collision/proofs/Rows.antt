-- A hit replaces what was found exactly where it counts and lies below the least distance; and rows of vertices, one after the other. Assumes nothing.
use Prim.Native.Nat.{ℕ, ◌+◌}
use mathlib.Core.Path.{◌≡◌, refl, sym, ◌∙◌}
use mathlib.Core.Bool.{Bool, true, false, ◌&&◌, cond, and-true, and-false, true≢false}
use mathlib.Core.List.{List}
use lib.Dec.{eqb}
use lib.Ieee.{Float, nan, inf, fin, lt}
use Rattle.std.specs.Prelude.{Option, Some, None}
use Rattle.plane.specs.declared.Point.{Point}
use Rattle.ring.specs.Ring.{count, point_at}
use Rattle.laws.specs.FirstBest.{better, over, nest}
use Rattle.laws.proofs.FirstBest.{over_turn, over_ext, nest_turn}
use Rattle.collision.specs.Ray.{edge_ray}
use Rattle.collision.specs.Hit.{hit_with, counted_of, nearer}
use Rattle.collision.specs.Parts.{pair_by}
use Rattle.collision.specs.Row.{pair_at, least_of, Onward}
use Rattle.collision.specs.Check.{hit_of, scan_of}
use Rattle.collision.specs.declared.Sweep.{Sweep}
use Rattle.collision.specs.declared.Hit.{Hit}

-- ---- one hit

below_infinity : (d l : Float) → lt d l ≡ true → lt d (inf false) ≡ true
unfolding lt
below_infinity nan l h = h
below_infinity (inf true) l h = refl
below_infinity (inf false) nan h = h
below_infinity (inf false) (inf s) h = h
below_infinity (inf false) (fin s m e) h = h
below_infinity (fin s m e) l h = refl

module _ (w : Sweep) (d : Float) where
  -- it counts and lies below a distance
  abbrev Below : Float → Bool
  Below near = lt w.tolerance d && (lt d near && lt d w.limit)

  counted_nearer : (k s o : ℕ) (best : Option Hit) → nearer (counted_of (Some d) w k s o) best ≡ Below (least_of best)
  unfolding counted_of nearer least_of
  counted_nearer k s o best = go (lt w.tolerance d) (lt d w.limit) refl best
    where
      go : (a b : Bool) → lt d w.limit ≡ b → (best : Option Hit) → nearer (cond (a && b) (hit_with d k s o) None) best ≡ a && (lt d (least_of best) && b)
      go false b h best = refl
      go true false h best = sym (and-false (lt d (least_of best)))
      go true true h None = sym (rw (below_infinity d w.limit h))
      go true true h (Some g) = sym (and-true (lt d g.distance))

  pub pair_nearer : (kind v e : ℕ) (best : Option Hit) → nearer (pair_by (Some d) w kind v e) best ≡ Below (least_of best)
  pair_nearer kind v e best = go (eqb kind 0)
    where
      go : (b : Bool) → nearer (cond b (counted_of (Some d) w 0 e v) (counted_of (Some d) w 1 v e)) best ≡ Below (least_of best)
      go true = counted_nearer 0 e v best
      go false = counted_nearer 1 v e best

  counted_least : (k s o : ℕ) (near : Float) → Below near ≡ true → least_of (counted_of (Some d) w k s o) ≡ d
  unfolding counted_of least_of
  counted_least k s o near h = go (lt w.tolerance d) (lt d near) (lt d w.limit) h
    where
      go : (a n b : Bool) → a && (n && b) ≡ true → least_of (cond (a && b) (hit_with d k s o) None) ≡ d
      go true true true h = refl
      go true true false h = absurd (true≢false (sym h))
      go true false b h = absurd (true≢false (sym h))
      go false n b h = absurd (true≢false (sym h))

  pair_least : (kind v e : ℕ) (near : Float) → Below near ≡ true → least_of (pair_by (Some d) w kind v e) ≡ d
  pair_least kind v e near h = go (eqb kind 0)
    where
      go : (b : Bool) → least_of (cond b (counted_of (Some d) w 0 e v) (counted_of (Some d) w 1 v e)) ≡ d
      go true = counted_least 0 e v near h
      go false = counted_least 1 v e near h

-- ---- one edge more

pub at_first : (f : ℕ → Option Hit) (a : ℕ) (best : Option Hit) → Onward f a a best best
at_first f a best = record { leads = λ from h. h }

pub and_then : {f : ℕ → Option Hit} {a b c : ℕ} {x y z : Option Hit} → Onward f a b x y → Onward f b c y z → Onward f a c x z
and_then p q = record { leads = λ from h. q.leads from (p.leads from h) }

pub all_of : {f : ℕ → Option Hit} {a b c : ℕ} {x y : Option Hit} → b ≡ c → Onward f a b x y → Onward f a c x y
all_of e p = rw e at p

module _ (o : Point) (es : List Float) (w : Sweep) (kind v a : ℕ) (before : Option Hit) where
  -- the edges from a on and below e are taken, and near is the least distance found
  pub record Sofar (e : ℕ) (best : Option Hit) (near : Float) : Type 0 where
    pub least : near ≡ least_of best
    pub taken : Onward (pair_at o es w kind v) a e before best

  pub none_yet : {near : Float} → near ≡ least_of before → Sofar a before near
  none_yet h = record { least = h; taken = at_first _ a before }

  module _ {e : ℕ} {best : Option Hit} {near : Float} (s : Sofar e best near) {ray : Option Float} (er : ray ≡ edge_ray o w.dir es e w.tolerance) where
    step : {new : Option Hit} → new ≡ better nearer best (pair_at o es w kind v e) → Onward (pair_at o es w kind v) a (e + 1) before new
    step h = and_then s.taken (record { leads = λ from k. over_turn nearer (pair_at o es w kind v) from e k refl h })

    -- a hit that replaces
    pub replaced : {d : Float} {t : Bool} {new : Option Hit} → ray ≡ Some d → t ≡ Below w d near → t ≡ true → new ≡ pair_by (Some d) w kind v e → Sofar (e + 1) new d
    unfolding better pair_at
    replaced {d = d} at ht h hn =
        record {
          least = rw hn (sym (pair_least w d kind v e near (sym ht ∙ h)));
          taken = step (hn ∙ rw (← er, at, pair_nearer w d kind v e best, ← s.least, ← ht, h));
        }

    -- one that does not
    pub stayed : {d : Float} {t : Bool} → ray ≡ Some d → t ≡ Below w d near → t ≡ false → Sofar (e + 1) best near
    unfolding better pair_at
    stayed {d = d} at ht h = record { least = s.least; taken = step (rw (← er, at, pair_nearer w d kind v e best, ← s.least, ← ht, h)) }

    -- a miss
    pub passed : ray ≡ None → Sofar (e + 1) best near
    unfolding better nearer pair_at counted_of
    passed at = record { least = s.least; taken = step (rw (← er, at) (either (eqb kind 0))) }
      where
        either : (b : Bool) → best ≡ better nearer best (cond b None None)
        either true = refl
        either false = refl

-- ---- one vertex more

module _ (vs es : List Float) (w : Sweep) (kind : ℕ) (before : Option Hit) where
  -- the first v vertices are taken
  pub record Taken (v : ℕ) (best : Option Hit) : Type 0 where
    pub is : best ≡ nest nearer (hit_of vs es w kind) (count es) before v

  pub none_taken : Taken 0 before
  none_taken = record { is = unfold nest in refl }

  pub vertex_more : (v : ℕ) {best next : Option Hit} {o : Point} → o ≡ point_at vs v → Taken v best → Onward (pair_at o es w kind v) 0 (count es) best next → Taken (v + 1) next
  vertex_more v {best = best} {o = o} eo h r =
      record {
        is = nest_turn nearer (hit_of vs es w kind) (count es) before v h.is
            (r.leads best (unfold over in refl) ∙ over_ext nearer (pair_at o es w kind v) (hit_of vs es w kind v) best (count es) (λ k l. unfold hit_of pair_at in rw eo));
      }

  pub all_taken : (v : ℕ) {best : Option Hit} → v ≡ count vs → Taken v best → best ≡ scan_of vs es w kind before
  unfolding scan_of
  all_taken v e h = h.is ∙ rw e
