-- Misses leave what is known as it is, and a scan over pairs that leaves them out. Assumes nothing.
use Prim.Native.Nat.{ℕ, zero, suc, ◌+◌, ◌*◌, ◌-◌, ◌≤◌, ◌<◌}
use native.Mathlib.Omega.{arith}
use mathlib.Core.Path.{◌≡◌, refl, sym, ap, ◌∙◌}
use mathlib.Core.List.{List}
use lib.Ieee.{Float}
use Rattle.plane.specs.declared.Point.{Point}
use Rattle.ring.specs.Ring.{count, point_at}
use Rattle.laws.specs.Turns.{turns, turn_rows}
use Rattle.laws.proofs.Turns.{turns_split, one_more, row_more}
use Rattle.collision.specs.Ray.{edge_ray}
use Rattle.collision.specs.Chained.{MissesTo}
use Rattle.collision.specs.declared.Sweep.{Sweep}
use Rattle.std.specs.Prelude.{Option, Some, None}
use Rattle.grounds.specs.Met.{MetFirst}
use Rattle.grounds.specs.Scan.{kind_most, pairs_most, AtMost, noted_of, pair_noted, scan_noted}
use Rattle.grounds.specs.declared.Met.{Met}
use Rattle.grounds.specs.declared.Tally.{Tally}
use Rattle.grounds.proofs.Counts.{missed, scan_small}

still : (step : Tally → ℕ → Tally) (s : Tally) (n : ℕ) → ((t : Tally) (k : ℕ) → k < n → step t k ≡ t) → turns step s n ≡ s
unfolding turns
still step s zero h = refl
still step s (suc n) h = h (turns step s n) n (omega arith) ∙ still step s n (λ t k l. h t k (omega arith))

passed_over : (step : Tally → ℕ → Tally) (from : Tally) (a to : ℕ) {s : Tally} → s ≡ turns step from a → a ≤ to
    → ((t : Tally) (k : ℕ) → a ≤ k → k < to → step t k ≡ t) → s ≡ turns step from to
passed_over step from a to h l all =
    let e : a + (to - a) ≡ to = omega arith in
    h
    ∙ sym (still (λ t k. step t (a + k)) (turns step from a) (to - a) (λ t k m. all t (a + k) (omega arith) (omega arith)))
    ∙ sym (turns_split step from a (to - a))
    ∙ ap (turns step from) e

module _ (vs es : List Float) (w : Sweep) (kind : ℕ) (before : Tally) where
  -- the first v vertices are taken, and the next one against its first e edges
  abbrev pub Sofar : ℕ → ℕ → Tally → Type 0
  Sofar v e t = t ≡ turns (λ s k. pair_noted vs es w kind s v k) (turn_rows (pair_noted vs es w kind) (count es) before v) e

  pub from_none : Sofar 0 0 before
  unfolding turns turn_rows
  from_none = refl

  none_noted : (v k : ℕ) (t : Tally) → edge_ray (point_at vs v) w.dir es k w.tolerance ≡ None → pair_noted vs es w kind t v k ≡ t
  unfolding pair_noted
  none_noted v k t h = rw h (sym (missed w kind t v k))

  skipped : (v a to : ℕ) {t : Tally} → Sofar v a t → a ≤ to → MissesTo es w.dir w.tolerance (point_at vs v) a to → Sofar v to t
  skipped v a to h l m = passed_over _ _ a to h l (λ s k i j. none_noted v k s (m k i j))

  -- one hit more, after misses
  pub next_pair : (v a : ℕ) {t next : Tally} {o : Point} {met : Met} {r : Option Met} → Sofar v a t → o ≡ point_at vs v → r ≡ Some met
      → MetFirst es w.dir w.tolerance o a (count es) r → next ≡ noted_of w kind t v met.edge (Some met.distance) → Sofar v (met.edge + 1) next
  next_pair v a {met = met} h eo k m e =
      let n = rw k at m in
      one_more _ _ met.edge (skipped v a met.edge h n.not_before (rw (← eo) n.misses)) (e ∙ unfold pair_noted in rw (← n.hits, eo))

  -- no hit more of a vertex
  pub next_vertex : (v a : ℕ) {t : Tally} {o : Point} {r : Option Met} → Sofar v a t → a ≤ count es → o ≡ point_at vs v → r ≡ None
      → MetFirst es w.dir w.tolerance o a (count es) r → Sofar (v + 1) 0 t
  unfolding turns
  next_vertex v a h l eo k m = row_more _ _ before v refl (skipped v a (count es) h l (rw (← eo) (rw k at m)))

  pub all_pairs : (v e : ℕ) {t : Tally} → v ≡ count vs → e ≡ 0 → Sofar v e t → t ≡ scan_noted vs es w kind before
  unfolding turns scan_noted
  all_pairs v e y z h =
      h ∙ ap (turns (λ s k. pair_noted vs es w kind s v k) (turn_rows (pair_noted vs es w kind) (count es) before v)) z ∙ ap (turn_rows (pair_noted vs es w kind) (count es) before) y

  pub small : (v e : ℕ) {t : Tally} → Sofar v e t → AtMost before kind_most → v ≤ 256 → count es ≤ 256 → e ≤ 256 → AtMost t (2 * pairs_most)
  small v e h a l n o = rw h (scan_small vs es w kind v e before a l n o)
