-- What a ray passes beside it misses, and misses leave what was found as it is. Assumes nothing.
use Prim.Native.Nat.{ℕ, zero, suc, ◌+◌, ◌*◌, ◌-◌, ◌/◌, ◌≤◌, ◌<◌}
use native.Mathlib.Omega.{arith}
use mathlib.Core.Path.{◌≡◌, refl, sym, ap, ◌∙◌}
use mathlib.Core.Bool.{Bool, true, false, cond, and-false}
use mathlib.Core.List.{List}
use lib.Dec.{eqb}
use lib.Ieee.{Float, lt}
use Rattle.std.specs.Prelude.{Option, None}
use Rattle.scalar.specs.Scalar.{abs_of}
use Rattle.plane.specs.Vector.{minus_of, cross_of}
use Rattle.plane.specs.declared.Point.{Point}
use Rattle.ring.specs.Ring.{count}
use Rattle.chains.specs.Chain.{Beside, passes, chain_at}
use Rattle.laws.specs.FirstBest.{better, over}
use Rattle.laws.proofs.FirstBest.{over_split}
use Rattle.collision.specs.Ray.{ray_within, ray_of, edge_ray}
use Rattle.collision.specs.Hit.{counted_of, nearer}
use Rattle.collision.specs.Row.{pair_at, Onward}
use Rattle.collision.specs.Chained.{MissesTo, Ready}
use Rattle.collision.specs.declared.Sweep.{Sweep}
use Rattle.collision.specs.declared.Hit.{Hit}

-- ---- a miss

none_either : (b : Bool) → ◌≡◌ {A = Option Hit} (cond b None None) None
none_either true = refl
none_either false = refl

missed : (o : Point) (es : List Float) (w : Sweep) (kind v e : ℕ) → edge_ray o w.dir es e w.tolerance ≡ None → pair_at o es w kind v e ≡ None
unfolding pair_at counted_of
missed o es w kind v e h = rw h (none_either (eqb kind 0))

stays : (best : Option Hit) → better nearer best None ≡ best
unfolding better nearer
stays best = refl

still : (f : ℕ → Option Hit) (s : Option Hit) (n : ℕ) → ((k : ℕ) → k < n → f k ≡ None) → over nearer f s n ≡ s
unfolding over
still f s zero h = refl
still f s (suc n) h = rw (h n (omega arith), still f s n (λ k l. h k (omega arith))) (stays s)

passed_over : (f : ℕ → Option Hit) (from : Option Hit) (a to : ℕ) {s : Option Hit} → s ≡ over nearer f from a → a ≤ to
    → ((k : ℕ) → a ≤ k → k < to → f k ≡ None) → s ≡ over nearer f from to
passed_over f from a to h l all =
    let e : a + (to - a) ≡ to = omega arith in
    h ∙ sym (still (λ (k : ℕ). f (a + k)) (over nearer f from a) (to - a) (λ k m. all (a + k) (omega arith) (omega arith))) ∙ sym (over_split nearer f from a (to - a)) ∙ ap (over nearer f from) e

-- ---- beside a chain

beside_miss : (o d p q : Point) (tol : Float) → Beside o d p q tol → ray_of o d p q tol ≡ None
unfolding ray_of ray_within
beside_miss o d p q tol h = rw (h, and-false _) (miss_either (lt (abs_of (cross_of d (minus_of q p))) tol))
  where
    miss_either : (b : Bool) → ◌≡◌ {A = Option Float} (cond b None None) None
    miss_either true = refl
    miss_either false = refl

-- an edge of a chain that the ray passes beside
chain_missed : (table es : List Float) (w : Sweep) (o : Point) (e k : ℕ) {t : Bool} → Ready table es w → t ≡ passes (chain_at table (e / 8)) o w.dir → t ≡ true
    → 8 * (e / 8) ≤ k → k < 8 * (e / 8) + 8 → k < count es → edge_ray o w.dir es k w.tolerance ≡ None
unfolding edge_ray
chain_missed table es w o e k ready p t l m n =
    beside_miss o w.dir _ _ w.tolerance (ready.chains (e / 8) k (record { not_before = l; not_after = m }) n o w.tolerance ready.few.near (sym p ∙ t))

pub chain_passed : (table es : List Float) (w : Sweep) (o : Point) (e to : ℕ) {t : Bool} → Ready table es w → t ≡ passes (chain_at table (e / 8)) o w.dir → t ≡ true
    → to ≤ 8 * (e / 8) + 8 → to ≤ count es → MissesTo es w.dir w.tolerance o e to
chain_passed table es w o e to ready p t m n k l h = chain_missed table es w o e k ready p t (omega (arith, l)) (omega (arith, h, m)) (omega (arith, h, n))

-- missed edges lead on with what was found
pub onward_missed : (o : Point) (es : List Float) (w : Sweep) (kind v a to : ℕ) (best : Option Hit) → a ≤ to → MissesTo es w.dir w.tolerance o a to
    → Onward (pair_at o es w kind v) a to best best
onward_missed o es w kind v a to best l m =
    record { leads = λ from h. passed_over (pair_at o es w kind v) from a to h l (λ k i j. missed o es w kind v k (m k i j)) }
