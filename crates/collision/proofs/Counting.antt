-- When a ray's hit counts, and that its distance is then no NaN. Assumes nothing.
use Rattle.std.specs.Prelude.{Option}
use Prim.Native.Nat.{ℕ}
use mathlib.Core.Path.{◌≡◌, refl, ap}
use mathlib.Core.Bool.{Bool, true, false, ◌&&◌, cond}
use native.Mathlib.Omega.{arith}
use lib.Ieee.{Float, nan, inf, fin, lt, is_nan}
use Rattle.std.specs.Prelude.{Some, None}
use Rattle.collision.specs.Hit.{hit_with, counted_of}
use Rattle.collision.specs.Check.{back_of}
use Rattle.collision.specs.declared.Sweep.{Sweep}
use Rattle.collision.specs.declared.Hit.{Hit}

-- what is above a number is no NaN
pub above_real : (a d : Float) → lt a d ≡ true → is_nan d ≡ false
unfolding lt is_nan
above_real a (inf s) h = refl
above_real a (fin s m e) h = refl
above_real nan nan h = cc
above_real (inf s) nan h = cc
above_real (fin s m e) nan h = cc

-- a hit of a pair: where it counts, and what it carries
pub record Carries (ray : Option Float) (w : Sweep) (kind s o : ℕ) (h : Hit) : Type 0 where
  pub meets : ray ≡ Some h.distance
  pub above : lt w.tolerance h.distance ≡ true
  pub below : lt h.distance w.limit ≡ true
  pub kinds : kind ≡ h.kind
  pub firsts : s ≡ h.stationary
  pub seconds : o ≡ h.orbiting

module _ (w : Sweep) (kind s o : ℕ) where
  pub carries : (ray : Option Float) (h : Hit) → counted_of ray w kind s o ≡ Some h → Carries ray w kind s o h
  unfolding counted_of
  carries None h e = absurd (let z : ◌≡◌ {A = ℕ} 0 1 = cc in omega arith)
  carries (Some d) h e = go (lt w.tolerance d) (lt d w.limit) refl refl e
    where
      go : (a b : Bool) → lt w.tolerance d ≡ a → lt d w.limit ≡ b → cond (a && b) (hit_with d kind s o) None ≡ Some h → Carries (Some d) w kind s o h
      go false b x y q = absurd (let z : ◌≡◌ {A = ℕ} 0 1 = cc in omega arith)
      go true false x y q = absurd (let z : ◌≡◌ {A = ℕ} 0 1 = cc in omega arith)
      go true true x y q =
          let same : ◌≡◌ {A = Hit} (record { distance = d; kind = kind; stationary = s; orbiting = o }) h = cc in
          let far : d ≡ h.distance = ap (λ (g : Hit). g.distance) same in
          record {
            meets = ap Some far;
            above = rw far at x;
            below = rw far at y;
            kinds = ap (λ (g : Hit). g.kind) same;
            firsts = ap (λ (g : Hit). g.stationary) same;
            seconds = ap (λ (g : Hit). g.orbiting) same;
          }

  pub counts : (ray : Option Float) (d : Float) → ray ≡ Some d → lt w.tolerance d ≡ true → lt d w.limit ≡ true → counted_of ray w kind s o ≡ hit_with d kind s o
  unfolding counted_of
  counts ray d m a b = rw (m, a, b)

  pub real : (ray : Option Float) (h : Hit) → counted_of ray w kind s o ≡ Some h → is_nan h.distance ≡ false
  real ray h e = above_real w.tolerance h.distance (carries ray h e).above

  -- the way of the rays does not matter here
  pub counted_back : (ray : Option Float) → counted_of ray (back_of w) kind s o ≡ counted_of ray w kind s o
  unfolding counted_of back_of
  counted_back None = refl
  counted_back (Some d) = refl
