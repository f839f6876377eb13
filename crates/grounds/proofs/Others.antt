-- The others are the other pairs at the hit's very distance. The invariant: after n pairs there is no hit and no other, or there are the others and the
-- hit itself, as many as pairs so far at its distance. Assumes nothing.
use Prim.Native.Nat.{ℕ, zero, suc, ◌+◌, ◌-◌, ◌≤◌, ◌<◌}
use native.Mathlib.Nat.{add-zero, add-suc, le_refl}
use native.Mathlib.Omega.{arith}
use mathlib.Core.Path.{◌≡◌, refl, sym, ap, ◌∙◌}
use mathlib.Core.Bool.{Bool, true, false, not, cond, ◌&&◌, true≢false}
use mathlib.Core.List.{List}
use lib.Dec.{eqb}
use lib.Ieee.{Float, lt, eq}
use borrow.Author.Tests.{eq-eqb, ne_eqb}
use Rattle.std.specs.Prelude.{Option, Some, None}
use Rattle.plane.specs.Vector.{length_of}
use Rattle.plane.specs.declared.Point.{Point}
use Rattle.scalar.specs.Float.{◌⊖◌}
use Rattle.laws.specs.FirstBest.{better, First, none, some}
use Rattle.laws.specs.Turns.{turns, tally}
use Rattle.laws.proofs.Turns.{tally_none}
use Rattle.laws.proofs.Order.{lt_le, le_lt, le_of_eq, eq_back, eq_self}
use Rattle.collision.specs.Hit.{nearer}
use Rattle.collision.specs.Check.{sweep_of}
use Rattle.collision.specs.Nearest.{pair_no, scans, ray_at, Blocks}
use Rattle.collision.specs.declared.Hit.{Hit}
use Rattle.collision.proofs.Counting.{above_real, counts, real}
use Rattle.collision.proofs.Pairs.{found}
use Rattle.collision.proofs.Nearest.{carried, found_first}
use Rattle.grounds.specs.Classes.{hit_is, hit_at, how_many}
use Rattle.grounds.specs.Scan.{no_tally, others_after}
use Rattle.grounds.specs.Explanation.{others_at}
use Rattle.grounds.proofs.Classes.{no_bool}
use Rattle.grounds.proofs.Scanned.{step_of, best_is}

module _ (st orb : List Float) (move : Point) (tol : Float) where
  -- the pair number k has a hit at the very distance d
  abbrev at : Float → ℕ → Bool
  at d k = hit_at st orb move tol (λ e. eq e d) k

  -- d lies between
  record Inside (d : Float) : Type 0 where
    above : lt tol d ≡ true
    below : lt d (length_of move ⊖ tol) ≡ true

  -- the pair number k has a hit that counts, at a distance that equals d
  record Equal (d : Float) (k : ℕ) : Type 0 where
    which : Hit
    hits : found st orb move tol k ≡ Some which
    same : eq which.distance d ≡ true

  -- what the pair number k comes to is a hit: its ray, and that its distance lies between
  inside : (k : ℕ) (h : Hit) → found st orb move tol k ≡ Some h → Inside h.distance
  unfolding sweep_of
  inside k h e = let c = carried st orb move tol k h e in record { above = c.above; below = c.below }

  ray_of : (k : ℕ) (h : Hit) → found st orb move tol k ≡ Some h → ray_at st orb move tol (pair_no st orb k) ≡ Some h.distance
  ray_of k h e = (carried st orb move tol k h e).meets

  number_of : (k : ℕ) (h : Hit) → found st orb move tol k ≡ Some h → eq h.distance h.distance ≡ true
  unfolding found
  number_of k h e = eq_self h.distance (real (sweep_of move tol) _ _ _ _ h e)

  at_hit : (k : ℕ) (e d : Float) → ray_at st orb move tol (pair_no st orb k) ≡ Some e → at d k ≡ eq e d
  unfolding hit_is
  at_hit k e d h = rw h

  -- a hit that equals a distance between counts
  equal : (d : Float) → Inside d → (k : ℕ) → at d k ≡ true → Equal d k
  unfolding hit_is found sweep_of
  equal d i k h = go (ray_at st orb move tol (pair_no st orb k)) refl h
    where
      go : (ray : Option Float) → ray_at st orb move tol (pair_no st orb k) ≡ ray → hit_is (λ e. eq e d) ray ≡ true → Equal d k
      go None r t = absurd (true≢false (sym t))
      go (Some e) r t =
          record {
            which = _;
            hits = counts (sweep_of move tol) _ _ _ _ e r (lt_le tol d e i.above (le_of_eq d e (eq_back e d t))) (le_lt e d _ (le_of_eq e d t) i.below);
            same = t;
          }

  -- where no such hit is there, no pair is at the distance
  none_at : (d : Float) → Inside d → (n : ℕ) → ((k : ℕ) → k < n → Equal d k → ⊥) → tally (at d) n ≡ 0
  none_at d i n h = tally_none (at d) n (λ k l. by k l (at d k) refl)
    where
      by : (k : ℕ) → k < n → (b : Bool) → at d k ≡ b → at d k ≡ false
      by k l true e = absurd (h k l (equal d i k e))
      by k l false e = e

  -- after n pairs: the others, by what was found
  data Kept (n : ℕ) : Option Hit → ℕ → Type 0 where
    nothing : Kept n None 0
    hit : {h : Hit} {others : ℕ} → Inside h.distance → others + 1 ≡ tally (at h.distance) n → Kept n (Some h) others

  -- a pair that comes to nothing is not at a distance between
  passes_by : (n : ℕ) (d : Float) → Inside d → found st orb move tol n ≡ None → at d n ≡ false
  passes_by n d i z = by (at d n) refl
    where
      by : (b : Bool) → at d n ≡ b → at d n ≡ false
      by true e = let q = equal d i n e in absurd (let u : ◌≡◌ {A = ℕ} 0 1 = cc (z, q.hits) in omega arith)
      by false e = e

  -- before a hit that is nearer than all, no pair is at its distance
  fresh_nothing : (n : ℕ) (e : Float) → Inside e → ((k : ℕ) → k < n → nearer (found st orb move tol k) None ≡ false) → tally (at e) n ≡ 0
  unfolding nearer
  fresh_nothing n e i all =
      none_at e i n (λ k l q. no_bool (sym (ap (λ (x : Option Hit). nearer x None) q.hits) ∙ all k l))

  fresh_nearer : (n : ℕ) (e : Float) (h : Hit) → Inside e → lt e h.distance ≡ true
      → ((k : ℕ) → k < n → nearer (found st orb move tol k) (Some h) ≡ false) → tally (at e) n ≡ 0
  unfolding nearer
  fresh_nearer n e h i less all =
      none_at
      e
      i
      n
      (λ k m q.
      no_bool (sym (le_lt q.which.distance e h.distance (le_of_eq q.which.distance e q.same) less) ∙ sym (ap (λ (x : Option Hit). nearer x (Some h)) q.hits) ∙ all k m))

  -- none of the first n pairs is nearer than what was found of them
  least : (n : ℕ) (c : Option Hit) → First nearer (found st orb move tol) None n c → (k : ℕ) → k < n → nearer (found st orb move tol k) c ≡ false
  least n c (none z all) k l = rw z (all k l)
  least n c (some j m q h first all) k l = rw q (all k l)

  -- a turn
  kept_on : (n : ℕ) (c : Option Hit) (others : ℕ) → First nearer (found st orb move tol) None n c → Kept n c others
      → Kept (suc n) (better nearer c (found st orb move tol n)) (others_after others c (found st orb move tol n))
  unfolding better nearer others_after tally
  kept_on n c others f kept = go (found st orb move tol n) refl c others kept (least n c f)
    where
      go : (new : Option Hit) → found st orb move tol n ≡ new → (c : Option Hit) (others : ℕ) → Kept n c others
          → ((k : ℕ) → k < n → nearer (found st orb move tol k) c ≡ false) → Kept (suc n) (better nearer c new) (others_after others c new)
      go None z None others nothing all = nothing
      go None z (Some h) others (hit i t) all = hit {others = others} i (rw (passes_by n h.distance i z) (omega (arith, t)))
      go (Some x) z None others nothing all =
          let i = inside n x z in
          hit {others = 0} i (rw (fresh_nothing n x.distance i all, at_hit n x.distance x.distance (ray_of n x z), number_of n x z) refl)
      go (Some x) z (Some h) others (hit i t) all = by (lt x.distance h.distance) refl
        where
          by : (b : Bool) → lt x.distance h.distance ≡ b → Kept (suc n) (cond b (Some x) (Some h)) (cond b 0 (others + cond (eq x.distance h.distance) 1 0))
          by true less =
              let j = inside n x z in
              hit {others = 0} j (rw (fresh_nearer n x.distance h j less all, at_hit n x.distance x.distance (ray_of n x z), number_of n x z) refl)
          by false more = hit {others = others + cond (eq x.distance h.distance) 1 0} i (rw (at_hit n x.distance h.distance (ray_of n x z)) (omega (arith, t)))

  kept : (n : ℕ) → Kept n (turns (step_of st orb move tol) no_tally n).best (turns (step_of st orb move tol) no_tally n).others
  unfolding turns step_of
  kept zero = nothing
  kept (suc n) =
      kept_on n _ _ (rw (best_is st orb move tol n) (found_first st orb move tol n)) (kept n)

  -- the others of a scan
  kept_others : (c : Option Hit) (others : ℕ) → Kept (scans st orb) c others → others ≡ others_at st orb move tol c
  unfolding others_at how_many
  kept_others None others nothing = refl
  kept_others (Some h) others (hit i t) = omega (arith, t)

  pub others_is : (turns (step_of st orb move tol) no_tally (scans st orb)).others
      ≡ others_at st orb move tol (turns (step_of st orb move tol) no_tally (scans st orb)).best
  others_is = kept_others _ _ (kept (scans st orb))

-- ---- the theorem

module _ (passes : ℕ → Bool) (j : ℕ) (t : passes j ≡ true) where
  -- what passes but for one number
  abbrev besides : ℕ → Bool
  besides k = not (eqb k j) && passes k

  before_it : (n : ℕ) → n ≤ j → tally besides n ≡ tally passes n
  unfolding tally
  before_it zero l = refl
  before_it (suc n) l = rw (before_it n (omega arith), ne_eqb n j (λ e. omega (arith, e)))

  after_it : (n : ℕ) → tally passes (j + suc n) ≡ tally besides (j + suc n) + 1
  unfolding tally
  after_it zero = rw (add-suc, add-zero, before_it j (le_refl j), eq-eqb j j refl, t) (omega arith)
  after_it (suc n) =
      rw (add-suc j (suc n), ne_eqb (j + suc n) j (λ e. omega (arith, e)))
      (let h = after_it n in omega (arith, h))

-- the others are the number of other pairs at the distance of the hit
module _ (st orb : List Float) (move : Point) (tol : Float) where
  pub others_other : (h : Hit) (j : ℕ) → Blocks st orb move tol j h.distance
      → others_at st orb move tol (Some h) ≡ tally (λ i. not (eqb i j) && hit_at st orb move tol (λ e. eq e h.distance) i) (scans st orb)
  unfolding others_at how_many
  others_other h j b =
      let passes = hit_at st orb move tol (λ e. eq e h.distance) in
      let t : passes j ≡ true = itself in
      let n : scans st orb ≡ j + suc (scans st orb - suc j) = omega (arith, b.meets.scanned) in
      let past = after_it passes j t (scans st orb - suc j) in
      rw n (omega (arith, past))
    where
      itself : hit_at st orb move tol (λ e. eq e h.distance) j ≡ true
      itself = at_hit st orb move tol j h.distance h.distance b.meets.at ∙ eq_self h.distance (above_real tol h.distance b.above)
