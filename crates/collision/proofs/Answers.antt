-- No two answers say the same, and what the call answers is what the theorem of the check demands. Assumes nothing.
use mathlib.Core.Path.{◌≡◌, refl, sym, ap, ◌∙◌}
use mathlib.Core.Bool.{Bool, true, false, cond}
use mathlib.Core.List.{List}
use Prim.Native.Nat.{ℕ, ◌<◌}
use native.Mathlib.Omega.{arith}
use native.Mathlib.Decide.{dec_lt}
use lib.Ieee.{Float}
use Rattle.std.specs.Prelude.{Option, Some, None, Result, Ok}
use Rattle.plane.specs.declared.Point.{Point}
use Rattle.refusals.specs.Refusals.{passed}
use Rattle.refusals.specs.Rows.{of_moving}
use Rattle.refusals.specs.Answers.{answers, refuses, answered}
use Rattle.refusals.specs.declared.Refusal.{Refusal}
use Rattle.refusals.proofs.Calls.{answered_only}
use Rattle.pairs.specs.Pairs.{pair}
use Rattle.pairs.specs.declared.Pair.{Pair}
use Rattle.collision.specs.Hit.{hit_with}
use Rattle.collision.specs.Check.{collision_of}
use Rattle.collision.specs.Nearest.{pair_no, ray_at, Told, nothing, hit}
use Rattle.collision.specs.Calls.{collision_call}
use Rattle.collision.specs.declared.Hit.{Hit}
use Rattle.collision.proofs.Nearest.{collision_told}

pub checked_only : (a b : Result (Option Hit) Refusal) → answered a ≡ answered b → a ≡ b
checked_only a b h = answered_only a b h

-- an answer that keeps the call's promise is what the theorem demands
pub answer_told : (st orb : List Float) (move : Point) (tol : Float) (x : Option Hit) → answered (Ok x) ≡ collision_call st orb move tol → Told st orb move tol x
answer_told st orb move tol x h = go (passed (of_moving st orb move tol)) h
  where
    go : (b : Bool) → answers x ≡ cond b (answers (collision_of st orb move tol)) (refuses (of_moving st orb move tol)) → Told st orb move tol x
    go true e = let same : x ≡ collision_of st orb move tol = cc in rw same (collision_told st orb move tol)
    go false e = absurd (let z : ◌≡◌ {A = ℕ} 0 1 = cc in omega arith)

-- hits with the same fields
same_hit : {d e : Float} {k l s t o p : ℕ} → d ≡ e → k ≡ l → s ≡ t → o ≡ p → hit_with d k s o ≡ hit_with e l t p
same_hit d k s o = rw (d, k, s, o)

-- what the theorem demands is one answer
pub told_only : (st orb : List Float) (move : Point) (tol : Float) (x y : Option Hit) → Told st orb move tol x → Told st orb move tol y → x ≡ y
told_only st orb move tol None None (nothing c) (nothing c') = refl
told_only st orb move tol None (Some y) (nothing c) (hit f n) = absurd (f c)
told_only st orb move tol (Some x) None (hit f n) (nothing c) = absurd (f c)
told_only st orb move tol (Some x) (Some y) (hit f n) (hit f' n') = go (dec_lt n.number n'.number) (dec_lt n'.number n.number)
  where
    go : Dec (n.number < n'.number) → Dec (n'.number < n.number) → Some x ≡ Some y
    go (yes a) b = cc (n'.first n.number x.distance a n.blocks, n.least n'.number y.distance n'.blocks)
    go (no a) (yes b) = cc (n.first n'.number y.distance b n'.blocks, n'.least n.number x.distance n.blocks)
    go (no a) (no b) =
        let same : n.number ≡ n'.number = omega arith in
        let v : pair x.kind x.stationary x.orbiting ≡ pair y.kind y.stationary y.orbiting = sym n.is ∙ ap (pair_no st orb) same ∙ n'.is in
        let m : Some x.distance ≡ Some y.distance = sym n.blocks.meets.at ∙ ap (λ (j : ℕ). ray_at st orb move tol (pair_no st orb j)) same ∙ n'.blocks.meets.at in
        let far : x.distance ≡ y.distance = cc in
        same_hit far (ap (λ (w : Pair). w.kind) v) (ap (λ (w : Pair). w.stationary) v) (ap (λ (w : Pair). w.orbiting) v)
