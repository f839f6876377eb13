-- What a trace that ended answers, case by case; and two answers that are told alike are equal. Assumes nothing.
use Prim.Native.Nat.{ℕ, ◌*◌, ◌%◌, ◌≤◌, ◌<◌}
use native.Mathlib.Omega.{arith}
use mathlib.Core.Path.{◌≡◌, refl, sym, ap}
use mathlib.Core.Bool.{Bool, true, false}
use mathlib.Core.List.{List}
use lib.ListN.{length, take}
use lib.Seq.{length-take-le}
use lib.Ieee.{Float}
use borrow.Author.Tests.{lt-ltb, le-ltb}
use Rattle.ring.specs.Ring.{count}
use Rattle.ring.specs.Room.{laid}
use Rattle.simplify.specs.Simplify.{simplified}
use Rattle.simplify.proofs.Whole.{not_longer}
use Rattle.nfp_sliding.specs.Path.{Trace, ended}
use Rattle.std.specs.Prelude.{Result, Ok, Err}
use Rattle.refusals.specs.Answers.{tells}
use Rattle.refusals.specs.declared.Refusal.{Refusal}
use Rattle.refusals.proofs.Calls.{answered_only}
use Rattle.nfp_sliding.specs.Calls.{Answer, traces, denied, overfull, too_short, untraced, traced, came_to, result_after}
use Rattle.nfp_sliding.specs.declared.answer.Trace as answer
use Rattle.nfp_sliding.specs.declared.answer.Untraced.{Untraced}
use Rattle.nfp_sliding.specs.declared.answer.Untraced.TheVariants.{Refused, Full, Short}

-- the path at the front of the work room
module _ (stored : ℕ) (work : List Float) (l : 2 * stored ≤ length work) where
  size : length (take (2 * stored) work) ≡ 2 * stored
  size = length-take-le (2 * stored) work l

  -- what simplification asks
  pub whole : length (take (2 * stored) work) % 2 ≡ 0
  whole = omega (arith, size)

  pub fits : (tol : Float) (n : ℕ) → length work ≤ n → 2 * count (simplified (take (2 * stored) work) tol) ≤ n
  fits tol n h = omega (arith, size, not_longer (take (2 * stored) work) tol)

module _ (full : Bool) (reason passes stored : ℕ) (tol : Float) (work held : List Float) (l : 2 * stored ≤ length work) where
  abbrev path : List Float
  path = take (2 * stored) work

  abbrev t : Trace
  t = ended full reason passes path

  counted : count path ≡ stored
  counted = omega (arith, size stored work l)

  pub told_full : full ≡ true → (traced (Err (Full passes)) ≡ came_to t tol) × (held ≡ result_after t tol held)
  unfolding came_to result_after
  told_full e = (rw e refl, rw e refl)

  pub told_short : full ≡ false → stored < 3 → (traced (Err (Short passes reason)) ≡ came_to t tol) × (held ≡ result_after t tol held)
  unfolding came_to result_after
  told_short e h = (rw (e, counted, lt-ltb _ _ h) refl, rw (e, counted, lt-ltb _ _ h) refl)

  pub told_all : full ≡ false → 3 ≤ stored → {points : ℕ} {out : List Float} → points ≡ count (simplified path tol) → out ≡ laid (simplified path tol) held
      → (traced (Ok (record { points = points; stored = stored; passes = passes; stop = reason })) ≡ came_to t tol) × (out ≡ result_after t tol held)
  unfolding came_to result_after
  told_all e h p o = (rw (e, counted, le-ltb _ _ h, p) refl, rw (e, counted, le-ltb _ _ h, o) refl)

untraced_only : (a b : Untraced) → untraced a ≡ untraced b → a ≡ b
untraced_only (Refused x) (Refused z) h =
    let same : tells x ≡ tells z = cc in
    let e : ◌≡◌ {A = Result ℕ Refusal} (Err x) (Err z) = answered_only (Err x) (Err z) (cc) in
    cc
untraced_only (Refused x) (Full z) h = cc
untraced_only (Refused x) (Short z w) h = cc
untraced_only (Full x) (Refused z) h = cc
untraced_only (Full x) (Full z) h = cc
untraced_only (Full x) (Short z w) h = cc
untraced_only (Short x y) (Refused z) h = cc
untraced_only (Short x y) (Full z) h = cc
untraced_only (Short x y) (Short z w) h = cc

traces_nothing : (a : answer.Trace) (e : Untraced) → traced (Ok a) ≡ untraced e → ⊥
traces_nothing a (Refused z) h = cc
traces_nothing a (Full z) h = cc
traces_nothing a (Short z w) h = cc

-- the trace that an answer tells, and else another
trace_told : answer.Trace → Answer → answer.Trace
trace_told other (traces points stored passes stop) = record { points = points; stored = stored; passes = passes; stop = stop }
trace_told other (denied r) = other
trace_told other (overfull passes) = other
trace_told other (too_short passes stop) = other

pub traced_only : (a b : Result answer.Trace Untraced) → traced a ≡ traced b → a ≡ b
unfolding trace_told
traced_only (Ok a) (Ok b) h = ap (λ (o : Answer). Ok (trace_told a o)) h
traced_only (Ok a) (Err e) h = absurd (traces_nothing a e h)
traced_only (Err e) (Ok a) h = absurd (traces_nothing a e (sym h))
traced_only (Err x) (Err y) h = ap Err (untraced_only x y h)
