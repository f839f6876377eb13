-- No two feet have one code, and no two answers say the same. Assumes nothing.
use mathlib.Core.Path.{◌≡◌, refl, ap}
use Prim.Native.Nat.{ℕ}
use lib.Ieee.{Float}
use Rattle.std.specs.Prelude.{Result, Ok, Err}
use Rattle.projection.specs.Foot.{foot_code}
use Rattle.projection.specs.Calls.{Projection, projected}
use Rattle.projection.specs.declared.foot.Foot.{Foot}
use Rattle.projection.specs.declared.foot.Foot.TheVariants.{Start, End, Between}
use Rattle.projection.specs.declared.answer.Projection as answer
use Rattle.refusals.specs.Answers.{Outcome, refuses, tells}
use Rattle.refusals.specs.declared.Refusal.{Refusal}
use Rattle.refusals.proofs.Calls.{answered_only}

pub code_only : (a b : Foot) → foot_code a ≡ foot_code b → a ≡ b
code_only Start Start h = refl
code_only Start End h = cc
code_only Start Between h = cc
code_only End Start h = cc
code_only End End h = refl
code_only End Between h = cc
code_only Between Start h = cc
code_only Between End h = cc
code_only Between Between h = refl

abbrev Answer : Type 0
Answer = Result answer.Projection Refusal

-- two refusals that tell the same
refused_only : (r s : Refusal) → ◌≡◌ {A = Outcome Projection} (refuses (tells r)) (refuses (tells s)) → ◌≡◌ {A = Answer} (Err r) (Err s)
refused_only r s h = let e : ◌≡◌ {A = Result ℕ Refusal} (Err r) (Err s) = answered_only (Err r) (Err s) (cc) in cc

joined : {t u : Float} {f g : Foot} → t ≡ u → f ≡ g
    → ◌≡◌ {A = Answer} (Ok (record { parameter = t; foot = f })) (Ok (record { parameter = u; foot = g }))
joined e h = rw (e, h)

pub projected_only : (a b : Answer) → projected a ≡ projected b → a ≡ b
projected_only (Ok p) (Ok q) h =
    let e : ◌≡◌ {A = Projection} (record { parameter = p.parameter; foot = foot_code p.foot }) (record { parameter = q.parameter; foot = foot_code q.foot }) = cc in
    joined (ap (λ (x : Projection). x.parameter) e) (code_only p.foot q.foot (ap (λ (x : Projection). x.foot) e))
projected_only (Ok p) (Err s) h = cc
projected_only (Err r) (Ok q) h = cc
projected_only (Err r) (Err s) h = refused_only r s h
