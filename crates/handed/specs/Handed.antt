-- What an exported function returns and what the cells behind its pointers hold afterwards, by the outcome of the call that it makes. Definitions only.
use Rattle.std.specs.Prelude.{ℕ, Bool, cond, Float, Option, None, Some}
use Rattle.plane.specs.declared.Point.{Point}
use Rattle.projection.specs.Calls.{Projection}
use Rattle.collision.specs.declared.Hit.{Hit}
use Rattle.refusals.specs.Answers.{Outcome, answers, refuses}
use Rattle.refusals.specs.Refusals as refusal
use Rattle.refusals.specs.Refusals.{Told}

-- the refusal of a call: none where it answers
unfoldable pub refusal_in : {A : Type 0} → Outcome A → Told
refusal_in (answers a) = refusal.none
refusal_in (refuses r) = r

-- its number
abbrev pub returned : {A : Type 0} → Outcome A → ℕ
returned o = (refusal_in o).number

-- a cell for a place: that of a refusal that tells one, and else what the cell held
unfoldable pub place_of : Told → ℕ → ℕ
place_of r held = cond (refusal.tells_place r.number) r.place held

abbrev pub told_place : {A : Type 0} → Outcome A → ℕ → ℕ
told_place o held = place_of (refusal_in o) held

-- a cell: what is said of the answer, and on a refusal what it held
unfoldable pub told : {A B : Type 0} → (A → B) → Outcome A → B → B
told say (answers a) held = say a
told say (refuses r) held = held

-- a cell for what was found: where nothing was, what it held
unfoldable pub told_found : {A B : Type 0} → (A → B) → Outcome (Option A) → B → B
told_found say (answers None) held = held
told_found say (answers (Some a)) held = say a
told_found say (refuses r) held = held

-- an answer as it is
abbrev pub itself : {A : Type 0} → A → A
itself a = a

-- 1 for true, 0 for false
abbrev pub flag : Bool → ℕ
flag b = cond b 1 0

-- 1 where something was found, 0 where nothing was
unfoldable pub is_found : {A : Type 0} → Option A → ℕ
is_found None = 0
is_found (Some a) = 1

-- a point's coordinates
abbrev pub x_of : Point → Float
x_of p = p.x

abbrev pub y_of : Point → Float
y_of p = p.y

-- a projection's values
abbrev pub parameter_in : Projection → Float
parameter_in p = p.parameter

abbrev pub foot_in : Projection → ℕ
foot_in p = p.foot

-- a hit's values
abbrev pub hit_distance : Hit → Float
hit_distance v = v.distance

abbrev pub hit_kind : Hit → ℕ
hit_kind v = v.kind

abbrev pub hit_stationary : Hit → ℕ
hit_stationary v = v.stationary

abbrev pub hit_orbiting : Hit → ℕ
hit_orbiting v = v.orbiting
