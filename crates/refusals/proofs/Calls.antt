-- A call's answer, where its tests pass and where one refuses; and that no two answers say the same. Assumes nothing.
use mathlib.Core.Path.{◌≡◌, refl, sym, ap, ◌∙◌}
use mathlib.Core.Bool.{Bool, true, false, cond}
use lib.Dec.{eqb}
use Rattle.std.specs.Prelude.{Result, Ok, Err}
use Rattle.plane.specs.Orientation.{turn_number}
use Rattle.plane.specs.declared.Orientation.{Orientation}
use Rattle.plane.specs.declared.Orientation.TheVariants.{CounterClockwise, Clockwise, Collinear}
use Rattle.refusals.specs.declared.Refusal.{Refusal}
use Rattle.refusals.specs.declared.Refusal.TheVariants.{Length, Number, Setting, Room, Fit, ShortPath, Book, Few, Many, Wkb, Remaining, Quarter, Inspection, Grid}
use Rattle.refusals.specs.Answers.{answers, refuses, outcome, left, tells, answered, turn}
use Rattle.refusals.specs.Refusals.{Told, passed}

module _ {A : Type 0} {n : Told} {p : Bool} (w : Told) (e : n ≡ w) (h : p ≡ passed n) where
  pub goes : {v : A} (d : A) → p ≡ true → v ≡ d → answers v ≡ outcome w d
  goes d t q = rw (← e, ← h, t, q)

  pub stops : (d : A) → p ≡ false → refuses n ≡ outcome w d
  stops d t = rw (← e, ← h, t)

  -- a lent list, written or kept
  pub wrote : {out : A} (o held : A) → p ≡ true → out ≡ o → out ≡ left w o held
  wrote o held t q = rw (← e, ← h, t, q)

  pub kept : (o held : A) → p ≡ false → held ≡ left w o held
  kept o held t = rw (← e, ← h, t)

-- Two answers that meet one statement are equal: every promise says `f answer ≡ definition`, with an f that tells every two answers apart.
pub unique : {A B : Type 0} (f : A → B) → ((a b : A) → f a ≡ f b → a ≡ b) → (o : B) (a b : A) → f a ≡ o → f b ≡ o → a ≡ b
unique f apart o a b p q = apart a b (p ∙ sym q)

-- what is told says which refusal it was
untold : Told → Refusal
untold t =
    cond (eqb t.number 1) (Length t.place) (
    cond (eqb t.number 2) Number (
    cond (eqb t.number 3) Setting (
    cond (eqb t.number 4) Room (
    cond (eqb t.number 5) Fit (
    cond (eqb t.number 6) ShortPath (
    cond (eqb t.number 7) (Book t.place) (
    cond (eqb t.number 8) (Few t.place) (
    cond (eqb t.number 9) (Many t.place) (
    cond (eqb t.number 10) (Wkb t.place) (
    cond (eqb t.number 11) Remaining (
    cond (eqb t.number 12) Quarter (
    cond (eqb t.number 13) Inspection Grid))))))))))))

untold_tells : (r : Refusal) → untold (tells r) ≡ r
unfolding untold
untold_tells (Length at) = refl
untold_tells Number = refl
untold_tells Setting = refl
untold_tells Room = refl
untold_tells Fit = refl
untold_tells ShortPath = refl
untold_tells (Book at) = refl
untold_tells (Few at) = refl
untold_tells (Many at) = refl
untold_tells (Wkb at) = refl
untold_tells Remaining = refl
untold_tells Quarter = refl
untold_tells Inspection = refl
untold_tells Grid = refl

tells_only : (a b : Refusal) → tells a ≡ tells b → a ≡ b
tells_only a b h = sym (untold_tells a) ∙ ap untold h ∙ untold_tells b

-- the maps of the answers tell every two apart
pub answered_only : {A : Type 0} (a b : Result A Refusal) → answered a ≡ answered b → a ≡ b
answered_only (Ok x) (Ok y) h = cc
answered_only (Ok x) (Err r) h = cc
answered_only (Err r) (Ok y) h = cc
answered_only (Err r) (Err s) h = cc (tells_only r s (cc))

orientation_only : (a b : Orientation) → turn_number a ≡ turn_number b → a ≡ b
orientation_only CounterClockwise CounterClockwise h = refl
orientation_only CounterClockwise Clockwise h = cc
orientation_only CounterClockwise Collinear h = cc
orientation_only Clockwise CounterClockwise h = cc
orientation_only Clockwise Clockwise h = refl
orientation_only Clockwise Collinear h = cc
orientation_only Collinear CounterClockwise h = cc
orientation_only Collinear Clockwise h = cc
orientation_only Collinear Collinear h = refl

pub turn_only : (a b : Result Orientation Refusal) → turn a ≡ turn b → a ≡ b
turn_only (Ok x) (Ok y) h = cc (orientation_only x y (cc))
turn_only (Ok x) (Err r) h = cc
turn_only (Err r) (Ok y) h = cc
turn_only (Err r) (Err s) h = cc (tells_only r s (cc))
