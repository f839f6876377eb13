-- `collision::is_small` meets its contract: a size is below the tolerance where both the number and its negative are. Assumes nothing.
use mathlib.Core.Path.{◌≡◌, refl, sym, ◌∙◌}
use mathlib.Core.Bool.{Bool, true, false, true≢false}
use lib.Ieee.{Float, nan, inf, fin, lt, neg}
use Rattle.scalar.specs.Scalar.{abs_of}
use Rattle.laws.proofs.Order.{le_lt, lt_of_infinity}
use Rattle.laws.proofs.Plain.{number, minus_below}
use Rattle.collision.proofs.is_small.Goals as goal

negative : (x t : Float) → lt x t ≡ true → lt (neg x) t ≡ lt (abs_of x) t
unfolding abs_of neg
negative nan t h = refl
negative (inf true) t h = refl
negative (inf false) t h = absurd (true≢false (sym h ∙ lt_of_infinity t))
negative (fin true m e) t h = refl
negative (fin false m e) t h = le_lt (fin true m e) (fin false m e) t (unfold neg in minus_below (number m e) (number m e)) h ∙ sym h

itself : (x t : Float) → lt x t ≡ false → false ≡ lt (abs_of x) t
unfolding abs_of
itself nan t h = unfold lt in refl
itself (inf s) t h = sym (lt_of_infinity t)
itself (fin false m e) t h = sym h
itself (fin true m e) t h = by (lt (fin false m e) t) refl
  where
    by : (b : Bool) → lt (fin false m e) t ≡ b → false ≡ b
    by false k = refl
    by true k = absurd (true≢false (sym (le_lt (fin true m e) (fin false m e) t (unfold neg in minus_below (number m e) (number m e)) k) ∙ h))

pub returns-then-x-tolerance : goal.returns-then-x-tolerance
returns-then-x-tolerance c = negative _ _ c.if-x-tolerance.true

pub returns-else-x-tolerance : goal.returns-else-x-tolerance
returns-else-x-tolerance c = itself _ _ c.if-x-tolerance.false
