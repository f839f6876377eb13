-- What a caller is told of the refusal that a call's answer, handed over, gives. Assumes nothing.
use Prim.Native.Nat.{ℕ}
use mathlib.Core.Path.{◌≡◌, ap, ◌∙◌}
use Rattle.refusals.specs.Answers.{Outcome}
use Rattle.refusals.specs.Refusals.{Told}
use Rattle.handed.specs.Handed.{refusal_in, returned, place_of, told_place}

module _ {A : Type 0} {o d : Outcome A} {r : Told} (e : o ≡ d) (h : r ≡ refusal_in o) where
  pub number_told : {n : ℕ} → n ≡ r.number → n ≡ returned d
  number_told q = q ∙ ap (λ (x : Told). x.number) (h ∙ ap refusal_in e)

  pub place_told : {p : ℕ} (held : ℕ) → p ≡ place_of r held → p ≡ told_place d held
  place_told held q = q ∙ ap (λ (x : Told). place_of x held) (h ∙ ap refusal_in e)
