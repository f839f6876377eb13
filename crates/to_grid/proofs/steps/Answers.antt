-- `to_grid::steps` meets its contract. Assumes nothing.
use Prim.Native.Nat.{◌+◌, ◌/◌, ◌^◌, ◌<◌}
use native.Mathlib.Omega.{arith}
use mathlib.Core.Path.{ap, ◌∙◌}
use mathlib.Core.Logic.{inl, inr}
use Rattle.square_root.proofs.Numbers.{lt_or_le}
use Rattle.to_grid.proofs.Digits.{digits_of, cut_small, steps_is}
use Rattle.to_grid.proofs.steps.Goals as goal
use Rattle.to_grid.proofs.steps.Goals.{After-places}

-- what is left of the halves
small : (c : After-places) → c.halves.result / 2 ^ c.places.result < 2 ^ 41
small c = rw c.halves.ensures (cut_small (digits_of c.args.b) _ (omega arith) c.requires.1 _)

pub halves-requires : goal.halves-requires
halves-requires c = (omega arith, c.requires.1)

pub places-requires : goal.places-requires
places-requires c = omega (arith, c.requires.0)

pub overflow_shr-cut : goal.overflow_shr-cut
overflow_shr-cut c =
    elim (lt_or_le (c.args.b / 4503599627370496) 979) [
      | inl l ↦ omega (arith, c.places.ensures.0 l)
      | inr g ↦ omega (arith, c.places.ensures.1 g)
    ]

pub overflow_add-result : goal.overflow_add-result
overflow_add-result c = omega (arith, small c)

pub returns : goal.returns
returns c =
    let e = c.places.ensures in (
      ap (λ h. (h / 2 ^ c.places.result + 1) / 2) c.halves.ensures
          ∙ steps_is c.args.b c.args.units c.requires.1 _ (omega (arith, c.requires.0)) e.0 e.1,
      omega (arith, small c),
    )
