-- `whole_input::is_whole` meets its contract: the whole part, as a float again. Assumes nothing.
use Rattle.std.proofs.Common.{ℤ, ap, ◌∙◌, w32}
use lib.Ieee.{binary64, eq, of_int}
use mir.ValLaws.{to_z-of_z}
use Rattle.whole_input.specs.Whole.{is_whole}
use Rattle.whole_input.proofs.is_whole.Goals as goal

pub returns : goal.returns
unfolding is_whole
returns c =
    let is = to_z-of_z w32 _ (record { sfits = c.whole_part.type_inv }) ∙ c.whole_part.ensures in
    ap (λ (z : ℤ). eq (of_int binary64 z) c.args.x) is
