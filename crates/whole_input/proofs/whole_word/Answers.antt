-- `whole_input::whole_word` meets its contract: the four bytes' number, with its sign. Assumes nothing.
use Rattle.std.proofs.Common.{ap, ◌∙◌, w32}
use mir.ValLaws.{to_z-of_z}
use Rattle.whole_input.specs.Whole.{signed_of}
use Rattle.whole_input.proofs.whole_word.Goals as goal

pub returns : goal.returns
returns c =
    to_z-of_z w32 _ (record { sfits = c.signed_of.type_inv })
    ∙ c.signed_of.ensures
    ∙ ap signed_of c.number4.ensures.0
