-- `whole_engine::signed_area2` meets its contract: the front of the array has the points of the ring. Assumes nothing.
use native.Mathlib.Omega.{arith}
use borrow.Author.Rules.{sfits_of}
use mir.Syntax.{w64}
use mir.ValLaws.{to_z-of_z}
use mathlib.Core.Path.{◌∙◌}
use Rattle.whole_engine.proofs.Lifting.{length_front, small_front, area_front}
use Rattle.whole_engine.proofs.signed_area2.Goals as goal

pub area2-requires : goal.area2-requires
area2-requires c =
    (omega (arith, length_front c.args.ring.now _ c.lift.ensures, c.requires.0), small_front c.args.ring.now _ c.lift.ensures c.requires.1)

pub returns : goal.returns
returns c =
    to_z-of_z w64 _ (sfits_of c.area2.type_inv) ∙ area_front c.args.ring.now _ c.lift.ensures c.area2.ensures
