-- `whole_input::whole_part` meets its contract: the whole part of a coordinate fits 32 bits. Assumes nothing.
use Rattle.std.proofs.Common.{◌≡◌, T, sym, ◌∙◌, subst, w32, w64, SFits, to_z, of_z}
use mir.ValLaws.{to_z-of_z}
use Rattle.whole_input.specs.Whole.{whole_part}
use Rattle.whole_input.proofs.Parts.{above_least, below_most, part_small}
use Rattle.whole_input.proofs.whole_part.Goals as goal
use Rattle.whole_input.proofs.whole_part.Goals.{After-truncating_f64_to_i64}

-- the whole part, as the machine has it
part : (c : After-truncating_f64_to_i64) → to_z w64 (of_z w64 c.truncating_f64_to_i64.result) ≡ whole_part c.args.x
part c = to_z-of_z w64 _ (record { sfits = c.truncating_f64_to_i64.type_inv }) ∙ c.truncating_f64_to_i64.ensures

pub truncating_f64_to_i64-requires : goal.truncating_f64_to_i64-requires
truncating_f64_to_i64-requires c =
    let x = c.args.x in
    record { lower_bound = subst T (sym (above_least x c.requires)) tt; upper_bound = subst T (sym (below_most x c.requires)) tt }

pub overflow_cast-result : goal.overflow_cast-result
overflow_cast-result c = subst (SFits w32) (sym (part c)) (record { sfits = part_small c.args.x c.requires })

pub returns : goal.returns
returns c = to_z-of_z w32 _ (overflow_cast-result c) ∙ part c
