-- `discs::negated` meets its contract: 0 less the number, as the machine has it, is its negation. Assumes nothing.
use mathlib.Core.Path.{◌≡◌, sym, ap, subst, ◌∙◌}
use lib.IntN.{ℤ, pos, ◌-ℤ◌, neg_ℤ}
use mir.Syntax.{w32}
use mir.Val.{to_z, of_z, SFits}
use mir.ValLaws.{to_z-of_z}
use Rattle.discs.proofs.Turned.{negated_is, negated_fits}
use Rattle.discs.proofs.negated.Goals as goal
use Rattle.discs.proofs.negated.Goals.{Start}

minus : (c : Start) → pos 0 -ℤ to_z w32 (of_z w32 c.args.n) ≡ neg_ℤ c.args.n
minus c = ap (λ (z : ℤ). pos 0 -ℤ z) (to_z-of_z w32 c.args.n c.ranges.n) ∙ negated_is c.args.n

pub overflow_sub-result : goal.overflow_sub-result
overflow_sub-result c = subst (SFits w32) (sym (minus c)) (negated_fits c.args.n c.requires)

pub returns : goal.returns
returns c = to_z-of_z w32 _ (overflow_sub-result c) ∙ minus c
