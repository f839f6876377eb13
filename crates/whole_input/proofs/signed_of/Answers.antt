-- `whole_input::signed_of` meets its contract: what is taken from -1 is below 2 ^ 31. Assumes nothing.
use borrow.Author.Rules.{rules}
use Rattle.std.proofs.Common.{◌≡◌, ◌-◌, pos, negsuc, ◌-ℤ◌, sym, ap, ◌∙◌, subst, arith, w32, SFits, to_z, rules}
use mir.ValLaws.{to_z-of_z}
use Rattle.whole_input.proofs.Signs.{low_half, high_half, from_last}
use Rattle.whole_input.proofs.signed_of.Goals as goal
use Rattle.whole_input.proofs.signed_of.Goals.{Else-w-lt2147483648}

pub overflow_cast-result-2 : goal.overflow_cast-result-2
overflow_cast-result-2 c = search rules

-- what is left, as the machine has it
left : (c : Else-w-lt2147483648) → negsuc 0 -ℤ to_z w32 (4294967295 - c.args.w) ≡ negsuc (4294967295 - c.args.w)
left c =
    let k = 4294967295 - c.args.w in
    ap (λ z. negsuc 0 -ℤ z) (to_z-of_z w32 (pos k) (overflow_cast-result-2 c)) ∙ from_last k

pub overflow_cast-result : goal.overflow_cast-result
overflow_cast-result c = search rules

pub returns-then-w-lt2147483648 : goal.returns-then-w-lt2147483648
returns-then-w-lt2147483648 c = to_z-of_z w32 (pos c.args.w) (overflow_cast-result c) ∙ low_half c.args.w c.if-w-lt2147483648.true

pub overflow_sub-result-2 : goal.overflow_sub-result-2
overflow_sub-result-2 c = subst (SFits w32) (sym (left c)) (record { sfits = omega (arith, c.if-w-lt2147483648.false) })

pub returns : goal.returns
returns c = to_z-of_z w32 _ (overflow_sub-result-2 c) ∙ left c ∙ high_half c.args.w c.if-w-lt2147483648.false
