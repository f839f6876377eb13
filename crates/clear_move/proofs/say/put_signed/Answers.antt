-- `clear_move::say::put_signed` meets its contract: a minus where the number is below zero, and the digits. Assumes nothing.
use Rattle.std.proofs.Common.{ap, ◌∙◌, nat_abs, w32, arith}
use mir.ValLaws.{to_z-of_z}
use Rattle.print.specs.Digits.{decimal}
use Rattle.print.proofs.Puts.{then, reads}
use Rattle.clear_move.proofs.Signs.{with_minus, digits_alone}
use Rattle.clear_move.proofs.say.put_signed.Goals as goal

pub returns-then-n-lt0 : goal.returns-then-n-lt0
returns-then-n-lt0 c =
    let digits = reads (ap decimal (c.magnitude.ensures ∙ ap nat_abs (to_z-of_z w32 c.args.n c.ranges.n))) c.put_decimal.ensures.0 in (
      reads (with_minus c.args.n (rw (to_z-of_z w32 c.args.n c.ranges.n) at c.if-n-lt0.true)) (then c.put_text-next.ensures digits),
      omega (arith, c.put_text-next.ensures.ends, c.put_decimal.ensures.1),
    )

pub returns : goal.returns
returns c =
    let digits = reads (ap decimal (c.magnitude-2.ensures ∙ ap nat_abs (to_z-of_z w32 c.args.n c.ranges.n))) c.put_decimal-2.ensures.0 in
    (reads (digits_alone c.args.n (rw (to_z-of_z w32 c.args.n c.ranges.n) at c.if-n-lt0.false)) digits, omega (arith, c.put_decimal-2.ensures.1))
