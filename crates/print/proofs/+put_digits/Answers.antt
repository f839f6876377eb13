-- `print::put_digits` meets its contract, by the digits that are left. Assumes nothing.
use Prim.Native.Nat.{ℕ, ◌+◌, ◌-◌}
use mathlib.Core.Path.{ap, ◌∙◌}
use native.Mathlib.Omega.{arith}
use lib.ListN.{take, set}
use Rattle.print.proofs.Puts.{digit_more, no_digits}
use Rattle.print.proofs.+put_digits.Goals as goal

pub returns-then-k-gt0 : goal.returns-then-k-gt0
returns-then-k-gt0 t c =
    let a = c.args in
    let l = c.put_digits.new.room in
    ap (λ (d : ℕ). take (a.at + a.k) (set l (a.at + (a.k - 1)) d)) c.digit_byte.ensures
    ∙ digit_more a.room.now l a.base a.at a.k a.n (omega arith) (omega arith) c.put_digits.ensures

pub returns-else-k-gt0 : goal.returns-else-k-gt0
returns-else-k-gt0 t c = let a = c.args in no_digits a.room.now a.base a.at a.k a.n c.if-k-gt0.false
