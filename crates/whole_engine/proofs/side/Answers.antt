-- `whole_engine::side` meets its contract: the products fit, and one comparison comes after the other. Assumes nothing.
use Prim.Native.Nat.{ℕ, ◌*◌, ◌≤◌}
use native.Mathlib.Omega.{arith}
use native.Mathlib.Nat.{mul-le-mul}
use borrow.Author.Tests.{lt-ltb, le-ltb}
use Rattle.whole_engine.specs.Sides.{side_of}
use Rattle.whole_engine.proofs.side.Goals as goal

bound : {x y : ℕ} → x ≤ 6194304 → y ≤ 6194304 → x * y ≤ 6194304 * 6194304
bound h k = mul-le-mul h k

pub overflow_mul-left : goal.overflow_mul-left
overflow_mul-left c = omega (arith, bound c.requires.0 c.requires.3)

pub overflow_add-left-2 : goal.overflow_add-left-2
overflow_add-left-2 c = omega (arith, bound c.requires.0 c.requires.3)

pub overflow_mul-right : goal.overflow_mul-right
overflow_mul-right c = omega (arith, bound c.requires.1 c.requires.2)

pub overflow_add-right-2 : goal.overflow_add-right-2
overflow_add-right-2 c = omega (arith, bound c.requires.1 c.requires.2)

pub returns-then-right-left : goal.returns-then-right-left
unfolding side_of
returns-then-right-left c = rw (lt-ltb _ _ c.if-right-left.true)

pub returns-then-left-right : goal.returns-then-left-right
unfolding side_of
returns-then-left-right c = rw (le-ltb _ _ c.if-right-left.false, lt-ltb _ _ c.if-left-right.true)

pub returns-else-left-right : goal.returns-else-left-right
unfolding side_of
returns-else-left-right c = rw (le-ltb _ _ c.if-right-left.false, le-ltb _ _ c.if-left-right.false)
