-- `ring::room::copy` meets its contract. Assumes nothing.
use native.Mathlib.Omega.{arith}
use mathlib.Core.Path.{refl}
use lib.ListN.{length-set}
use lib.Ieee.{nan}
use Rattle.ring.proofs.Emit.{emit_next, emit_all}
use Rattle.ring.proofs.room.copy.Goals as goal

pub loop-i-init : goal.loop-i-init
loop-i-init c = (refl, refl)

pub loop-i-preserved : goal.loop-i-preserved
loop-i-preserved c =
    let v = c.loop-i.invariant in
    (simp length-set v.0, emit_next _ _ _ _ nan (omega arith) (omega arith) v.1)

pub returns : goal.returns
returns c = emit_all _ _ _ _ _ (omega arith) (omega arith) c.requires.0 c.loop-i.invariant.1
