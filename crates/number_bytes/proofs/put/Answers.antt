-- `number_bytes::put` meets its contract. The loop's invariant: with the bytes of what is left of the number stored from at + i on, the room is what
-- was asked for. Assumes nothing.
use Prim.Native.Nat.{◌+◌, ◌%◌}
use mathlib.Core.Path.{refl, sym, ◌∙◌}
use lib.ListN.{length-set}
use Rattle.number_bytes.proofs.Puts.{put_start, put_on, put_end}
use Rattle.number_bytes.proofs.put.Goals as goal

pub loop-i-init : goal.loop-i-init
loop-i-init c = (refl, put_start c.args.room.now c.args.at c.args.k c.args.n)

pub loop-i-preserved : goal.loop-i-preserved
loop-i-preserved c =
    let a = c.args in
    let room = c.loop-i.room in
    let i = c.loop-i.i in
    let rest = c.loop-i.rest in
    (length-set room (a.at + i) (rest % 256) ∙ c.loop-i.invariant.0, c.loop-i.invariant.1 ∙ put_on room a.at a.k i rest c.loop-i-test.true)

pub returns : goal.returns
returns c =
    let a = c.args in
    sym (c.loop-i.invariant.1 ∙ put_end c.loop-i.room a.at a.k c.loop-i.i c.loop-i.rest c.loop-i-test.false)
