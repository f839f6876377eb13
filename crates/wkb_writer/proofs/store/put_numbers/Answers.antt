-- `wkb_writer::store::put_numbers` meets its contract. The loop's invariant: with the numbers from j on stored at their place, the room is
-- what was asked for. Assumes nothing.
use Prim.Native.Nat.{ℕ, ◌+◌, ◌*◌}
use mathlib.Core.Path.{◌≡◌, refl, sym, ap, ◌∙◌}
use mathlib.Core.List.{List}
use lib.ListN.{length, get_or, drop}
use lib.Seq.{sets, length-sets}
use lib.Ieee.{nan, binary64, to_bits}
use Rattle.number_bytes.specs.Bytes.{bytes_of}
use Rattle.wkb_layout.specs.Layout.{number_bytes}
use Rattle.wkb_writer.proofs.Storing.{numbers, numbers_start, numbers_on, numbers_end}
use Rattle.wkb_writer.proofs.store.put_numbers.Goals as goal

pub loop-j-init : goal.loop-j-init
loop-j-init c = let a = c.args in (refl, numbers_start a.room.now a.xs.now a.at)

pub loop-j-preserved : goal.loop-j-preserved
loop-j-preserved c =
    let a = c.args in
    let xs = a.xs.now in
    let j = c.loop-j.j in
    let p = a.at + number_bytes * j in
    let v = bytes_of number_bytes (to_bits binary64 (get_or xs j nan)) in
    let e : c.put.new.room ≡ sets c.loop-j.room p v =
    c.put.ensures ∙ ap (λ (n : ℕ). sets c.loop-j.room p (bytes_of number_bytes n)) c.bits_of.ensures in (
      ap length e ∙ length-sets c.loop-j.room p v ∙ c.loop-j.invariant.0,
      c.loop-j.invariant.1
          ∙ numbers_on c.loop-j.room xs a.at j c.loop-j-test.true
          ∙ ap (λ (r : List ℕ). sets r (a.at + number_bytes * (j + 1)) (numbers (drop (j + 1) xs))) (sym e),
    )

pub returns : goal.returns
returns c =
    let a = c.args in
    sym (c.loop-j.invariant.1 ∙ numbers_end c.loop-j.room a.xs.now a.at c.loop-j.j c.loop-j-test.false)
