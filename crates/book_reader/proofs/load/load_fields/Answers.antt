-- `book_reader::load::load_fields` meets its contract. The loop's invariant: with the fields from i on stored at their place, the room is what was asked
-- for. Assumes nothing.
use Prim.Native.Nat.{ℕ, ◌+◌, ◌*◌, ◌-◌}
use mathlib.Core.Path.{refl, sym, ap, ◌∙◌}
use lib.ListN.{drop, set, length-set}
use lib.Seq.{sets}
use Rattle.book_layout.specs.Layout.{entry_bytes, fields_in}
use Rattle.book_reader.proofs.Entries.{fields_start, fields_on, fields_end}
use Rattle.book_reader.proofs.load.load_fields.Goals as goal

pub loop-i-init : goal.loop-i-init
loop-i-init c =
    let a = c.args in
    (refl, ap (sets a.room.now 0) (fields_start a.f.now a.p a.from a.k))

pub loop-i-preserved : goal.loop-i-preserved
loop-i-preserved c =
    let a = c.args in
    let f = a.f.now in
    let i = c.loop-i.i in
    let room = c.loop-i.room in (
      length-set room i c.number4.result ∙ c.loop-i.invariant.0,
      c.loop-i.invariant.1
          ∙ fields_on f a.p a.from a.k i c.loop-i-test.true room
          ∙ ap (λ (b : ℕ). sets (set room i b) (i + 1) (fields_in a.p (a.k - (i + 1)) (drop (a.from + entry_bytes * (i + 1)) f))) (sym c.number4.ensures.0),
    )

pub returns : goal.returns
returns c =
    let a = c.args in
    sym (c.loop-i.invariant.1 ∙ ap (sets c.loop-i.room c.loop-i.i) (fields_end a.f.now a.p a.from a.k c.loop-i.i c.loop-i-test.false))
