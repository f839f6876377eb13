-- `book_writer::store::put_ring` meets its contract. The loop's invariant: with the coordinates from j on stored at their place, the room is what was
-- asked for. Assumes nothing.
use Prim.Native.Nat.{ℕ, ◌+◌, ◌*◌}
use mathlib.Core.Path.{◌≡◌, refl, sym, ap, ◌∙◌}
use mathlib.Core.List.{List}
use native.Mathlib.Omega.{arith}
use lib.ListN.{length, get_or, drop}
use lib.Seq.{sets, length-sets}
use Rattle.reading.specs.Reading.{flat, choice}
use Rattle.reading.specs.Lent.{ring_of}
use Rattle.reading.proofs.Places.{length_choice}
use Rattle.number_bytes.specs.Bytes.{bytes_of}
use Rattle.book_layout.specs.Layout.{coordinate_bytes, coord_bytes}
use Rattle.book_writer.proofs.Storing.{ring_start, ring_on, ring_end}
use Rattle.book_writer.proofs.store.put_ring.Goals as goal

pub loop-j-init : goal.loop-j-init
loop-j-init c =
    let a = c.args in
    (refl, ring_start a.room.now (flat (choice (ring_of a.ring.now) a.c)) a.at)

pub loop-j-preserved : goal.loop-j-preserved
loop-j-preserved c =
    let xs = c.args.ring.now in
    let f = flat (choice (ring_of xs) c.args.c) in
    let j = c.loop-j.j in
    let p = c.args.at + coordinate_bytes * j in
    let n = length_choice xs c.requires.lent.even c.args.c in
    let e : c.put.new.room ≡ sets c.loop-j.room p (bytes_of coordinate_bytes (get_or f j 0)) =
    c.put.ensures ∙ ap (λ (v : ℕ). sets c.loop-j.room p (bytes_of coordinate_bytes v)) c.coordinate-b.ensures in (
      ap length e ∙ length-sets c.loop-j.room p (bytes_of coordinate_bytes (get_or f j 0)) ∙ c.loop-j.invariant.0,
      c.loop-j.invariant.1
          ∙ ring_on c.loop-j.room f c.args.at j (omega arith)
          ∙ ap (λ (r : List ℕ). sets r (c.args.at + coordinate_bytes * (j + 1)) (coord_bytes (drop (j + 1) f))) (sym e),
    )

pub returns : goal.returns
returns c =
    let xs = c.args.ring.now in
    let n = length_choice xs c.requires.lent.even c.args.c in
    sym (c.loop-j.invariant.1 ∙ ring_end c.loop-j.room (flat (choice (ring_of xs) c.args.c)) c.args.at c.loop-j.j (omega arith))
