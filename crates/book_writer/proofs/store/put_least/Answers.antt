-- `book_writer::store::put_least` meets its contract: the reading that `least` answers is the least one. Assumes nothing.
use Prim.Native.Nat.{ℕ}
use mathlib.Core.Path.{ap, ◌∙◌}
use lib.Seq.{sets}
use Rattle.reading.specs.Reading.{flat, choice, least_reading}
use Rattle.reading.specs.Lent.{ring_of}
use Rattle.book_layout.specs.Layout.{coord_bytes}
use Rattle.book_writer.proofs.store.put_least.Goals as goal

pub returns : goal.returns
unfolding least_reading
returns c =
    let a = c.args in
    c.put_ring.ensures
    ∙ ap (λ (j : ℕ). sets a.room.now a.at (coord_bytes (flat (choice (ring_of a.ring.now) j)))) c.least-c.ensures.0
