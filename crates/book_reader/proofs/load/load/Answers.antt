-- `book_reader::load::load` meets its contract. The loop's invariant: with the numbers from j on stored at their place, the room is what was asked for, and
-- the check passes the coordinates left. Assumes nothing.
use Prim.Native.Nat.{ℕ, ◌+◌, ◌*◌, ◌-◌}
use mathlib.Core.Path.{refl, sym, ap, ◌∙◌}
use mathlib.Core.List.{List, map}
use lib.ListN.{drop, set, length-set}
use lib.Seq.{sets}
use lib.Ieee.{binary64, of_bits}
use Rattle.refusals.specs.Refusals.{passed}
use Rattle.book_layout.specs.Layout.{coordinate_bytes, coordinate_bits, coords_in}
use Rattle.book_reader.proofs.Coords.{coords_start, coord_held, load_start, load_on, load_end}
use Rattle.book_reader.proofs.Fields.{no_nan}
use Rattle.book_reader.proofs.load.load.Goals as goal

pub loop-j-init : goal.loop-j-init
loop-j-init c =
    let f = c.args.f.now in (
      refl,
      ap passed (sym (coords_start f c.args.at c.args.m)) ∙ c.requires.coords_check,
      ap (λ (l : List ℕ). sets c.args.room.now 0 (map (of_bits binary64) l)) (load_start f c.args.at c.args.m),
    )

pub float_from_bits-room : goal.float_from_bits-room
float_from_bits-room c =
    let a = c.args in
    no_nan c.number8-b.result (ap coordinate_bits c.number8-b.ensures ∙ (coord_held a.f.now a.at a.m c.loop-j.j c.loop-j-test.true c.loop-j.invariant.1).0)

pub loop-j-preserved : goal.loop-j-preserved
loop-j-preserved c =
    let a = c.args in
    let f = a.f.now in
    let j = c.loop-j.j in
    let room = c.loop-j.room in
    let t = c.loop-j-test.true in (
      length-set room j (of_bits binary64 c.number8-b.result) ∙ c.loop-j.invariant.0,
      (coord_held f a.at a.m j t c.loop-j.invariant.1).1,
      c.loop-j.invariant.2
          ∙ load_on f a.at a.m j t room
          ∙ ap (λ (b : ℕ). sets (set room j (of_bits binary64 b)) (j + 1) (map (of_bits binary64) (coords_in (a.m - (j + 1)) (drop (a.at + coordinate_bytes * (j + 1)) f)))) (sym c.number8-b.ensures),
    )

pub returns : goal.returns
returns c =
    let a = c.args in
    sym (c.loop-j.invariant.2 ∙ load_end a.f.now a.at a.m c.loop-j.j c.loop-j.room c.loop-j-test.false)
