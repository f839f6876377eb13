-- `wkb_writer::store::put_drawing` meets its contract: three runs of stores, one after the other. Assumes nothing.
use Prim.Native.Nat.{ℕ, ◌+◌, ◌*◌}
use mathlib.Core.Path.{ap, ◌∙◌}
use mathlib.Core.List.{List}
use native.Mathlib.Omega.{arith}
use lib.ListN.{length, take, length-take}
use lib.Seq.{sets}
use Rattle.wkb_layout.specs.Layout.{number_bytes, head_bytes}
use Rattle.wkb_writer.proofs.Storing.{numbers}
use Rattle.wkb_writer.proofs.Stored.{three_runs}
use Rattle.wkb_writer.proofs.store.put_drawing.Goals as goal

pub put_numbers-requires-2 : goal.put_numbers-requires-2
put_numbers-requires-2 c = ((simp length-take (omega arith)), (simp length-take (omega arith)))

pub returns : goal.returns
returns c =
    let xs = c.args.xs.now in
    let last = head_bytes + number_bytes * length xs in
    let e = c.put_numbers.ensures ∙ ap (λ (r : List ℕ). sets r head_bytes (numbers xs)) c.put_head.ensures in record {
      value = (omega arith);
      room_after = c.put_numbers-2.ensures
          ∙ ap (λ (r : List ℕ). sets r last (numbers (take 2 xs))) e
          ∙ three_runs xs c.args.room.now c.requires.xs_len.0 c.requires.xs_len.1 c.requires.xs_in_bounds;
    }
