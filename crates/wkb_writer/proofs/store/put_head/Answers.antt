-- `wkb_writer::store::put_head` meets its contract: four fields, one after the other. Assumes nothing.
use mathlib.Core.Path.{ap, ◌∙◌}
use mathlib.Core.List.{List}
use Prim.Native.Nat.{ℕ}
use lib.Seq.{sets}
use Rattle.number_bytes.specs.Bytes.{bytes_of}
use Rattle.wkb_layout.specs.Layout.{code_bytes, type_at, rings_at, points_at, polygon_type}
use Rattle.wkb_writer.proofs.Storing.{head_runs}
use Rattle.wkb_writer.proofs.store.put_head.Goals as goal

pub returns : goal.returns
returns c =
    let a = c.args in
    let e2 = c.put-2.ensures ∙ ap (λ (r : List ℕ). sets r type_at (bytes_of code_bytes polygon_type)) c.put.ensures in
    let e3 = c.put-3.ensures ∙ ap (λ (r : List ℕ). sets r rings_at (bytes_of code_bytes 1)) e2 in
    c.put-4.ensures
    ∙ ap (λ (r : List ℕ). sets r points_at (bytes_of code_bytes a.points)) e3
    ∙ head_runs a.room.now a.points
