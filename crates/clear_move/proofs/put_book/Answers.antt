-- `clear_move::put_book` meets its contract: the rings that the reader hands out, or its fault. Assumes nothing.
use Rattle.std.proofs.Common.{List, Float, length, ◌∙◌, w32, arith}
use mir.ValLaws.{to_z-of_z}
use Rattle.book_layout.specs.Layout.{counts_of}
use Rattle.book_layout.specs.Reader.{numbers_of}
use Rattle.lines.specs.Lines.{refusal_line}
use Rattle.print.proofs.Puts.{reads}
use Rattle.pair_input.proofs.Rings.{pair_read, fault_read, pair_said, fault_said}
use Rattle.clear_move.specs.Said.{rings_text, book_text}
use Rattle.clear_move.proofs.Inputs.{same_rings}
use Rattle.clear_move.proofs.Books.{read}
use Rattle.clear_move.proofs.put_book.Goals as goal

pub put_rings-requires-clause-n_le_vertices_most : goal.put_rings-requires-clause-n_le_vertices_most
put_rings-requires-clause-n_le_vertices_most c =
    let f = c.args.book.now in
    let p = pair_read f (λ i. omega (arith, c.type_inv.book i)) _ _ _ c.read_book.result c.read_book.ensures c.in-Ok.rings c.in-Ok.is in
    (p.first_most, p.second_most, p.both_inside)

pub put_rings-requires-clause-xs_value : goal.put_rings-requires-clause-xs_value
put_rings-requires-clause-xs_value c =
    let f = c.args.book.now in
    let q = read f (λ i. omega (arith, c.type_inv.book i)) _ _ _ c.read_book.result c.read_book.ensures c.in-Ok.rings c.in-Ok.is in
    (q.bounded, omega arith)

pub returns-in-Ok : goal.returns-in-Ok
unfolding book_text
returns-in-Ok c =
    let a = c.args in
    let f = a.book.now in
    let p = pair_read f (λ i. omega (arith, c.type_inv.book i)) _ _ _ c.read_book.result c.read_book.ensures c.in-Ok.rings c.in-Ok.is in
    let q = read f (λ i. omega (arith, c.type_inv.book i)) _ _ _ c.read_book.result c.read_book.ensures c.in-Ok.rings c.in-Ok.is in
    reads
    (same_rings _ _ _ _ q.told q.whole (to_z-of_z w32 _ c.ranges.dx) (to_z-of_z w32 _ c.ranges.dy)
    ∙ pair_said (λ (st orb : List Float). rings_text (length (counts_of f)) (numbers_of f) st orb a.dx a.dy) refusal_line f p)
    c.put_rings.ensures

pub returns-in-Err : goal.returns-in-Err
unfolding book_text
returns-in-Err c =
    let a = c.args in
    let f = a.book.now in
    let q = fault_read f (λ i. omega (arith, c.type_inv.book i)) _ _ _ _ c.read_book.ensures c.in-Err.no c.in-Err.is in
    reads (fault_said (λ (st orb : List Float). rings_text (length (counts_of f)) (numbers_of f) st orb a.dx a.dy) refusal_line f q) c.put_refusal.ensures
