-- `slide_trace::put_book` meets its contract: the two rings that the reader hands out, or its refusal. Assumes nothing.
use Rattle.std.proofs.Common.{List, Float, arith}
use Rattle.lines.specs.Lines.{refusal_line}
use Rattle.print.proofs.Puts.{reads}
use Rattle.pair_input.proofs.Rings.{pair_read, fault_read, pair_said, fault_said}
use Rattle.slide_trace.specs.Said.{trace_text, traced_book_text}
use Rattle.slide_trace.proofs.put_book.Goals as goal

pub put_rings-requires-clause-n_le_vertices_most : goal.put_rings-requires-clause-n_le_vertices_most
put_rings-requires-clause-n_le_vertices_most c =
    let p = pair_read c.args.book.now (λ i. omega (arith, c.type_inv.book i)) _ _ _ c.read_book.result c.read_book.ensures c.in-Ok.field-0 c.in-Ok.is in
    (p.first_most, p.second_most, p.both_inside)

pub returns-in-Ok : goal.returns-in-Ok
unfolding traced_book_text
returns-in-Ok c =
    let f = c.args.book.now in
    let p = pair_read f (λ i. omega (arith, c.type_inv.book i)) _ _ _ c.read_book.result c.read_book.ensures c.in-Ok.field-0 c.in-Ok.is in
    reads (pair_said (λ (st orb : List Float). trace_text st orb c.args.settings) refusal_line f p) c.put_rings.ensures

pub returns-in-Err : goal.returns-in-Err
unfolding traced_book_text
returns-in-Err c =
    let f = c.args.book.now in
    let q = fault_read f (λ i. omega (arith, c.type_inv.book i)) _ _ _ _ c.read_book.ensures c.in-Err.no c.in-Err.is in
    reads (fault_said (λ (st orb : List Float). trace_text st orb c.args.settings) refusal_line f q) c.put_refusal.ensures
