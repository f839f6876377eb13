-- `explain_move::put_book` meets its contract: the two rings that the reader hands out, or its refusal. Assumes nothing.
use Rattle.std.proofs.Common.{ℕ, List, Float, arith, ap, ◌∙◌}
use Rattle.refusals.specs.Refusals.{Told}
use Rattle.lines.specs.Lines.{number_line}
use Rattle.print.proofs.Puts.{reads}
use Rattle.pair_input.proofs.Rings.{pair_read, fault_read, pair_said, fault_said}
use Rattle.explain_move.specs.Said.{explained_text, explained_book_text}
use Rattle.explain_move.proofs.put_book.Goals as goal

abbrev fault : Told → List ℕ
fault no_one = number_line no_one.number

pub put_rings-requires-clause-n_le_vertices_most : goal.put_rings-requires-clause-n_le_vertices_most
put_rings-requires-clause-n_le_vertices_most c =
    let p = pair_read c.args.book.now (λ i. omega (arith, c.type_inv.book i)) _ _ _ c.read_book.result c.read_book.ensures c.in-Ok.field-0 c.in-Ok.is in
    (p.first_most, p.second_most, p.both_inside)

pub returns-in-Ok : goal.returns-in-Ok
unfolding explained_book_text
returns-in-Ok c =
    let a = c.args in
    let f = a.book.now in
    let p = pair_read f (λ i. omega (arith, c.type_inv.book i)) _ _ _ c.read_book.result c.read_book.ensures c.in-Ok.field-0 c.in-Ok.is in
    reads (pair_said (λ (st orb : List Float). explained_text st orb a.translation a.tolerance) fault f p) c.put_rings.ensures

pub returns-in-Err : goal.returns-in-Err
unfolding explained_book_text
returns-in-Err c =
    let a = c.args in
    let f = a.book.now in
    let q = fault_read f (λ i. omega (arith, c.type_inv.book i)) _ _ _ _ c.read_book.ensures c.in-Err.no c.in-Err.is in
    reads (ap number_line c.number.ensures ∙ fault_said (λ (st orb : List Float). explained_text st orb a.translation a.tolerance) fault f q) c.put_number.ensures
