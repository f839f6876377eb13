-- `ring_printer::put_book` meets its contract: what the reader hands out can be printed. Assumes nothing.
use Rattle.std.proofs.Common.{arith}
use Rattle.print.proofs.Puts.{reads}
use Rattle.ring_printer.proofs.Books.{printable, rings_said, fault_told}
use Rattle.ring_printer.proofs.put_book.Goals as goal

pub put_all-requires-clause-counts_len_bound : goal.put_all-requires-clause-counts_len_bound
put_all-requires-clause-counts_len_bound c =
    let r = c.read_book in
    printable c.args.book.now (λ i. omega (arith, c.type_inv.book i)) r.new.coordinates r.new.counts r.new.parts r.result r.ensures c.in-Ok.k c.in-Ok.is

pub returns-in-Ok : goal.returns-in-Ok
returns-in-Ok c =
    let r = c.read_book in
    reads (rings_said c.args.book.now (λ i. omega (arith, c.type_inv.book i)) r.new.coordinates r.new.counts r.new.parts r.result r.ensures c.in-Ok.k c.in-Ok.is)
    c.put_all.ensures

pub returns-in-Err : goal.returns-in-Err
returns-in-Err c =
    let r = c.read_book in
    reads (fault_told c.args.book.now (λ i. omega (arith, c.type_inv.book i)) r.new.coordinates r.new.counts r.new.parts r.result r.ensures c.in-Err.no c.in-Err.is)
    c.put_refusal.ensures
