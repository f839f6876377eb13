-- `book_reader::check::check_book` meets its contract: the first of its four parts that finds a fault. Assumes nothing.
use mathlib.Core.Path.{◌≡◌}
use mathlib.Core.List.{List}
use native.Mathlib.Omega.{arith}
use Prim.Native.Nat.{ℕ}
use Rattle.refusals.specs.Refusals.{none}
use Rattle.refusals.proofs.Tests.{refused}
use Rattle.book_reader.specs.Parts.{tail_check}
use Rattle.book_reader.proofs.Files.{Tail, tail_passed, book_is}
use Rattle.book_reader.proofs.check.check_book.Goals as goal

-- the last fields are right
tail : (f : List ℕ) → none ≡ tail_check f → Tail f
tail f e = tail_passed f (rw (← e))

pub returns-in_err-check_tail : goal.returns-in_err-check_tail
returns-in_err-check_tail c = let b = book_is c.args.f.now in grind (arith, refused)

pub entry_offset-from-requires : goal.entry_offset-from-requires
entry_offset-from-requires c = omega (arith, (tail c.args.f.now c.in_ok-check_tail.ensures).low)

pub ring_count-k-requires : goal.ring_count-k-requires
ring_count-k-requires c = omega (arith, (tail c.args.f.now c.in_ok-check_tail.ensures).low)

pub check_entries-requires : goal.check_entries-requires
check_entries-requires c =
    let t = tail c.args.f.now c.in_ok-check_tail.ensures in
    let from = c.entry_offset-from.ensures.0 in
    let k = c.ring_count-k.ensures.0 in
    ((omega (arith, t.sum)), (omega (arith, t.few)), t.high)

pub returns-in_err-check_entries : goal.returns-in_err-check_entries
returns-in_err-check_entries c = let b = book_is c.args.f.now in grind (arith, refused)

pub check_coords-requires : goal.check_coords-requires
check_coords-requires c =
    let t = tail c.args.f.now c.in_ok-check_tail.ensures in
    let from = c.entry_offset-from.ensures.0 in
    ((omega (arith, t.sum)), t.high)

pub returns-in_err-check_coords : goal.returns-in_err-check_coords
returns-in_err-check_coords c = let b = book_is c.args.f.now in grind (arith, refused)

pub check_rings-requires-clause-tail_bytes_value : goal.check_rings-requires-clause-tail_bytes_value
check_rings-requires-clause-tail_bytes_value c =
    let t = tail c.args.f.now c.in_ok-check_tail.ensures in
    let from = c.entry_offset-from.ensures.0 in
    let k = c.ring_count-k.ensures.0 in
    ((omega (arith, t.sum)), (omega (arith, t.few)), t.high)

pub returns : goal.returns
returns c = let b = book_is c.args.f.now in grind (arith, refused)
