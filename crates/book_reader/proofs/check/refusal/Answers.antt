-- `book_reader::check::refusal` meets its contract: the first fault, and then the rooms. Assumes nothing.
use mathlib.Core.Path.{◌≡◌}
use mathlib.Core.List.{List}
use native.Mathlib.Omega.{arith}
use Prim.Native.Nat.{ℕ}
use Rattle.refusals.specs.Refusals.{none}
use Rattle.refusals.proofs.Tests.{refused}
use Rattle.book_layout.specs.Faults.{◌passes, book_check}
use Rattle.book_layout.specs.Reader.{read_refusal}
use Rattle.book_layout.proofs.Exact.{checked}
use Rattle.book_reader.proofs.Files.{rooms_read}
use Rattle.book_reader.proofs.check.refusal.Goals as goal

-- the file has no fault
fine : (f : List ℕ) → none ≡ book_check f → book_check f passes
fine f e = rw (← e)

pub returns-in_err-check_book : goal.returns-in_err-check_book
unfolding read_refusal
returns-in_err-check_book c = grind (arith, refused)

pub entry_offset-numbers-requires : goal.entry_offset-numbers-requires
entry_offset-numbers-requires c = omega (arith, (checked c.args.f.now (fine c.args.f.now c.in_ok-check_book.ensures)).long)

pub ring_count-requires : goal.ring_count-requires
ring_count-requires c = omega (arith, (checked c.args.f.now (fine c.args.f.now c.in_ok-check_book.ensures)).long)

pub returns : goal.returns
returns c =
    let a = c.args in
    rooms_read a.f.now a.room a.counts a.parts (fine a.f.now c.in_ok-check_book.ensures) c.entry_offset-numbers.ensures.0 c.ring_count.ensures.0 c.book_rooms.ensures
