-- `book_reader::check::are_coordinate_bits` meets its contract: a NaN's pattern is none, and of the others the number decides, and how it is kept. Assumes nothing.
use Prim.Native.Nat.{ℕ}
use mathlib.Core.Path.{◌≡◌, sym, ap, ◌∙◌}
use mathlib.Core.Bool.{not, true}
use lib.Dec.{eqb}
use lib.Ieee.{binary64, of_bits}
use borrow.Author.Tests.{not-true, not-false}
use Rattle.refusals.specs.Bounds.{coordinate}
use Rattle.refusals.proofs.Coordinate.{coordinate_number}
use Rattle.book_reader.proofs.Fields.{no_coordinate, as_kept, too_high, not_high}
use Rattle.book_reader.proofs.check.are_coordinate_bits.Goals as goal
use Rattle.book_reader.proofs.check.are_coordinate_bits.Goals.{Else-not-is_coordinate}

held : (c : Else-not-is_coordinate) → coordinate (of_bits binary64 c.args.b) ≡ true
held c = sym c.is_coordinate.ensures ∙ not-false c.is_coordinate.result (ap not c.if-not-is_coordinate.false)

pub returns-then-b-gt9218868437227405312 : goal.returns-then-b-gt9218868437227405312
returns-then-b-gt9218868437227405312 c = too_high c.args.b c.if-b-gt9218868437227405312.true

pub float_from_bits-x : goal.float_from_bits-x
float_from_bits-x c = not_high c.args.b c.if-b-gt9218868437227405312.false

pub returns-then-not-is_coordinate : goal.returns-then-not-is_coordinate
returns-then-not-is_coordinate c =
    no_coordinate c.args.b (sym c.is_coordinate.ensures ∙ not-true c.is_coordinate.result (ap not c.if-not-is_coordinate.true))

pub kept_bits-requires : goal.kept_bits-requires
kept_bits-requires c = coordinate_number (of_bits binary64 c.args.b) (held c)

pub returns : goal.returns
returns c =
    let b = c.args.b in
    ap (λ (k : ℕ). eqb k b) c.kept_bits.ensures ∙ as_kept b (held c.before)
