-- `book_reader::check::check_coords` meets its contract. The loop's invariant: the check of the coordinates left, from j on, decides. Assumes nothing.
use mathlib.Core.Bool.{not}
use Prim.Native.Nat.{ℕ, ◌+◌, ◌*◌}
use mathlib.Core.Path.{◌≡◌, sym, ap, ◌∙◌}
use native.Mathlib.Omega.{arith}
use borrow.Author.Tests.{not-true, not-false}
use lib.ListN.{take, drop}
use Rattle.number_bytes.specs.Bytes.{number_of}
use Rattle.book_layout.specs.Layout.{coordinate_bytes, coordinate_bits}
use Rattle.book_layout.specs.Faults.{fault_at}
use Rattle.book_reader.proofs.Coords.{coords_start, coord_good, coord_bad, coords_end}
use Rattle.book_reader.proofs.check.check_coords.Goals as goal
use Rattle.book_reader.proofs.check.check_coords.Goals.{After-are_coordinate_bits}
use Rattle.book_reader.proofs.check.check_coords.Lts.View.{up-After-are_coordinate_bits}

-- where the coordinate lies, and what was asked of it
place : (j : ℕ) → coordinate_bytes * j ≡ 0 + coordinate_bytes * j
place j = omega arith

asked : (c : After-are_coordinate_bits)
    → c.are_coordinate_bits.result ≡ coordinate_bits (number_of (take coordinate_bytes (drop (0 + coordinate_bytes * c.loop-j.j) c.args.f.now)))
asked c =
    c.are_coordinate_bits.ensures
    ∙ ap coordinate_bits (c.number8.ensures ∙ ap (λ (p : ℕ). number_of (take coordinate_bytes (drop p c.args.f.now))) (place c.loop-j.j))

pub loop-j-init : goal.loop-j-init
loop-j-init c = (coords_start c.args.f.now 0 c.args.m)

pub returns-then-not-are_coordinate_bits : goal.returns-then-not-are_coordinate_bits
returns-then-not-are_coordinate_bits c =
    let a = c.args in
    c.fault.ensures
    ∙ ap fault_at (place c.loop-j.j)
    ∙ sym (c.loop-j.invariant ∙ coord_bad a.f.now 0 a.m c.loop-j.j c.loop-j-test.true (sym (asked (up-After-are_coordinate_bits _ _ _ _ _ c.before.before.before)) ∙ not-true c.are_coordinate_bits.result (ap not c.if-not-are_coordinate_bits.true)))

pub loop-j-preserved : goal.loop-j-preserved
loop-j-preserved c =
    let a = c.args in
    (c.loop-j.invariant ∙ coord_good a.f.now 0 a.m c.loop-j.j c.loop-j-test.true (sym (asked (up-After-are_coordinate_bits _ _ _ _ _ c.before.before)) ∙ not-false c.are_coordinate_bits.result (ap not c.if-not-are_coordinate_bits.false)))

pub returns : goal.returns
returns c =
    let a = c.args in
    sym (c.loop-j.invariant ∙ coords_end a.f.now 0 a.m c.loop-j.j c.loop-j-test.false)
