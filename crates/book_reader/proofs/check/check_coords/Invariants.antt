use Prim.Native.Nat.{◌+◌, ◌*◌, ◌-◌}
use mathlib.Core.Path.{◌≡◌}
use lib.ListN.{drop}
use Rattle.book_layout.specs.Layout.{coordinate_bytes}
use Rattle.book_layout.specs.Faults.{coords_check}
use Rattle.book_reader.proofs.check.check_coords.Given as goal

abbrev pub invariant-loop-j : goal.invariant-loop-j
invariant-loop-j l = coords_check l.m 0 l.f ≡ coords_check (l.m - l.j) (0 + coordinate_bytes * l.j) (drop (0 + coordinate_bytes * l.j) l.f)
