-- Points put into a room, a line each. Assumes nothing.
use Prim.Native.Nat.{ℕ, ◌+◌}
use mathlib.Core.Path.{◌≡◌, refl, sym}
use mathlib.Core.List.{List, ◌++◌}
use native.Mathlib.Numerals.{add-one}
use lib.Ieee.{Float, binary64, to_bits}
use Rattle.ring.specs.Ring.{point_at}
use Rattle.print.specs.Text.{Put, pair_line}
use Rattle.print.proofs.Puts.{empty, then, reads}
use Rattle.lines.specs.Lines.{point_lines}

pub no_point : (xs : List Float) (room : List ℕ) (at : ℕ) → Put room at (point_lines xs 0) room at
unfolding point_lines
no_point xs room at = empty room at

pub point_more : (xs : List Float) (i : ℕ) {a b c : List ℕ} {at m r : ℕ} (u v : ℕ)
    → Put a at (point_lines xs i) b m → Put b m (pair_line u v) c r → u ≡ to_bits binary64 (point_at xs i).x → v ≡ to_bits binary64 (point_at xs i).y
    → Put a at (point_lines xs (i + 1)) c r
unfolding point_lines
point_more xs i u v p q e f =
    let s : point_lines xs (i + 1) ≡ point_lines xs i ++ pair_line u v = rw (add-one i, e, f) refl in
    reads (sym s) (then p q)
