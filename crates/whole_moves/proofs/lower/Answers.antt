-- `whole_moves::lower` meets its contract. The invariant: the first i numbers are written, and the rest of the room is as it
-- came. Assumes nothing.
use Prim.Native.Nat.{ℕ, ◌≤◌, ◌<◌}
use mathlib.Core.Path.{◌≡◌}
use mathlib.Core.List.{List}
use native.Mathlib.Omega.{arith}
use Rattle.std.proofs.Common.{get_or-take}
use lib.ListN.{length, get_or, take}
use lib.Seq.{length-take-le}
use Rattle.whole_moves.proofs.Lowered.{down_stands, turn}
use Rattle.whole_moves.proofs.lower.Goals as goal

-- the front of the list has n numbers, those of the list
front : (list : List ℕ) (n i : ℕ) → n ≤ length list → i < length (take n list) → (i < n) × (get_or (take n list) i 0 ≡ get_or list i 0)
front list n i there more =
    let h : i < n = omega (arith, length-take-le n list there) in
    (h, get_or-take n list i 0 h)

pub loop-i-preserved : goal.loop-i-preserved
loop-i-preserved c =
    let f = front c.args.list.now c.args.n c.loop-i.i c.requires.n_in_bounds.0 c.loop-i-test.true in
    let e = rw f.1 at c.down.ensures in
    turn _ _ _ c.requires.n_in_bounds.0 c.requires.n_in_bounds.1 f.0 (down_stands _ (c.requires.by_index c.loop-i.i f.0) e) c.loop-i.invariant
