-- `square_root::pair` meets its contract: `tried` of `proofs/Pairs.antt` says what its three trials find. Assumes
-- nothing.
use Prim.Native.Nat.{ℕ, ◌+◌, ◌*◌, ◌%◌, ◌^◌, ◌≤◌, ◌<◌}
use mathlib.Core.Path.{◌≡◌}
use native.Mathlib.Omega.{arith}
use Rattle.square_root.specs.Root.{takes}
use Rattle.square_root.proofs.Pairs.{tried}
use Rattle.square_root.proofs.pair.Goals as goal

-- what 11 takes: no shift loses a digit
eleven : (q p : ℕ) → q < 2 ^ 54 → p ≤ 2 ^ 52
    → q * 2 % 2 ^ 64 + p + (q + p * 2 % 2 ^ 64) * 4 % 2 ^ 64 ≡ takes q p 3
eleven q p h k =
    let a : q * 2 % 2 ^ 64 ≡ 2 * q = omega arith in
    let b : p * 2 % 2 ^ 64 ≡ 2 * p = omega arith in
    let c : (q + 2 * p) * 4 % 2 ^ 64 ≡ 4 * q + 8 * p = omega arith in
    rw (a, b, c) (omega arith)

pub returns : goal.returns
returns c =
    tried
    _
    _
    _
    c.requires.2
    (omega arith, omega arith)
    (omega arith, omega arith)
    (omega arith, eleven _ _ c.requires.0 c.requires.1)
    c.further-first.ensures
    c.further-second.ensures
    c.further.ensures
