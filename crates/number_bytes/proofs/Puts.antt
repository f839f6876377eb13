-- The bytes of a number stored one by one: what is left of the number, stored from here on, gives the room that was asked for. Assumes nothing.
use Prim.Native.Nat.{ℕ, suc, ◌+◌, ◌-◌, ◌/◌, ◌%◌, ◌≤◌, ◌<◌}
use native.Mathlib.Omega.{arith}
use mathlib.Core.Path.{◌≡◌, ap, ap₂, ◌∙◌}
use mathlib.Core.List.{List}
use lib.ListN.{set}
use lib.Seq.{sets}
use Rattle.number_bytes.specs.Bytes.{bytes_of}

pub put_start : (room : List ℕ) (at k n : ℕ) → sets room at (bytes_of k n) ≡ sets room (at + 0) (bytes_of (k - 0) n)
put_start room at k n = ap₂ (λ (a b : ℕ). sets room a (bytes_of b n)) (omega arith) (omega arith)

pub put_on : (room : List ℕ) (at k i rest : ℕ) → i < k
    → sets room (at + i) (bytes_of (k - i) rest) ≡ sets (set room (at + i) (rest % 256)) (at + (i + 1)) (bytes_of (k - (i + 1)) (rest / 256))
unfolding bytes_of
put_on room at k i rest h =
    let e : k - i ≡ suc (k - (i + 1)) = omega arith in
    let d : suc (at + i) ≡ at + (i + 1) = omega arith in
    ap (λ (m : ℕ). sets room (at + i) (bytes_of m rest)) e
    ∙ ap (λ (m : ℕ). sets (set room (at + i) (rest % 256)) m (bytes_of (k - (i + 1)) (rest / 256))) d

pub put_end : (room : List ℕ) (at k i rest : ℕ) → k ≤ i → sets room (at + i) (bytes_of (k - i) rest) ≡ room
unfolding bytes_of
put_end room at k i rest h =
    let e : k - i ≡ 0 = omega arith in
    ap (λ (m : ℕ). sets room (at + i) (bytes_of m rest)) e
