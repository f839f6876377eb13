-- A test of the pairs of a list, each with its place: where it passes one after the other, it holds at each place. Assumes nothing.
use Prim.Native.Nat.{ℕ, zero, suc, ◌+◌, ◌*◌, ◌<◌}
use mathlib.Core.Path.{◌≡◌}
use mathlib.Core.Bool.{Bool, true, false, ◌&&◌, true≢false}
use mathlib.Core.List.{List, [], ◌∷◌}
use native.Mathlib.Omega.{arith}
use lib.ListN.{length, get_or}
use Rattle.laws.proofs.Both.{both}

-- the test of each pair, the first of them in place i
unfoldable pub pairwise : (ℕ → ℕ → ℕ → Bool) → ℕ → List ℕ → Bool
pairwise f i [] = true
pairwise f i (x ∷ []) = false
pairwise f i (x ∷ y ∷ l) = f i x y && pairwise f (suc i) l

from : (f : ℕ → ℕ → ℕ → Bool) (l : List ℕ) (i k : ℕ) → pairwise f i l ≡ true → 2 * k < length l → f (i + k) (get_or l (2 * k) 0) (get_or l (2 * k + 1) 0) ≡ true
unfolding pairwise
from f [] i k t h = absurd (omega arith)
from f (x ∷ []) i k t h = absurd (true≢false (cc))
from f (x ∷ y ∷ l) i zero t h =
    let e : i + zero ≡ i = omega arith in
    rw e (both (f i x y) (pairwise f (suc i) l) t).0
from f (x ∷ y ∷ l) i (suc k) t h =
    let e : i + suc k ≡ suc i + k = omega arith in
    let a : 2 * suc k ≡ suc (suc (2 * k)) = omega arith in
    let b : suc (suc (2 * k)) + 1 ≡ suc (suc (2 * k + 1)) = omega arith in
    rw (e, a, b) (from f l (suc i) k (both (f i x y) (pairwise f (suc i) l) t).1 (omega arith))

pub pair_at : (f : ℕ → ℕ → ℕ → Bool) (l : List ℕ) (k : ℕ) → pairwise f 0 l ≡ true → 2 * k < length l → f k (get_or l (2 * k) 0) (get_or l (2 * k + 1) 0) ≡ true
pair_at f l k t h = let e : 0 + k ≡ k = omega arith in rw e at (from f l 0 k t h)
