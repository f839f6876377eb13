-- The vertices at the end that equal the first: vertex by vertex, and the loop of `trail`. Assumes nothing.
use Prim.Native.Nat.{ℕ, zero, suc, ◌+◌, ◌-◌, ◌≤◌, ◌<◌}
use mathlib.Core.Path.{◌≡◌, refl, sym, ◌∙◌}
use mathlib.Core.Bool.{Bool, true, false}
use mathlib.Core.List.{List}
use native.Mathlib.Omega.{arith}
use native.Mathlib.Decide.{dec_le}
use lib.Dec.{leb}
use lib.Ieee.{Float}
use borrow.Author.Tests.{le-leb, lt-leb}
use Rattle.plane.specs.Vector.{same_of}
use Rattle.ring.specs.Ring.{count, point_at}
use Rattle.ring.specs.Each.{each}
use Rattle.ring.proofs.Each.{each_at}
use Rattle.mending.specs.Mending.{trails_from}
use Rattle.mending.proofs.Equal.{refuted}

-- a test that holds at each place of a row holds of each
each_of : (p : ℕ → Bool) (k more : ℕ) → ((j : ℕ) → k ≤ j → j < k + more → p j ≡ true) → each p k more ≡ true
unfolding each
each_of p k zero h = refl
each_of p k (suc more) h =
    rw (h k (omega arith) (omega arith), each_of p (suc k) more (λ j a b. h j (omega arith) (omega arith)))

module _ (r : List Float) where
  pub trails_at : (i j : ℕ) → trails_from r i ≡ true → i ≤ j → j < count r → same_of (point_at r 0) (point_at r j) ≡ true
  unfolding trails_from
  trails_at i j h a b = each_at (λ k. same_of (point_at r 0) (point_at r k)) i (count r - i) j h a (omega arith)

  pub trails_of : (i : ℕ) → ((j : ℕ) → i ≤ j → j < count r → same_of (point_at r 0) (point_at r j) ≡ true) → trails_from r i ≡ true
  unfolding trails_from
  trails_of i h = each_of (λ k. same_of (point_at r 0) (point_at r k)) i (count r - i) (λ j a b. h j a (omega arith))

  -- what holds from i on holds from each later one on
  pub trails_later : (i j : ℕ) → i ≤ j → trails_from r i ≡ true → trails_from r j ≡ true
  trails_later i j l h = trails_of j (λ k a b. trails_at i k h (omega arith) b)

  -- ---- the loop: from `end` on each equals the first
  pub record Trail (end : ℕ) : Type 0 where
    pub least : 1 ≤ end
    pub most : end ≤ count r
    pub equal : (j : ℕ) → end ≤ j → j < count r → same_of (point_at r 0) (point_at r j) ≡ true

  pub start : 1 ≤ count r → Trail (count r)
  start h = record { least = h; most = omega arith; equal = λ j a b. absurd (omega arith) }

  pub back : {end : ℕ} → 1 < end → Trail end → same_of (point_at r 0) (point_at r (end - 1)) ≡ true → Trail (end - 1)
  back {end} more t h = record { least = omega arith; most = omega (arith, t.most); equal = λ j a b. go j a b (dec_le end j) }
    where
      go : (j : ℕ) → end - 1 ≤ j → j < count r → Dec (end ≤ j) → same_of (point_at r 0) (point_at r j) ≡ true
      go j a b (yes l) = t.equal j l b
      go j a b (no l) = let e : end - 1 ≡ j = omega arith in rw (← e) h

  -- from such an end on, and only from there
  ends : {end : ℕ} → Trail end → ((i : ℕ) → 1 ≤ i → i < end → trails_from r i ≡ false) → (i : ℕ) → 1 ≤ i → trails_from r i ≡ leb end i
  ends {end} t below i h = go (dec_le end i)
    where
      go : Dec (end ≤ i) → trails_from r i ≡ leb end i
      go (yes l) = rw (le-leb end i l) (trails_of i (λ j a b. t.equal j (omega arith) b))
      go (no l) = rw (lt-leb end i (omega arith)) (below i h (omega arith))

  pub stopped : {end : ℕ} → 1 < end → Trail end → same_of (point_at r 0) (point_at r (end - 1)) ≡ false → (i : ℕ) → 1 ≤ i → trails_from r i ≡ leb end i
  stopped {end} more t h =
      ends t (λ i a b. refuted (trails_from r i) (λ q. let z : true ≡ false = sym (trails_at i (end - 1) q (omega arith) (omega (arith, t.most))) ∙ h in
      let y : ◌≡◌ {A = ℕ} 0 1 = cc in omega arith))

  pub done : {end : ℕ} → end ≤ 1 → Trail end → (i : ℕ) → 1 ≤ i → trails_from r i ≡ leb end i
  done {end} few t = ends t (λ i a b. absurd (omega arith))
