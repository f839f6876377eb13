-- Rings put into a room, one after the other: ring i lies after the numbers of the rings before it. Assumes nothing.
use Prim.Native.Nat.{ℕ, zero, suc, ◌+◌, ◌-◌, ◌*◌, ◌≤◌, ◌<◌}
use mathlib.Core.Path.{◌≡◌, refl, sym, ap, ap₂, ◌∙◌}
use mathlib.Core.List.{List, [], ◌∷◌, ◌++◌}
use native.Mathlib.Omega.{arith}
use native.Mathlib.Numerals.{add-one}
use lib.ListN.{length, get_or, take, drop, length-drop}
use lib.Seq.{length-take-le, take-append-le, drop-append-le}
use lib.Ieee.{Float}
use Rattle.print.specs.Text.{Put}
use Rattle.print.proofs.Puts.{empty, then, reads}
use Rattle.refusals.specs.Rings.{total}
use Rattle.refusals.proofs.Counts.{total_on}
use Rattle.ring_printer.specs.Said.{ring_text, ring_texts}

-- ---- counts

pub total_parts : (i : ℕ) (ns : List ℕ) → total (take i ns) + total (drop i ns) ≡ total ns
unfolding total
total_parts zero ns = omega arith
total_parts (suc i) [] = refl
total_parts (suc i) (n ∷ ns) = omega (arith, total_parts i ns)

-- ---- ring by ring

pub no_ring : (ns ps : List ℕ) (xs : List Float) (room : List ℕ) (at : ℕ) → Put room at (ring_texts ns ps xs 0) room at
unfolding ring_texts
no_ring ns ps xs room at = empty room at

pub ring_more : (ns ps : List ℕ) (xs ring : List Float) (i n : ℕ) {a b c : List ℕ} {at m r : ℕ}
    → Put a at (ring_texts ns ps xs i) b m → Put b m (ring_text i n (get_or ps i 0) ring) c r → n ≡ get_or ns i 0 → ring ≡ take (2 * n) (drop (2 * total (take i ns)) xs)
    → Put a at (ring_texts ns ps xs (i + 1)) c r
unfolding ring_texts
ring_more ns ps xs ring i n p q e f =
    let s : ring_texts ns ps xs (i + 1) ≡ ring_texts ns ps xs i ++ ring_text i n (get_or ps i 0) ring = rw (add-one i, f, e) refl in
    reads (sym s) (then p q)

-- the part of a list that a ring is lent as
module _ (xs : List Float) (at n : ℕ) where
  pub part_is : take ((at + 2 * n) - at) (drop at xs) ≡ take (2 * n) (drop at xs)
  part_is = let e : (at + 2 * n) - at ≡ 2 * n = omega arith in ap (λ (k : ℕ). take k (drop at xs)) e

  pub part_long : at + 2 * n ≤ length xs → 2 * n ≤ length (take ((at + 2 * n) - at) (drop at xs))
  part_long h = omega (arith, ap length part_is, length-take-le (2 * n) (drop at xs) (omega (arith, length-drop at xs)))

-- ---- what follows the rings in a list is not printed

module _ (ns ps : List ℕ) (l rest : List Float) (whole : length l ≡ 2 * total ns) where
  same_ring : (i : ℕ) → i < length ns
      → take (2 * get_or ns i 0) (drop (2 * total (take i ns)) (l ++ rest)) ≡ take (2 * get_or ns i 0) (drop (2 * total (take i ns)) l)
  same_ring i h =
      let a = 2 * total (take i ns) in
      let b = 2 * get_or ns i 0 in
      let s : total (take i ns) + get_or ns i 0 ≤ total ns = omega (arith, total_parts i ns, total_on ns i h) in
      ap (take b) (drop-append-le a l rest (omega arith)) ∙ take-append-le b (drop a l) rest (omega (arith, length-drop a l))

  pub same_texts : (k : ℕ) → k ≤ length ns → ring_texts ns ps (l ++ rest) k ≡ ring_texts ns ps l k
  unfolding ring_texts
  same_texts zero h = refl
  same_texts (suc i) h =
      ap₂ (λ (t : List ℕ) (ring : List Float). t ++ ring_text i (get_or ns i 0) (get_or ps i 0) ring) (same_texts i (omega arith)) (same_ring i (omega arith))
