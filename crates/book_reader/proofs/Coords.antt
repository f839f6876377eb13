-- The reader's loops over coordinates: what is left of the check, and of what is loaded. Assumes nothing.
use Prim.Native.Nat.{ℕ, suc, ◌+◌, ◌-◌, ◌*◌, ◌≤◌, ◌<◌}
use native.Mathlib.Omega.{arith}
use mathlib.Core.Path.{◌≡◌, sym, ap, ap₂, ◌∙◌}
use mathlib.Core.Bool.{true, false}
use mathlib.Core.List.{List, map}
use lib.ListN.{take, drop, set}
use lib.Seq.{sets, drop-drop}
use lib.Ieee.{Float, binary64, of_bits}
use Rattle.refusals.specs.Refusals.{none, passed, first}
use Rattle.refusals.specs.Refusals.{Told}
use Rattle.number_bytes.specs.Bytes.{number_of}
use Rattle.book_layout.specs.Layout.{coordinate_bytes, coordinate_bits, coords_in}
use Rattle.book_layout.specs.Faults.{fault_at, fault, ◌passes, coords_check}
use Rattle.refusals.proofs.Sized.{row_parts}
use Rattle.book_layout.proofs.Passing.{held}

-- with j of m coordinates passed, from the place `at` on
module _ (f : List ℕ) (at m j : ℕ) (h : j < m) where
  abbrev p : ℕ
  p = at + coordinate_bytes * j

  abbrev b : ℕ
  b = number_of (take coordinate_bytes (drop (at + coordinate_bytes * j) f))

  abbrev later : Told
  later = coords_check (m - (j + 1)) (at + coordinate_bytes * (j + 1)) (drop (at + coordinate_bytes * (j + 1)) f)

  more : m - j ≡ suc (m - (j + 1))
  more = omega arith

  next : p + coordinate_bytes ≡ at + coordinate_bytes * (j + 1)
  next = omega arith

  left : coords_check (m - j) p (drop p f) ≡ first (fault (coordinate_bits b) p) later
  unfolding coords_check
  left =
      ap (λ (n : ℕ). coords_check n p (drop p f)) more
      ∙ ap (λ (g : List ℕ). first (fault (coordinate_bits b) p) (coords_check (m - (j + 1)) (p + coordinate_bytes) g)) (drop-drop coordinate_bytes p f)
      ∙ ap (λ (q : ℕ). first (fault (coordinate_bits b) p) (coords_check (m - (j + 1)) q (drop q f))) next

  pub coord_good : coordinate_bits b ≡ true → coords_check (m - j) p (drop p f) ≡ later
  coord_good t = left ∙ (rw t)

  pub coord_bad : coordinate_bits b ≡ false → coords_check (m - j) p (drop p f) ≡ fault_at p
  coord_bad t = left ∙ (rw t)

  -- where the check passes, it passes here and further on
  pub coord_held : coords_check (m - j) p (drop p f) passes → (coordinate_bits b ≡ true) × (later passes)
  coord_held c =
      let q = row_parts (fault (coordinate_bits b) p) later (ap passed (sym left) ∙ c) in
      (held (coordinate_bits b) p q.0, q.1)

  pub load_on : (room : List Float)
      → sets room j (map (of_bits binary64) (coords_in (m - j) (drop p f)))
      ≡ sets (set room j (of_bits binary64 b)) (j + 1) (map (of_bits binary64) (coords_in (m - (j + 1)) (drop (at + coordinate_bytes * (j + 1)) f)))
  unfolding coords_in
  load_on room =
      let e : suc j ≡ j + 1 = omega arith in
      let r = set room j (of_bits binary64 b) in
      ap (λ (n : ℕ). sets room j (map (of_bits binary64) (coords_in n (drop p f)))) more
      ∙ ap₂ (λ (i : ℕ) (g : List ℕ). sets r i (map (of_bits binary64) (coords_in (m - (j + 1)) g))) e (drop-drop coordinate_bytes p f ∙ ap (λ (q : ℕ). drop q f) next)

-- at the start and at the end of the loops
pub coords_start : (f : List ℕ) (at m : ℕ) → coords_check m at (drop at f) ≡ coords_check (m - 0) (at + coordinate_bytes * 0) (drop (at + coordinate_bytes * 0) f)
coords_start f at m =
    let e : m ≡ m - 0 = omega arith in
    let d : at ≡ at + coordinate_bytes * 0 = omega arith in
    ap₂ (λ (n p : ℕ). coords_check n p (drop p f)) e d

pub coords_end : (f : List ℕ) (at m j : ℕ) → m ≤ j → coords_check (m - j) (at + coordinate_bytes * j) (drop (at + coordinate_bytes * j) f) ≡ none
unfolding coords_check
coords_end f at m j h =
    let e : m - j ≡ 0 = omega arith in
    ap (λ (n : ℕ). coords_check n (at + coordinate_bytes * j) (drop (at + coordinate_bytes * j) f)) e

pub load_start : (f : List ℕ) (at m : ℕ) → coords_in m (drop at f) ≡ coords_in (m - 0) (drop (at + coordinate_bytes * 0) f)
load_start f at m =
    let e : m ≡ m - 0 = omega arith in
    let d : at ≡ at + coordinate_bytes * 0 = omega arith in
    ap₂ (λ (n p : ℕ). coords_in n (drop p f)) e d

pub load_end : (f : List ℕ) (at m j : ℕ) (room : List Float) → m ≤ j → sets room j (map (of_bits binary64) (coords_in (m - j) (drop (at + coordinate_bytes * j) f))) ≡ room
unfolding coords_in
load_end f at m j room h =
    let e : m - j ≡ 0 = omega arith in
    ap (λ (n : ℕ). sets room j (map (of_bits binary64) (coords_in n (drop (at + coordinate_bytes * j) f)))) e
