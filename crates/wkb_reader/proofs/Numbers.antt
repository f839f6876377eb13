-- The reader's loops over coordinates: what is left of the check, and of what is loaded. Assumes nothing.
use Prim.Native.Nat.{ℕ, suc, ◌+◌, ◌-◌, ◌*◌, ◌≤◌, ◌<◌}
use native.Mathlib.Omega.{arith}
use mathlib.Core.Path.{◌≡◌, ap, ap₂, ◌∙◌}
use mathlib.Core.Bool.{true, false}
use mathlib.Core.List.{List, map}
use lib.ListN.{drop, set}
use lib.Seq.{sets, drop-drop}
use lib.Ieee.{Float, binary64, of_bits}
use Rattle.refusals.specs.Refusals.{refused_wkb, none, refuse, first}
use Rattle.refusals.specs.Bounds.{coordinate}
use Rattle.refusals.specs.Refusals.{Told}
use Rattle.wkb_layout.specs.Layout.{head_bytes, number_bytes, order_in, bits_in, numbers_in}
use Rattle.wkb_layout.specs.Faults.{wkb_fault, number_in, numbers_check}

-- the byte of coordinate j
abbrev pub number_at : ℕ → ℕ
number_at j = head_bytes + number_bytes * j

-- the check of k coordinates, and what k of them are, from coordinate j on
abbrev pub check_from : List ℕ → ℕ → ℕ → Told
check_from f k j = numbers_check (order_in f) k (number_at j) (drop (number_at j) f)

abbrev pub numbers_from : List ℕ → ℕ → ℕ → List Float
numbers_from f k j = map (of_bits binary64) (numbers_in (order_in f) k (drop (number_at j) f))

next : (j : ℕ) → number_at j + number_bytes ≡ number_at (j + 1)
next j = omega arith

-- with j of m coordinates passed
module _ (f : List ℕ) (m j : ℕ) (h : j < m) where
  more : m - j ≡ suc (m - (j + 1))
  more = omega arith

  left : check_from f (m - j) j ≡ first (wkb_fault (coordinate (number_in f (number_at j))) (number_at j)) (check_from f (m - (j + 1)) (j + 1))
  unfolding numbers_check bits_in
  left =
      let here = wkb_fault (coordinate (number_in f (number_at j))) (number_at j) in
      ap (λ (n : ℕ). check_from f n j) more
      ∙ ap (λ (g : List ℕ). first here (numbers_check (order_in f) (m - (j + 1)) (number_at j + number_bytes) g)) (drop-drop number_bytes (number_at j) f)
      ∙ ap (λ (q : ℕ). first here (numbers_check (order_in f) (m - (j + 1)) q (drop q f))) (next j)

  pub number_good : coordinate (number_in f (number_at j)) ≡ true → check_from f (m - j) j ≡ check_from f (m - (j + 1)) (j + 1)
  number_good t = left ∙ (rw t)

  pub number_bad : coordinate (number_in f (number_at j)) ≡ false → check_from f (m - j) j ≡ refuse refused_wkb (number_at j)
  number_bad t = left ∙ (rw t)

  pub load_on : (room : List Float) → sets room j (numbers_from f (m - j) j) ≡ sets (set room j (number_in f (number_at j))) (j + 1) (numbers_from f (m - (j + 1)) (j + 1))
  unfolding numbers_in bits_in
  load_on room =
      let e : suc j ≡ j + 1 = omega arith in
      let r = set room j (number_in f (number_at j)) in
      ap (λ (n : ℕ). sets room j (numbers_from f n j)) more
      ∙ ap₂ (λ (i : ℕ) (g : List ℕ). sets r i (map (of_bits binary64) (numbers_in (order_in f) (m - (j + 1)) g))) e (drop-drop number_bytes (number_at j) f ∙ ap (λ (q : ℕ). drop q f) (next j))

-- at the start of the loops, and at their end
module _ (f : List ℕ) (m : ℕ) where
  all : m ≡ m - 0
  all = omega arith

  pub check_start : check_from f m 0 ≡ check_from f (m - 0) 0
  check_start = ap (λ (n : ℕ). check_from f n 0) all

  pub load_start : numbers_from f m 0 ≡ numbers_from f (m - 0) 0
  load_start = ap (λ (n : ℕ). numbers_from f n 0) all

module _ (f : List ℕ) (m j : ℕ) (h : m ≤ j) where
  done : m - j ≡ 0
  done = omega arith

  pub check_end : check_from f (m - j) j ≡ none
  unfolding numbers_check
  check_end = ap (λ (n : ℕ). check_from f n j) done

  pub load_end : (room : List Float) → sets room j (numbers_from f (m - j) j) ≡ room
  unfolding numbers_in
  load_end room = ap (λ (n : ℕ). sets room j (numbers_from f n j)) done
