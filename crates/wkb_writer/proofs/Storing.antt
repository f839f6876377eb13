-- Runs of stores: the fields, and the numbers of a list. In the loop, what is yet to be stored from here on gives the room that was asked
-- for. Assumes nothing.
use Prim.Native.Nat.{ℕ, suc, ◌+◌, ◌*◌, ◌≤◌, ◌<◌}
use native.Mathlib.Omega.{arith}
use mathlib.Core.Path.{◌≡◌, refl, ap, ap₂, ◌∙◌}
use mathlib.Core.List.{List, map}
use lib.ListN.{length, get_or, drop, drop_of_length-le}
use lib.Seq.{sets, drop-cons}
use lib.Ieee.{Float, nan, binary64, to_bits}
use Rattle.number_bytes.specs.Bytes.{bytes_of}
use Rattle.ring.proofs.Emit.{sets_append}
use Rattle.number_bytes.proofs.Bytes.{length_bytesOf}
use Rattle.wkb_layout.specs.Layout.{code_bytes, number_bytes, type_at, rings_at, points_at, polygon_type, written_as, numbers_as, head_of}
use Rattle.wkb_layout.specs.declared.Order.TheVariants.{Little}

-- ---- `put_head`

pub head_runs : (room : List ℕ) (points : ℕ)
    → sets
    (sets (sets (sets room 0 (bytes_of type_at 1)) type_at (bytes_of code_bytes polygon_type)) rings_at (bytes_of code_bytes 1))
    points_at
    (bytes_of code_bytes points)
    ≡ sets room 0 (head_of Little points)
unfolding written_as bytes_of
head_runs room points = refl

-- ---- `put_numbers`

-- the bytes of a list's numbers
abbrev pub numbers : List Float → List ℕ
numbers xs = numbers_as Little (map (to_bits binary64) xs)

module _ (room : List ℕ) (xs : List Float) (at : ℕ) where
  pub numbers_start : sets room at (numbers xs) ≡ sets room (at + number_bytes * 0) (numbers (drop 0 xs))
  numbers_start = let e : at ≡ at + number_bytes * 0 = omega arith in ap (λ (a : ℕ). sets room a (numbers xs)) e

  pub numbers_on : (j : ℕ) → j < length xs
      → sets room (at + number_bytes * j) (numbers (drop j xs))
      ≡ sets
      (sets room (at + number_bytes * j) (bytes_of number_bytes (to_bits binary64 (get_or xs j nan))))
      (at + number_bytes * (j + 1))
      (numbers (drop (j + 1) xs))
  unfolding numbers_as written_as
  numbers_on j h =
      let p = at + number_bytes * j in
      let b = bytes_of number_bytes (to_bits binary64 (get_or xs j nan)) in
      let d : p + length b ≡ at + number_bytes * (j + 1) = omega (arith, length_bytesOf number_bytes (to_bits binary64 (get_or xs j nan))) in
      let e : suc j ≡ j + 1 = omega arith in
      ap (λ (l : List Float). sets room p (numbers l)) (drop-cons xs j nan h)
      ∙ sets_append room p b (numbers (drop (suc j) xs))
      ∙ ap₂ (λ (a k : ℕ). sets (sets room p b) a (numbers (drop k xs))) d e

  pub numbers_end : (j : ℕ) → length xs ≤ j → sets room (at + number_bytes * j) (numbers (drop j xs)) ≡ room
  unfolding numbers_as
  numbers_end j h = ap (λ (l : List Float). sets room (at + number_bytes * j) (numbers l)) (drop_of_length-le xs h)
