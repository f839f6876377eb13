-- The bytes that `put_drawing` stores are the drawing. Assumes nothing.
use Prim.Native.Nat.{ℕ, ◌+◌, ◌*◌, ◌/◌, ◌%◌, ◌≤◌}
use native.Mathlib.Omega.{arith}
use mathlib.Core.Path.{◌≡◌, refl, sym, ap, ap₂, ◌∙◌}
use mathlib.Core.List.{List, [], ◌∷◌, ◌++◌, map, append_assoc}
use lib.ListN.{length, take, length-append, length-map}
use lib.Seq.{sets, length-take-le}
use lib.Ieee.{Float, binary64, to_bits}
use Rattle.ring.specs.Room.{laid}
use Rattle.ring.proofs.Emit.{laid_is, sets_append}
use Rattle.number_bytes.specs.Bytes.{bytes_of}
use Rattle.wkb_layout.specs.Layout.{number_bytes, head_bytes, written_as, numbers_as, head_of, wkb_of}
use Rattle.wkb_layout.specs.Writer.{closed, drawing_of, drawing_size}
use Rattle.wkb_layout.specs.declared.Order.TheVariants.{Little}
use Rattle.wkb_layout.proofs.Numbers.{length_numbersAs}
use Rattle.wkb_writer.proofs.Storing.{numbers}

-- ---- the parts

numbers_append : (xs ys : List Float) → numbers (xs ++ ys) ≡ numbers xs ++ numbers ys
unfolding numbers_as
numbers_append [] ys = refl
numbers_append (x ∷ xs) ys =
    let b = written_as Little number_bytes (to_bits binary64 x) in
    ap (λ (l : List ℕ). b ++ l) (numbers_append xs ys) ∙ sym (append_assoc b (numbers xs) (numbers ys))

length_numbers : (xs : List Float) → length (numbers xs) ≡ number_bytes * length xs
length_numbers xs = length_numbersAs Little (map (to_bits binary64) xs) ∙ ap (λ (n : ℕ). number_bytes * n) (length-map xs (to_bits binary64))

length_head : (points : ℕ) → length (head_of Little points) ≡ head_bytes
unfolding written_as bytes_of
length_head points = refl

-- ---- a ring, and the room

module _ (xs : List Float) (room : List ℕ) (even : length xs % 2 ≡ 0) (least : 6 ≤ length xs) where
  abbrev again : List Float
  again = take 2 xs

  abbrev head : List ℕ
  head = head_of Little (length xs / 2 + 1)

  length_again : length again ≡ 2
  length_again = length-take-le 2 xs (omega arith)

  points : length (map (to_bits binary64) (closed xs)) / 2 ≡ length xs / 2 + 1
  points = omega (arith, length-map (closed xs) (to_bits binary64), length-append xs again, length_again)

  drawing_is : drawing_of xs ≡ head ++ (numbers xs ++ numbers again)
  unfolding wkb_of
  drawing_is = ap₂ (λ (n : ℕ) (l : List ℕ). head_of Little n ++ l) points (numbers_append xs again)

  -- it has as many bytes as the writer answers
  drawing_length : length (drawing_of xs) ≡ drawing_size xs
  drawing_length =
      ap length drawing_is
      ∙ omega (
        arith,
        length-append head (numbers xs ++ numbers again),
        length-append (numbers xs) (numbers again),
        length_head (length xs / 2 + 1),
        length_numbers xs,
        length_numbers again,
        length_again,
      )

  -- the three runs of stores, one after the other
  pub three_runs : drawing_size xs ≤ length room
      → sets (sets (sets room 0 head) head_bytes (numbers xs)) (head_bytes + number_bytes * length xs) (numbers again)
      ≡ laid (drawing_of xs) room
  three_runs h =
      let r1 = sets room 0 head in
      let r2 = sets r1 head_bytes (numbers xs) in
      let e1 : 0 + length head ≡ head_bytes = omega (arith, length_head (length xs / 2 + 1)) in
      let e2 : head_bytes + length (numbers xs) ≡ head_bytes + number_bytes * length xs = omega (arith, length_numbers xs) in
      let z : sets room 0 (head ++ (numbers xs ++ numbers again)) ≡ sets r2 (head_bytes + number_bytes * length xs) (numbers again) =
      sets_append room 0 head (numbers xs ++ numbers again)
      ∙ ap (λ (j : ℕ). sets r1 j (numbers xs ++ numbers again)) e1
      ∙ sets_append r1 head_bytes (numbers xs) (numbers again)
      ∙ ap (λ (j : ℕ). sets r2 j (numbers again)) e2 in
      sym z
      ∙ ap (sets room 0) (sym drawing_is)
      ∙ laid_is (drawing_of xs) room (omega (arith, drawing_length))
