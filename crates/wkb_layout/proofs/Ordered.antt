-- Numbers in either byte order: read back from their bytes, and written again from what was read. Assumes nothing.
use Prim.Native.Nat.{ℕ, ◌^◌, ◌≤◌, ◌<◌}
use native.Mathlib.Omega.{arith}
use mathlib.Core.Path.{◌≡◌, refl, sym, ap, subst, ◌∙◌}
use mathlib.Core.List.{List, [], ◌∷◌, ◌++◌, reverse_aux, reverse-reverse}
use lib.ListN.{length, take, drop, length-reverse}
use lib.Seq.{take_at, drop_at, take-length, length-take-le}
use Rattle.number_bytes.specs.Bytes.{bytes_of, number_of, Byte, Each}
use Rattle.number_bytes.proofs.Bytes.{length_bytesOf, take_number, bytes_take, number_lt}
use Rattle.number_bytes.proofs.Each.{each_take}
use Rattle.wkb_layout.specs.Layout.{ordered, written_as, read_as}
use Rattle.wkb_layout.specs.declared.Order.{Order}
use Rattle.wkb_layout.specs.declared.Order.TheVariants.{Big, Little}

-- ---- bytes in an order

ordered_twice : (o : Order) (l : List ℕ) → ordered o (ordered o l) ≡ l
ordered_twice Big l = reverse-reverse l
ordered_twice Little l = refl

length_ordered : (o : Order) (l : List ℕ) → length (ordered o l) ≡ length l
length_ordered Big l = length-reverse l
length_ordered Little l = refl

each_turned : (l m : List ℕ) → Each Byte l → Each Byte m → Each Byte (reverse_aux l m)
each_turned [] m h k = k
each_turned (b ∷ l) m h k = each_turned l (b ∷ m) h.1 (h.0, k)

each_ordered : (o : Order) (l : List ℕ) → Each Byte l → Each Byte (ordered o l)
each_ordered Big l h = each_turned l [] h tt
each_ordered Little l h = h

-- ---- a number is read back from its bytes

pub length_written : (o : Order) (k n : ℕ) → length (written_as o k n) ≡ k
unfolding written_as
length_written o k n = length_ordered o (bytes_of k n) ∙ length_bytesOf k n

read_written : (o : Order) (k n : ℕ) → n < 256 ^ k → read_as o (written_as o k n) ≡ n
unfolding written_as read_as
read_written o k n h =
    ap number_of (ordered_twice o (bytes_of k n) ∙ sym (take_at (bytes_of k n) [] k (length_bytesOf k n)))
    ∙ take_number k n [] h

module _ (o : Order) (k n : ℕ) (q : List ℕ) where
  pub take_written : n < 256 ^ k → read_as o (take k (written_as o k n ++ q)) ≡ n
  take_written h = ap (read_as o) (take_at (written_as o k n) q k (length_written o k n)) ∙ read_written o k n h

  pub drop_written : drop k (written_as o k n ++ q) ≡ q
  drop_written = drop_at (written_as o k n) q k (length_written o k n)

-- ---- a number's bytes are those that it was read from

module _ (o : Order) (k : ℕ) (f : List ℕ) (bytes : Each Byte f) (long : k ≤ length f) where
  abbrev turned : List ℕ
  turned = ordered o (take k f)

  size : length turned ≡ k
  size = length_ordered o (take k f) ∙ length-take-le k f long

  each : Each Byte turned
  each = each_ordered o (take k f) (each_take Byte k f bytes)

  whole : take k turned ≡ turned
  whole = ap (λ (j : ℕ). take j turned) (sym size) ∙ take-length turned

  pub written_read : written_as o k (read_as o (take k f)) ≡ take k f
  unfolding written_as read_as
  written_read =
      let s : k ≤ length turned = omega (arith, size) in
      let e : bytes_of k (number_of turned) ≡ turned =
      ap (λ (l : List ℕ). bytes_of k (number_of l)) (sym whole) ∙ bytes_take k turned each s ∙ whole in
      ap (ordered o) e ∙ ordered_twice o (take k f)

  pub read_lt : read_as o (take k f) < 256 ^ k
  unfolding read_as
  read_lt = subst (λ (j : ℕ). number_of turned < 256 ^ j) size (number_lt turned each)
