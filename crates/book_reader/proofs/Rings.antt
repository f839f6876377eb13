-- The rings of a file: one that was loaded into a room, and the reader's loop over them. Assumes nothing.
use Prim.Native.Nat.{ℕ, zero, suc, ◌+◌, ◌-◌, ◌*◌, ◌≤◌, ◌<◌}
use native.Mathlib.Omega.{arith}
use native.Mathlib.Nat.{not-suc-le-zero}
use mathlib.Core.Path.{◌≡◌, sym, ap, subst, ◌∙◌}
use mathlib.Core.Bool.{Bool, true, false, not}
use mathlib.Core.List.{List, [], ◌∷◌, map}
use lib.ListN.{length, get_or, take, drop, length-map, length-drop}
use lib.Seq.{sets, sets-eq, take_at, drop-drop}
use lib.Dec.{T}
use lib.Ieee.{Float, nan, is_nan, binary64, of_bits}
use Rattle.refusals.specs.Refusals.{none, passed, first}
use Rattle.reading.specs.Reading.{vertices, is_least}
use Rattle.reading.specs.Lent.{ring_of, Lent}
use Rattle.number_bytes.specs.Bytes.{Each, number_of, Byte}
use Rattle.number_bytes.proofs.Bytes.{each_byte}
use Rattle.number_bytes.proofs.Each.{each_drop}
use Rattle.refusals.specs.Rings.{vertices_most, total}
use Rattle.book_layout.specs.Layout.{field_bytes, coordinate_bytes, vertex_bytes, entry_bytes, Coordinate, coords_in, counts_in}
use Rattle.book_layout.specs.Faults.{fault_at, fault, ◌passes, coords_check, least_check}
use Rattle.refusals.proofs.Sized.{row_parts}
use Rattle.book_layout.proofs.Checks.{coords_split}
use Rattle.book_layout.proofs.Found.{coords_hold, length_coordsIn}
use Rattle.book_layout.proofs.Lent.{bits_number, ring_loaded}
use Rattle.book_reader.proofs.Entries.{count_left, total_left}

-- ---- a ring in a room

numbers : (l : List ℕ) → Each Coordinate l → (i : ℕ) → i < length (map (of_bits binary64) l) → T (not (is_nan (get_or (map (of_bits binary64) l) i nan)))
numbers [] h i k = absurd (not-suc-le-zero k)
numbers (b ∷ l) h zero k = bits_number b h.0
numbers (b ∷ l) h (suc i) k = numbers l h.1 i (omega arith)

-- the ring of n vertices at the place `at` of a file, in a room for the longest ring
module _ (f : List ℕ) (bytes : (i : ℕ) → get_or f i 0 < 256) (at n : ℕ) (inside : at + vertex_bytes * n ≤ length f) (most : n ≤ vertices_most) (ok : coords_check (2 * n) at (drop at f) passes) where
  abbrev l : List ℕ
  l = coords_in (2 * n) (drop at f)

  hold : Each Coordinate l
  hold = coords_hold (2 * n) at (drop at f) (each_drop Byte at f (each_byte f bytes)) (omega (arith, length-drop at f)) ok

  long : length (map (of_bits binary64) l) ≡ 2 * n
  long = length-map l (of_bits binary64) ∙ length_coordsIn (2 * n) (drop at f)

  module _ (room r : List Float) (big : length room ≡ 2 * vertices_most) (e : r ≡ sets room 0 (map (of_bits binary64) l)) where
    loaded : take (2 * n) r ≡ map (of_bits binary64) l
    loaded =
        let vs = map (of_bits binary64) l in
        ap (take (2 * n)) (e ∙ sets-eq vs room 0 (omega (arith, long))) ∙ take_at vs (drop (0 + length vs) room) (2 * n) long

    pub loaded_length : length (take (2 * n) r) ≡ 2 * n
    loaded_length = ap length loaded ∙ long

    pub loaded_lent : Lent (take (2 * n) r)
    loaded_lent = subst Lent (sym loaded) (record { even = omega (arith, long); most = omega (arith, long); numbers = numbers l hold })

    pub loaded_ring : ring_of (take (2 * n) r) ≡ vertices l
    loaded_ring = ap ring_of loaded ∙ ring_loaded l hold

-- ---- `check_rings`: the rings from the place `at` on, with i of k passed

module _ (f : List ℕ) (from k i at : ℕ) (h : i < k) where
  abbrev n : ℕ
  n = number_of (take field_bytes (drop (from + entry_bytes * i + field_bytes) f))

  abbrev rest : List ℕ
  rest = counts_in (k - (i + 1)) (drop (from + entry_bytes * (i + 1)) f)

  pub coords_next : coords_check (2 * total (counts_in (k - i) (drop (from + entry_bytes * i) f))) at (drop at f) passes
      → (coords_check (2 * n) at (drop at f) passes) × (coords_check (2 * total rest) (at + vertex_bytes * n) (drop (at + vertex_bytes * n) f) passes)
  coords_next e =
      let z : 2 * n + 2 * total rest ≡ 2 * total (counts_in (k - i) (drop (from + entry_bytes * i) f)) = omega (arith, total_left f from k i at h) in
      let d : coordinate_bytes * (2 * n) ≡ vertex_bytes * n = omega arith in
      let p = row_parts (coords_check (2 * n) at (drop at f)) (coords_check (2 * total rest) (at + coordinate_bytes * (2 * n)) (drop (coordinate_bytes * (2 * n)) (drop at f)))
      (ap passed (sym (coords_split (2 * n) (2 * total rest) at (drop at f)) ∙ ap (λ (j : ℕ). coords_check j at (drop at f)) z) ∙ e) in
      let q : coords_check (2 * total rest) (at + coordinate_bytes * (2 * n)) (drop (coordinate_bytes * (2 * n)) (drop at f)) ≡ coords_check (2 * total rest) (at + vertex_bytes * n) (drop (at + vertex_bytes * n) f) =
      ap (coords_check (2 * total rest) (at + coordinate_bytes * (2 * n))) (drop-drop (coordinate_bytes * (2 * n)) at f)
      ∙ ap (λ (j : ℕ). coords_check (2 * total rest) (at + j) (drop (at + j) f)) d in
      (p.0, ap passed (sym q) ∙ p.1)

  least_next : least_check (counts_in (k - i) (drop (from + entry_bytes * i) f)) at (drop at f)
      ≡ first (fault (is_least (vertices (coords_in (2 * n) (drop at f)))) at) (least_check rest (at + vertex_bytes * n) (drop (at + vertex_bytes * n) f))
  unfolding least_check
  least_next =
      ap (λ (ns : List ℕ). least_check ns at (drop at f)) (count_left f from k i at h)
      ∙ ap (λ (g : List ℕ). first (fault (is_least (vertices (coords_in (2 * n) (drop at f)))) at) (least_check rest (at + vertex_bytes * n) g)) (drop-drop (vertex_bytes * n) at f)

  pub least_good : is_least (vertices (coords_in (2 * n) (drop at f))) ≡ true
      → least_check (counts_in (k - i) (drop (from + entry_bytes * i) f)) at (drop at f) ≡ least_check rest (at + vertex_bytes * n) (drop (at + vertex_bytes * n) f)
  least_good t = least_next ∙ ap (λ (b : Bool). first (fault b at) (least_check rest (at + vertex_bytes * n) (drop (at + vertex_bytes * n) f))) t

  pub least_bad : is_least (vertices (coords_in (2 * n) (drop at f))) ≡ false → least_check (counts_in (k - i) (drop (from + entry_bytes * i) f)) at (drop at f) ≡ fault_at at
  least_bad t = least_next ∙ ap (λ (b : Bool). first (fault b at) (least_check rest (at + vertex_bytes * n) (drop (at + vertex_bytes * n) f))) t

pub least_end : (f ns : List ℕ) (at : ℕ) → ns ≡ [] → least_check ns at (drop at f) ≡ none
unfolding least_check
least_end f ns at e = ap (λ (l : List ℕ). least_check l at (drop at f)) e
