-- The readings of a ring whose vertices are changed, each by itself, are the readings of the ring, so changed. Assumes nothing.
use Prim.Native.Nat.{ℕ, zero, suc}
use native.Mathlib.Omega.{arith}
use mathlib.Core.Path.{◌≡◌, refl, sym, ap, ap₂, ◌∙◌}
use mathlib.Core.Bool.{Bool, true, false}
use mathlib.Core.List.{List, [], ◌∷◌, ◌++◌, map, map-append, reverse_aux, reverse}
use lib.ListN.{take, drop, length-map}
use Rattle.reading.specs.Reading.{rot, reading, Reads}

module _ {A B : Type 0} (g : A → B) where
  map_take : (k : ℕ) (r : List A) → map g (take k r) ≡ take k (map g r)
  map_take zero r = refl
  map_take (suc k) [] = refl
  map_take (suc k) (a ∷ r) = ap (λ (l : List B). g a ∷ l) (map_take k r)

  map_drop : (k : ℕ) (r : List A) → map g (drop k r) ≡ drop k (map g r)
  map_drop zero r = refl
  map_drop (suc k) [] = refl
  map_drop (suc k) (a ∷ r) = map_drop k r

  map_rot : (k : ℕ) (r : List A) → map g (rot k r) ≡ rot k (map g r)
  map_rot k r = map-append g (drop k r) (take k r) ∙ ap₂ (λ (p q : List B). p ++ q) (map_drop k r) (map_take k r)

  map_aux : (l m : List A) → map g (reverse_aux l m) ≡ reverse_aux (map g l) (map g m)
  map_aux [] m = refl
  map_aux (a ∷ l) m = map_aux l (a ∷ m)

  map_reading : (r : List A) (s : ℕ) (b : Bool) → map g (reading r s b) ≡ reading (map g r) s b
  map_reading r s false = map_rot s r
  map_reading r s true = map_aux (rot (suc s) r) [] ∙ ap reverse (map_rot (suc s) r)

  pub reads_map : (r x : List A) → Reads r x → Reads (map g r) (map g x)
  reads_map r x q =
      record { start = q.start; back = q.back; within = omega (arith, q.within, length-map r g); is = ap (map g) q.is ∙ map_reading r q.start q.back }

  pub map_reads : (r : List A) (z : List B) → Reads (map g r) z → (x : List A) × Reads r x × (z ≡ map g x)
  map_reads r z q = (
    reading r q.start q.back,
    record { start = q.start; back = q.back; within = omega (arith, q.within, length-map r g); is = refl },
    q.is ∙ sym (map_reading r q.start q.back),
  )
