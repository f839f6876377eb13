-- What holds of each element of a list holds of each of its readings. Assumes nothing.
use Prim.Native.Nat.{ℕ, suc}
use mathlib.Core.Path.{sym, subst}
use mathlib.Core.Bool.{Bool, true, false}
use mathlib.Core.List.{List, [], ◌∷◌, ◌++◌, reverse_aux}
use lib.ListN.{take, drop}
use Rattle.reading.specs.Reading.{rot, reading, Reads}
use Rattle.number_bytes.specs.Bytes.{Each}
use Rattle.number_bytes.proofs.Each.{each_take, each_drop}

module _ {A : Type 0} (P : A → Type 0) where
  pub each_append : (l m : List A) → Each P l → Each P m → Each P (l ++ m)
  each_append [] m h k = k
  each_append (a ∷ l) m h k = (h.0, each_append l m h.1 k)

  each_aux : (l m : List A) → Each P l → Each P m → Each P (reverse_aux l m)
  each_aux [] m h k = k
  each_aux (a ∷ l) m h k = each_aux l (a ∷ m) h.1 (h.0, k)

  each_rot : (i : ℕ) (l : List A) → Each P l → Each P (rot i l)
  each_rot i l h = each_append (drop i l) (take i l) (each_drop P i l h) (each_take P i l h)

  each_reading : (l : List A) (s : ℕ) (b : Bool) → Each P l → Each P (reading l s b)
  each_reading l s false h = each_rot s l h
  each_reading l s true h = each_aux (rot (suc s) l) [] (each_rot (suc s) l h) tt

  pub each_reads : {l x : List A} → Reads l x → Each P l → Each P x
  each_reads {l} {x} q h = subst (Each P) (sym q.is) (each_reading l q.start q.back h)
