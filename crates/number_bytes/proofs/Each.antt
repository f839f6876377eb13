-- What holds of each element of a list holds of each of its parts. Assumes nothing.
use Prim.Native.Nat.{ℕ, zero, suc}
use mathlib.Core.List.{List, [], ◌∷◌}
use lib.ListN.{take, drop}
use Rattle.number_bytes.specs.Bytes.{Each}

module _ {A : Type 0} (P : A → Type 0) where
  pub each_take : (i : ℕ) (l : List A) → Each P l → Each P (take i l)
  each_take zero l h = tt
  each_take (suc i) [] h = tt
  each_take (suc i) (a ∷ l) h = (h.0, each_take i l h.1)

  pub each_drop : (i : ℕ) (l : List A) → Each P l → Each P (drop i l)
  each_drop zero l h = h
  each_drop (suc i) [] h = tt
  each_drop (suc i) (a ∷ l) h = each_drop i l h.1
