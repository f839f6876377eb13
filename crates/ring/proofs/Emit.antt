-- A loop that writes its output to the front of a room: after k elements the room is `out ++ drop k d`, where d is the room as it came.
-- Assumes nothing.
use Prim.Native.Nat.{ℕ, suc, ◌+◌, ◌<◌, ◌≤◌}
use mathlib.Core.Path.{◌≡◌, ap, ◌∙◌}
use mathlib.Core.List.{List, [], ◌∷◌, ◌++◌, append_assoc}
use native.Mathlib.Omega.{arith}
use native.Mathlib.Nat.{add_assoc}
use native.Mathlib.Numerals.{add-one}
use lib.ListN.{length, take, drop, get_or, set, length-append}
use Rattle.ring.specs.Room.{laid}
use lib.Seq.{sets, sets-eq, drop-cons, set_at, take-suc, length-take-le}

module _ {A : Type 0} where
  -- a store at k adds one element
  pub emit : (out d : List A) (k : ℕ) (v : A) → length out ≡ k → k < length d → set (out ++ drop k d) k v ≡ (out ++ (v ∷ [])) ++ drop (k + 1) d
  emit out d k v e h = rw (drop-cons d k v, set_at, append_assoc, add-one)

  pub emit_length : (out : List A) (k : ℕ) (v : A) → length out ≡ k → length (out ++ (v ∷ [])) ≡ k + 1
  emit_length out k v e = simp length-append (omega arith)

  -- two stores, at k and k + 1
  pub emit2 : (out d : List A) (k : ℕ) (v w : A) → length out ≡ k → k + 1 < length d → set (set (out ++ drop k d) k v) (k + 1) w ≡ (out ++ (v ∷ w ∷ [])) ++ drop (k + 2) d
  emit2 out d k v w e h =
      rw (emit out d k v e (omega arith), emit (out ++ (v ∷ [])) d (k + 1) w (emit_length out k v e) h)
      (simp (append_assoc, add_assoc))

  -- a loop that copies the first elements of a list
  pub emit_next : (l d room : List A) (i : ℕ) (v : A) → i < length l → i < length d → room ≡ take i l ++ drop i d
      → set room i (get_or l i v) ≡ take (i + 1) l ++ drop (i + 1) d
  emit_next l d room i v hl hd e =
      rw (e, emit (take i l) d i (get_or l i v) (length-take-le i l (omega arith)) hd, add-one i, take-suc l i v)

  pub emit_all : (l d room : List A) (i len : ℕ) → i ≤ len → len ≤ i → len ≤ length l → room ≡ take i l ++ drop i d → room ≡ laid (take len l) d
  emit_all l d room i len h k fits e = let q : i ≡ len = omega arith in rw (length-take-le len l fits, ← q) e

-- a list stored at the front of a room that it fits
pub laid_is : {A : Type 0} (l room : List A) → length l ≤ length room → sets room 0 l ≡ laid l room
laid_is l room h = let e : 0 + length l ≡ length l = omega arith in sets-eq l room 0 (omega arith) ∙ ap (λ (j : ℕ). l ++ drop j room) e

-- one list stored after another
pub sets_append : {A : Type 0} (l : List A) (i : ℕ) (u v : List A) → sets l i (u ++ v) ≡ sets (sets l i u) (i + length u) v
sets_append l i [] v = ap (λ (k : ℕ). sets l k v) (omega arith)
sets_append l i (a ∷ u) v =
    let e : suc i + length u ≡ i + suc (length u) = omega arith in
    sets_append (set l i a) (suc i) u v ∙ ap (λ (k : ℕ). sets (sets (set l i a) (suc i) u) k v) e
