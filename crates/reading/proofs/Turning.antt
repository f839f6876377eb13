-- To be a reading of: an equivalence of rings that are not empty. Assumes nothing.
use Prim.Native.Nat.{ℕ, zero, suc, ◌-◌, ◌≤◌, ◌<◌}
use native.Mathlib.Omega.{arith}
use native.Mathlib.Decide.{dec_lt}
use mathlib.Core.Path.{◌≡◌, refl, sym, ap, subst, ◌∙◌}
use mathlib.Core.Bool.{Bool, true, false}
use mathlib.Core.List.{List, [], ◌∷◌, ◌++◌, reverse, append-nil, append_assoc, reverse-cons, reverse-append, reverse-reverse}
use native.Mathlib.Nat.{not-suc-le-zero}
use lib.ListN.{length, get_or, take, drop, length-append, length-take, length-drop, length-reverse, take-append-drop}
use lib.Seq.{take-length, drop-length, take-suc, drop-cons, take_at, drop_at}
use Rattle.reading.specs.Reading.{rot, reading, Reads}

module _ {A : Type 0} where
  -- one corner on
  abbrev turn : List A → List A
  turn [] = []
  turn (a ∷ r) = r ++ (a ∷ [])

  rot_zero : (r : List A) → rot 0 r ≡ r
  rot_zero r = append-nil r

  rot_all : (r : List A) → rot (length r) r ≡ r
  rot_all r = rw (drop-length, take-length)

  pub length_rot : (k : ℕ) (r : List A) → length (rot k r) ≡ length r
  length_rot k r = simp (length-append, length-drop, length-take) (omega arith)

  pub length_reading : (r : List A) (s : ℕ) (b : Bool) → length (reading r s b) ≡ length r
  length_reading r s false = length_rot s r
  length_reading r s true = length-reverse (rot (suc s) r) ∙ length_rot (suc s) r

  -- one more corner
  turn_rot_at : (d : A) (k : ℕ) (r : List A) → k < length r → rot (suc k) r ≡ turn (rot k r)
  turn_rot_at d k r h = rw (drop-cons r k d h, take-suc r k d h) (sym (append_assoc (drop (suc k) r) (take k r) (get_or r k d ∷ [])))

  turn_rot : (k : ℕ) (r : List A) → k < length r → rot (suc k) r ≡ turn (rot k r)
  turn_rot k [] h = absurd (not-suc-le-zero h)
  turn_rot k (a ∷ r) h = turn_rot_at a k (a ∷ r) h

  -- to turn, read from the end and turn again is to read from the end
  turn_reverse : (r : List A) → turn (reverse (turn r)) ≡ reverse r
  turn_reverse [] = refl
  turn_reverse (a ∷ r) = ap turn (reverse-append r (a ∷ [])) ∙ sym (reverse-cons a r)

  -- to go the rest of the way round
  rot_back : (k : ℕ) (r : List A) → rot (length r - k) (rot k r) ≡ r
  rot_back k r =
      let e : length (drop k r) ≡ length r - k = length-drop k r in
      rw (take_at (drop k r) (take k r) (length r - k) e, drop_at (drop k r) (take k r) (length r - k) e) (take-append-drop k r)

  -- ---- what is a reading

  onward : (k : ℕ) (r : List A) → 0 < length r → k ≤ length r → Reads r (rot k r)
  onward k r n h = go (dec_lt k (length r))
    where
      go : Dec (k < length r) → Reads r (rot k r)
      go (yes l) = record { start = k; back = false; within = l; is = refl }
      go (no l) =
          let e : k ≡ length r = omega arith in
          record { start = 0; back = false; within = n; is = ap (λ (j : ℕ). rot j r) e ∙ rot_all r ∙ sym (rot_zero r) }

  backward : (k : ℕ) (r : List A) → 0 < length r → k ≤ length r → Reads r (reverse (rot k r))
  backward zero r n h =
      let e : suc (length r - 1) ≡ length r = omega arith in
      record { start = length r - 1; back = true; within = omega arith; is = ap reverse (rot_zero r ∙ sym (rot_all r) ∙ ap (λ (j : ℕ). rot j r) (sym e)) }
  backward (suc k) r n h = record { start = k; back = true; within = h; is = refl }

  turned : (r : List A) (s : ℕ) (b : Bool) → s < length r → Reads r (turn (reading r s b))
  turned r s false h = subst (Reads r) (turn_rot s r h) (onward (suc s) r (omega arith) h)
  turned r s true h =
      subst (Reads r) (sym (turn_reverse (rot s r)) ∙ ap (λ (l : List A). turn (reverse l)) (sym (turn_rot s r h))) (backward s r (omega arith) (omega arith))

  reversed : (r : List A) (s : ℕ) (b : Bool) → s < length r → Reads r (reverse (reading r s b))
  reversed r s false h = backward s r (omega arith) (omega arith)
  reversed r s true h = subst (Reads r) (sym (reverse-reverse (rot (suc s) r))) (onward (suc s) r (omega arith) h)

  reads_turn : {r x : List A} → Reads r x → Reads r (turn x)
  reads_turn {r} q = subst (λ (l : List A). Reads r (turn l)) (sym q.is) (turned r q.start q.back q.within)

  reads_reverse : {r x : List A} → Reads r x → Reads r (reverse x)
  reads_reverse {r} q = subst (λ (l : List A). Reads r (reverse l)) (sym q.is) (reversed r q.start q.back q.within)

  reads_rot : {r x : List A} (k : ℕ) → k ≤ length x → Reads r x → Reads r (rot k x)
  reads_rot {r} {x} zero h q = subst (Reads r) (sym (rot_zero x)) q
  reads_rot {r} {x} (suc k) h q = subst (Reads r) (sym (turn_rot k x h)) (reads_turn (reads_rot k (omega arith) q))

  pub reads_length : {r x : List A} → Reads r x → length x ≡ length r
  reads_length {r} q = ap length q.is ∙ length_reading r q.start q.back

  -- ---- To be a reading of is an equivalence of rings that are not empty.

  pub reads_refl : (r : List A) → 0 < length r → Reads r r
  reads_refl r n = record { start = 0; back = false; within = n; is = sym (rot_zero r) }

  read_again : {r x : List A} (s : ℕ) (b : Bool) → s < length x → Reads r x → Reads r (reading x s b)
  read_again s false h q = reads_rot s (omega arith) q
  read_again s true h q = reads_reverse (reads_rot (suc s) h q)

  pub reads_trans : {r x z : List A} → Reads r x → Reads x z → Reads r z
  reads_trans {r} {x} {z} p q = subst (Reads r) (sym q.is) (read_again q.start q.back q.within p)

  undo : (r : List A) (s : ℕ) (b : Bool) → s < length r → Reads (reading r s b) r
  undo r s false h =
      let e : length (rot s r) ≡ length r = length_rot s r in
      subst (Reads (rot s r)) (rot_back s r) (onward (length r - s) (rot s r) (omega arith) (omega arith))
  undo r s true h =
      let x = reverse (rot (suc s) r) in
      let e : length x ≡ length r = length_reading r s true in
      let q : Reads x (rot (suc s) r) = subst (Reads x) (reverse-reverse (rot (suc s) r)) (reads_reverse (reads_refl x (omega arith))) in
      subst (Reads x) (rot_back (suc s) r) (reads_rot (length r - suc s) (omega (arith, length_rot (suc s) r)) q)

  pub reads_sym : {r x : List A} → Reads r x → Reads x r
  reads_sym {r} {x} q = subst (λ (l : List A). Reads l r) (sym q.is) (undo r q.start q.back q.within)
