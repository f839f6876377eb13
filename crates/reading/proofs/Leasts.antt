-- Two rings have the same least reading exactly if one is a reading of the other. Assumes nothing.
use Prim.Native.Nat.{ℕ, zero, suc, ◌+◌, ◌-◌, ◌*◌, ◌≤◌, ◌<◌}
use native.Mathlib.Omega.{arith}
use native.Mathlib.Decide.{dec_lt}
use mathlib.Core.Path.{◌≡◌, refl, sym, ap, subst, ◌∙◌}
use mathlib.Core.Logic.{◌↔◌}
use mathlib.Core.Bool.{Bool, true, false, not, cond}
use mathlib.Core.List.{List, [], ◌∷◌}
use lib.ListN.{length}
use lib.Dec.{ltb}
use borrow.Author.Tests.{ltb-true, ltb-false, lt-ltb, le-ltb}
use Rattle.reading.specs.Reading.{reading, Reads, Vertex, flat, vertices, less, earlier, choice, best, best_of, least_reading}
use Rattle.reading.proofs.Turning.{reads_sym, reads_trans, reads_length}
use Rattle.reading.proofs.Order.{less_irrefl, less_conn, less_trans, no_bool}

-- ---- the readings by number

module _ {A : Type 0} (r : List A) where
  choice_onward : (c : ℕ) → c < length r → choice r c ≡ reading r c false
  choice_onward c h = rw (lt-ltb c (length r) h)

  choice_back : (s : ℕ) → choice r (length r + s) ≡ reading r s true
  choice_back s =
      let h : length r ≤ length r + s = omega arith in
      let e : length r + s - length r ≡ s = omega arith in
      rw (le-ltb (length r + s) (length r) h, e)

  choice_reads : (c : ℕ) → c < 2 * length r → Reads r (choice r c)
  choice_reads c h = go (ltb c (length r)) refl
    where
      go : (b : Bool) → ltb c (length r) ≡ b → Reads r (reading r (cond b c (c - length r)) (not b))
      go true e = record { start = c; back = false; within = ltb-true _ _ e; is = refl }
      go false e =
          let l : length r ≤ c = ltb-false _ _ e in
          record { start = c - length r; back = true; within = omega arith; is = refl }

  number : (s : ℕ) (b : Bool) → s < length r → (c : ℕ) × (c < 2 * length r) × (reading r s b ≡ choice r c)
  number s false h = (s, (omega arith), sym (choice_onward s h))
  number s true h = (length r + s, (omega arith), sym (choice_back s))

  reads_choice : {x : List A} → Reads r x → (c : ℕ) × (c < 2 * length r) × (x ≡ choice r c)
  reads_choice q =
      let n = number q.start q.back q.within in
      (n.0, n.1, q.is ∙ n.2)

-- ---- the first of the least

module _ (r : List Vertex) where
  pub best_le : (c : ℕ) → best r c ≤ c
  unfolding best
  best_le zero = omega arith
  best_le (suc c) = go (earlier (choice r (suc c)) (choice r (best r c))) (best_le c)
    where
      go : (b : Bool) → best r c ≤ c → cond b (suc c) (best r c) ≤ suc c
      go true h = omega arith
      go false h = omega arith

  pub best_least : (c j : ℕ) → j ≤ c → earlier (choice r j) (choice r (best r c)) ≡ false
  unfolding best
  best_least zero j h =
      let e : j ≡ 0 = omega arith in
      ap (λ (k : ℕ). earlier (choice r k) (choice r 0)) e ∙ less_irrefl (flat (choice r 0))
  best_least (suc c) j h = go (earlier (choice r (suc c)) (choice r (best r c))) refl (dec_lt j (suc c)) (best_least c j)
    where
      at : ℕ → List ℕ
      at k = flat (choice r k)

      last : ¬ (j < suc c) → at j ≡ at (suc c)
      last n = ap at (omega arith)

      go : (b : Bool) → less (at (suc c)) (at (best r c)) ≡ b → Dec (j < suc c) → (j ≤ c → less (at j) (at (best r c)) ≡ false)
          → less (at j) (at (cond b (suc c) (best r c))) ≡ false
      go true e (yes l) ih = under (less (at j) (at (suc c))) refl
        where
          under : (t : Bool) → less (at j) (at (suc c)) ≡ t → t ≡ false
          under false f = refl
          under true f = no_bool (sym (ih (omega arith)) ∙ less_trans (at j) (at (suc c)) (at (best r c)) f e)
      go true e (no l) ih = ap (λ (k : List ℕ). less k (at (suc c))) (last l) ∙ less_irrefl (at (suc c))
      go false e (yes l) ih = ih (omega arith)
      go false e (no l) ih = ap (λ (k : List ℕ). less k (at (best r c))) (last l) ∙ e

  bestOf_lt : 0 < length r → best_of r < 2 * length r
  unfolding best_of
  bestOf_lt h = omega (arith, best_le (2 * length r - 1))

-- The least reading is a reading,
pub least_reads : (r : List Vertex) → 0 < length r → Reads r (least_reading r)
unfolding least_reading
least_reads r h = choice_reads r (best_of r) (bestOf_lt r h)

-- and no reading is before it.
pub least_first : (r x : List Vertex) → Reads r x → earlier x (least_reading r) ≡ false
unfolding least_reading best_of
least_first r x q =
    let n = reads_choice r q in
    rw n.2 (best_least r (2 * length r - 1) n.0 (omega (arith, n.1)))

pub vertices_flat : (p : List Vertex) → vertices (flat p) ≡ p
vertices_flat [] = refl
vertices_flat (v ∷ p) = ap (λ (l : List Vertex). v ∷ l) (vertices_flat p)

pub length_flat : (r : List Vertex) → length (flat r) ≡ 2 * length r
length_flat [] = refl
length_flat (v ∷ r) = let e = length_flat r in omega arith

pub flat_inj : (p q : List Vertex) → flat p ≡ flat q → p ≡ q
flat_inj p q e = sym (vertices_flat p) ∙ ap vertices e ∙ vertices_flat q

pub length_least : (r : List Vertex) → 0 < length r → length (least_reading r) ≡ length r
length_least r h = reads_length (least_reads r h)

-- ---- the theorem

pub same_least : (r x : List Vertex) → 0 < length r → Reads r x → least_reading r ≡ least_reading x
same_least r x h q =
    let e : length x ≡ length r = reads_length q in
    flat_inj (least_reading r) (least_reading x)
    (less_conn (flat (least_reading r)) (flat (least_reading x))
    (least_first x (least_reading r) (reads_trans (reads_sym q) (least_reads r h)))
    (least_first r (least_reading x) (reads_trans q (least_reads x (omega arith)))))

pub reads_of_least : (r x : List Vertex) → 0 < length r → 0 < length x → least_reading r ≡ least_reading x → Reads r x
reads_of_least r x h k e =
    reads_trans (least_reads r h) (subst (λ (l : List Vertex). Reads l x) (sym e) (reads_sym (least_reads x k)))

-- Two rings have the same least reading exactly if one is a reading of the other.
pub least_exactly : (r x : List Vertex) → 0 < length r → 0 < length x → (least_reading r ≡ least_reading x) ↔ Reads r x
least_exactly r x h k = (reads_of_least r x h k, same_least r x h)

-- the least reading of the least reading is itself
pub least_again : (r : List Vertex) → 0 < length r → least_reading (least_reading r) ≡ least_reading r
least_again r h = sym (same_least r (least_reading r) h (least_reads r h))
