-- Which edges have the same line, as the code finds it, and how many. Assumes nothing.
use Prim.Native.Nat.{ℕ, zero, suc, ◌+◌, ◌*◌, ◌-◌, ◌^◌, ◌≤◌, ◌<◌}
use native.Mathlib.Nat.{eq-or-lt_of_le}
use native.Mathlib.Numerals.{add-one}
use native.Mathlib.Omega.{arith}
use mathlib.Core.Path.{◌≡◌, refl, sym, subst, ◌∙◌}
use mathlib.Core.Logic.{⊎_elim}
use mathlib.Core.Bool.{Bool, true, false, cond}
use mathlib.Core.List.{List}
use lib.Dec.{eqb, ltb}
use lib.IntN.{ℤ, pos, negsuc}
use lib.ListN.{length, set, length-set}
use lib.Seq.{get_or-set_same, get_or-set_other}
use mir.Syntax.{w32}
use mir.Val.{SFits, of_z}
use borrow.Author.Tests.{ltb-true, ltb-false, eqb-true, eqb-false, lt-ltb, le-ltb, eq-eqb, ne_eqb}
use Rattle.laws.specs.Turns.{tally}
use Rattle.clear_move.specs.Shared.{same_whole, same_number, same_line, owner, has, has_before, has_after}
use Rattle.clear_move.specs.Owned.{first, Owned}

-- ---- numbers, as the machine holds them

both_or_not : (a b c d : ℕ) → (a ≡ b → c ≡ d) → (c ≡ d → a ≡ b) → eqb a b ≡ eqb c d
both_or_not a b c d f g = go (eqb a b) refl
  where
    go : (x : Bool) → eqb a b ≡ x → eqb a b ≡ eqb c d
    go true e = e ∙ sym (eq-eqb c d (f (eqb-true a b e)))
    go false e = e ∙ sym (ne_eqb c d (λ h. eqb-false a b e (g h)))

pub same_held : (x y : ℤ) → SFits w32 x → SFits w32 y → eqb (of_z w32 x) (of_z w32 y) ≡ same_whole x y
unfolding same_whole
same_held (pos m) (pos n) f g = refl
same_held (pos m) (negsuc n) f g =
    ne_eqb m (2 ^ 32 - suc n)
    (λ h. let a : m < 2 ^ 31 = f.sfits in let b : n < 2 ^ 31 = g.sfits in omega arith)
same_held (negsuc m) (pos n) f g =
    ne_eqb (2 ^ 32 - suc m) n
    (λ h. let a : m < 2 ^ 31 = f.sfits in let b : n < 2 ^ 31 = g.sfits in omega arith)
same_held (negsuc m) (negsuc n) f g =
    let a : m < 2 ^ 31 = f.sfits in
    let b : n < 2 ^ 31 = g.sfits in
    both_or_not (2 ^ 32 - suc m) (2 ^ 32 - suc n) m n (λ h. omega arith) (λ h. omega arith)

-- ---- lines, number by number

module _ (ls : List ℤ) (i j : ℕ) {w : Bool} (ew : w ≡ same_number ls (4 * i) (4 * j)) where
  pub off : w ≡ false → false ≡ same_line ls i j
  unfolding same_line
  off h = rw (← ew, h)

  module _ {x : Bool} (hw : w ≡ true) (ex : x ≡ same_number ls (4 * i + 1) (4 * j + 1)) where
    pub off_2 : x ≡ false → false ≡ same_line ls i j
    unfolding same_line
    off_2 h = rw (← ew, hw, ← ex, h)

    module _ {y : Bool} (hx : x ≡ true) (ey : y ≡ same_number ls (4 * i + 2) (4 * j + 2)) where
      pub off_3 : y ≡ false → false ≡ same_line ls i j
      unfolding same_line
      off_3 h = rw (← ew, hw, ← ex, hx, ← ey, h)

      pub last_one : {z : Bool} → y ≡ true → z ≡ same_number ls (4 * i + 3) (4 * j + 3) → z ≡ same_line ls i j
      unfolding same_line
      last_one h e = rw (← ew, hw, ← ex, hx, ← ey, h) e

-- ---- the loop of `note_owners`

module _ (ls : List ℤ) (d : List ℕ) where
  pub record Noting (owners : List ℕ) (k : ℕ) : Type 0 where
    pub same : length owners ≡ length d
    pub noted : Owned ls owners k

  pub start : Noting d 0
  start = record { same = refl; noted = λ k l. absurd (omega arith) }

  pub turn : {owners : List ℕ} {k f : ℕ} → Noting owners k → k < length d → f ≡ owner ls k → Noting (set owners k f) (k + 1)
  turn {owners} {k} {f} N h e =
      let l : k < length owners = omega (arith, N.same) in
      record {
        same = simp length-set N.same;
        noted =
            λ i g. ⊎_elim
            (λ q. subst (λ (j : ℕ). first (set owners k f) j ≡ owner ls j) (sym q) (get_or-set_same owners k f 0 l ∙ e))
            (λ q. get_or-set_other owners k i f 0 (λ r. omega arith) ∙ N.noted i q)
            (eq-or-lt_of_le {n = i} {m = k} (omega arith));
      }

-- ---- the edges beside one

module _ (o : ℕ → ℕ) (m j k : ℕ) where
  pub none_before : k ≡ 0 → false ≡ has_before o j k
  unfolding has_before
  none_before e = rw e

  pub before_is : {x : Bool} → 0 < k → x ≡ has o j (k - 1) → x ≡ has_before o j k
  unfolding has_before
  before_is h e = let f : k ≡ suc (k - 1) = omega arith in rw f e

  pub after_is : {x : Bool} → k + 1 < m → x ≡ has o j (k + 1) → x ≡ has_after o m j k
  unfolding has_after
  after_is h e = rw (lt-ltb (suc k) m (omega arith), ← (add-one k)) e

  pub none_after : m ≤ k + 1 → false ≡ has_after o m j k
  unfolding has_after
  none_after h = rw (le-ltb (suc k) m (omega arith))

-- ---- how many

pub tally_more : (p : ℕ → Bool) (k : ℕ) {n f : ℕ} → n ≡ tally p k → f ≡ cond (p k) 1 0 → n + f ≡ tally p (k + 1)
unfolding tally
tally_more p k e h = rw (add-one k, e, h)

pub tally_most : (p : ℕ → Bool) (n : ℕ) → tally p n ≤ n
unfolding tally
tally_most p zero = omega arith
tally_most p (suc n) = go (p n) (tally_most p n)
  where
    go : (x : Bool) → tally p n ≤ n → tally p n + cond x 1 0 ≤ suc n
    go true h = omega arith
    go false h = omega arith

-- those before one more are no fewer
pub tally_up : (p : ℕ → Bool) (k n : ℕ) → k ≤ n → tally p k ≤ tally p n
unfolding tally
tally_up p k zero h = let e : k ≡ 0 = omega arith in rw e (let z : tally p 0 ≤ tally p 0 = omega arith in z)
tally_up p k (suc n) h =
    ⊎_elim
    (λ q. rw q (let z : tally p (suc n) ≤ tally p (suc n) = omega arith in z))
    (λ q. let u = tally_up p k n (omega arith) in omega arith)
    (eq-or-lt_of_le {n = k} {m = suc n} h)

-- the edges of the lines of the first j edges, and of the next
abbrev pub told : (ℕ → ℕ) → ℕ → ℕ → ℕ
told o j m = tally (λ k. ltb (o k) j) m

step : (x j : ℕ) → cond (ltb x (j + 1)) 1 0 ≡ ◌+◌ (cond (ltb x j) 1 0) (cond (eqb x j) 1 0)
step x j = go (ltb x j) (eqb x j) refl refl
  where
    go : (s t : Bool) → ltb x j ≡ s → eqb x j ≡ t → cond (ltb x (j + 1)) 1 0 ≡ cond s 1 0 + cond t 1 0
    go true true e f = let h = ltb-true x j e in let g = eqb-true x j f in absurd (omega arith)
    go true false e f = let h = ltb-true x j e in rw (lt-ltb x (j + 1) (omega arith))
    go false true e f = let g = eqb-true x j f in rw (lt-ltb x (j + 1) (omega arith))
    go false false e f =
        let h : j ≤ x = ltb-false x j e in
        rw (le-ltb x (j + 1) (⊎_elim (λ q. absurd (eqb-false x j f (sym q))) (λ q. omega arith) (eq-or-lt_of_le h)))

pub told_more : (o : ℕ → ℕ) (j m : ℕ) → told o (j + 1) m ≡ told o j m + tally (has o j) m
unfolding tally
told_more o j zero = refl
told_more o j (suc m) = omega (arith, told_more o j m, step (o m) j)
