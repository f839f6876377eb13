-- The order of lists of coordinates is total. Assumes nothing.
use Prim.Native.Nat.{ℕ, suc, ◌+◌, ◌-◌, ◌^◌, ◌≤◌, ◌<◌}
use native.Mathlib.Omega.{arith}
use mathlib.Core.Path.{◌≡◌, refl, sym, ap, ◌∙◌}
use mathlib.Core.Bool.{Bool, true, false, cond}
use mathlib.Core.List.{List, [], ◌∷◌}
use lib.Dec.{ltb}
use borrow.Author.Tests.{ltb-true, ltb-false, lt-ltb, le-ltb}
use Rattle.reading.specs.Reading.{ord, less}
use native.Mathlib.Decide.{dec_lt}

-- ---- the place of a bit pattern

pub ord_low : (b : ℕ) → b < 2 ^ 63 → ord b ≡ 2 ^ 63 + b
unfolding ord
ord_low b h = rw (lt-ltb b (2 ^ 63) h)

pub ord_high : (b : ℕ) → 2 ^ 63 ≤ b → b < 2 ^ 64 → ord b ≡ 2 ^ 64 - 1 - b
unfolding ord
ord_high b h k =
    let e : 2 ^ 64 - suc b ≡ 2 ^ 64 - 1 - b = omega arith in
    rw (le-ltb b (2 ^ 63) h, lt-ltb b (2 ^ 64) k) e

data Placed (b o : ℕ) : Type 0 where
  above : b < 2 ^ 63 → o ≡ 2 ^ 63 + b → Placed b o
  under : 2 ^ 63 ≤ b → b < 2 ^ 64 → o + suc b ≡ 2 ^ 64 → Placed b o
  beyond : 2 ^ 64 ≤ b → o ≡ b → Placed b o

placed : (b : ℕ) → Placed b (ord b)
unfolding ord
placed b = go (ltb b (2 ^ 63)) (ltb b (2 ^ 64)) refl refl
  where
    go : (s t : Bool) → ltb b (2 ^ 63) ≡ s → ltb b (2 ^ 64) ≡ t → Placed b (cond s (2 ^ 63 + b) (cond t (2 ^ 64 - suc b) b))
    go true t p q = above (ltb-true _ _ p) refl
    go false true p q =
        let h : b < 2 ^ 64 = ltb-true _ _ q in
        under (ltb-false _ _ p) h (omega arith)
    go false false p q = beyond (ltb-false _ _ q) refl

same_place : (a b o o' : ℕ) → Placed a o → Placed b o' → o ≡ o' → a ≡ b
same_place a b o o' (above h e) (above h' e') q = omega arith
same_place a b o o' (above h e) (under l h' e') q = omega arith
same_place a b o o' (above h e) (beyond l e') q = omega arith
same_place a b o o' (under l h e) (above h' e') q = omega arith
same_place a b o o' (under l h e) (under l' h' e') q = omega arith
same_place a b o o' (under l h e) (beyond l' e') q = omega arith
same_place a b o o' (beyond l e) (above h' e') q = omega arith
same_place a b o o' (beyond l e) (under l' h' e') q = omega arith
same_place a b o o' (beyond l e) (beyond l' e') q = omega arith

-- no two share a place
pub ord_inj : (a b : ℕ) → ord a ≡ ord b → a ≡ b
ord_inj a b e = same_place a b (ord a) (ord b) (placed a) (placed b) e

pub data Apart (a b : ℕ) : Type 0 where
  lower : ord a < ord b → Apart a b
  equal : a ≡ b → Apart a b
  higher : ord b < ord a → Apart a b

pub apart : (a b : ℕ) → Apart a b
apart a b = go (dec_lt (ord a) (ord b)) (dec_lt (ord b) (ord a))
  where
    go : Dec (ord a < ord b) → Dec (ord b < ord a) → Apart a b
    go (yes l) k = lower l
    go (no l) (yes k) = higher k
    go (no l) (no k) = equal (ord_inj a b (omega arith))

-- ---- the first difference

pub less_lower : (a b : ℕ) (p q : List ℕ) → ord a < ord b → less (a ∷ p) (b ∷ q) ≡ true
unfolding less
less_lower a b p q h = rw (lt-ltb (ord a) (ord b) h)

pub less_higher : (a b : ℕ) (p q : List ℕ) → ord b < ord a → less (a ∷ p) (b ∷ q) ≡ false
unfolding less
less_higher a b p q h =
    let l : ord b ≤ ord a = omega arith in
    rw (le-ltb (ord a) (ord b) l, lt-ltb (ord b) (ord a) h)

pub less_equal : (a b : ℕ) (p q : List ℕ) → a ≡ b → less (a ∷ p) (b ∷ q) ≡ less p q
unfolding less
less_equal a b p q e =
    let l : ord b ≤ ord a = omega (arith, ap ord e) in
    let l' : ord a ≤ ord b = omega (arith, ap ord e) in
    rw (le-ltb (ord a) (ord b) l, le-ltb (ord b) (ord a) l')

-- ---- a total order

pub no_bool : {A : Type 0} → false ≡ true → A
no_bool e = absurd (let z : ◌≡◌ {A = ℕ} 0 1 = cc in omega arith)

pub less_irrefl : (p : List ℕ) → less p p ≡ false
less_irrefl [] = unfold less in refl
less_irrefl (a ∷ p) = less_equal a a p p refl ∙ less_irrefl p

pub less_conn : (p q : List ℕ) → less p q ≡ false → less q p ≡ false → p ≡ q
less_conn [] [] h k = refl
less_conn [] (b ∷ q) h k = no_bool (sym (unfold less in h))
less_conn (a ∷ p) [] h k = no_bool (sym (unfold less in k))
less_conn (a ∷ p) (b ∷ q) h k = go (apart a b) (less_conn p q)
  where
    go : Apart a b → (less p q ≡ false → less q p ≡ false → p ≡ q) → a ∷ p ≡ b ∷ q
    go (lower l) ih = no_bool (sym h ∙ less_lower a b p q l)
    go (higher l) ih = no_bool (sym k ∙ less_lower b a q p l)
    go (equal e) ih =
        let t : p ≡ q = ih (sym (less_equal a b p q e) ∙ h) (sym (less_equal b a q p (sym e)) ∙ k) in
        cc

pub less_trans : (p q r : List ℕ) → less p q ≡ true → less q r ≡ true → less p r ≡ true
less_trans [] [] r h k = k
less_trans [] (b ∷ q) [] h k = no_bool (unfold less in k)
less_trans [] (b ∷ q) (c ∷ r) h k = unfold less in refl
less_trans (a ∷ p) [] r h k = no_bool (unfold less in h)
less_trans (a ∷ p) (b ∷ q) [] h k = no_bool (unfold less in k)
less_trans (a ∷ p) (b ∷ q) (c ∷ r) h k = go (apart a b) (apart b c) (less_trans p q r)
  where
    go : Apart a b → Apart b c → (less p q ≡ true → less q r ≡ true → less p r ≡ true) → less (a ∷ p) (c ∷ r) ≡ true
    go (higher l) y ih = no_bool (sym (less_higher a b p q l) ∙ h)
    go (lower l) (higher m) ih = no_bool (sym (less_higher b c q r m) ∙ k)
    go (equal e) (higher m) ih = no_bool (sym (less_higher b c q r m) ∙ k)
    go (lower l) (lower m) ih = less_lower a c p r (omega arith)
    go (lower l) (equal f) ih = less_lower a c p r (omega (arith, ap ord f))
    go (equal e) (lower m) ih = less_lower a c p r (omega (arith, ap ord e))
    go (equal e) (equal f) ih = less_equal a c p r (e ∙ f) ∙ ih (sym (less_equal a b p q e) ∙ h) (sym (less_equal b c q r f) ∙ k)
