-- One list of coordinates is before another that is equally long exactly if it is lower at the first difference; and of lists by
-- number one is the least. Assumes nothing.
use Prim.Native.Nat.{ℕ, zero, suc, ◌<◌}
use native.Mathlib.Omega.{arith}
use native.Mathlib.Decide.{dec_lt}
use native.Mathlib.Nat.{not-suc-le-zero}
use mathlib.Core.Path.{◌≡◌, refl, sym, ap, ◌∙◌}
use mathlib.Core.Bool.{Bool, true, false}
use mathlib.Core.List.{List, [], ◌∷◌}
use lib.ListN.{length, get_or}
use Rattle.reading.specs.Reading.{ord, less}
use Rattle.reading.proofs.Order.{Apart, lower, equal, higher, apart, ord_inj, no_bool}
use Rattle.reading.proofs.Order.{less_lower, less_higher, less_equal, less_irrefl, less_trans}

-- the coordinates before the place k are the same, and that at k is lower
pub record Lower (p q : List ℕ) (k : ℕ) : Type 0 where
  pub inside : k < length p
  pub same : (m : ℕ) → m < k → ord (get_or p m 0) ≡ ord (get_or q m 0)
  pub less_there : ord (get_or p k 0) < ord (get_or q k 0)

pub lower_less : (p q : List ℕ) (k : ℕ) → length p ≡ length q → Lower p q k → less p q ≡ true
lower_less [] q k e h = absurd (not-suc-le-zero h.inside)
lower_less (a ∷ p) [] k e h = absurd (omega arith)
lower_less (a ∷ p) (b ∷ q) zero e h = less_lower a b p q h.less_there
lower_less (a ∷ p) (b ∷ q) (suc k) e h =
    let i : k < length p = omega (arith, h.inside) in
    let t : Lower p q k = record { inside = i; same = λ m l. h.same (suc m) (omega arith); less_there = h.less_there } in
    less_equal a b p q (ord_inj a b (h.same 0 (omega arith))) ∙ lower_less p q k (omega arith) t

pub less_at : (p q : List ℕ) → length p ≡ length q → less p q ≡ true → (k : ℕ) × Lower p q k
less_at [] [] e h = no_bool (unfold less in h)
less_at [] (b ∷ q) e h = absurd (omega arith)
less_at (a ∷ p) [] e h = absurd (omega arith)
less_at (a ∷ p) (b ∷ q) e h = go (apart a b) (less_at p q (omega arith))
  where
    after : a ≡ b → (k : ℕ) × Lower p q k → (k : ℕ) × Lower (a ∷ p) (b ∷ q) k
    after z t = (suc t.0, record { inside = omega (arith, t.1.inside); same = all; less_there = t.1.less_there })
      where
        all : (m : ℕ) → m < suc t.0 → ord (get_or (a ∷ p) m 0) ≡ ord (get_or (b ∷ q) m 0)
        all zero l = ap ord z
        all (suc m) l = t.1.same m (omega arith)

    go : Apart a b → (less p q ≡ true → (k : ℕ) × Lower p q k) → (k : ℕ) × Lower (a ∷ p) (b ∷ q) k
    go (lower l) ih = (0, record { inside = omega arith; same = λ m d. absurd (omega arith); less_there = l })
    go (higher l) ih = no_bool (sym (less_higher a b p q l) ∙ h)
    go (equal z) ih = after z (ih (sym (less_equal a b p q z) ∙ h))

-- of lists by number one is the least
pub lowest : (at : ℕ → List ℕ) (n : ℕ) → (e : ℕ) × (e < suc n) × ((w : ℕ) → w < suc n → less (at w) (at e) ≡ false)
lowest at zero = (0, (omega arith), only)
  where
    only : (w : ℕ) → w < 1 → less (at w) (at 0) ≡ false
    only w l =
        let z : w ≡ 0 = omega arith in
        ap (λ (x : ℕ). less (at x) (at 0)) z ∙ less_irrefl (at 0)
lowest at (suc n) = go (lowest at n)
  where
    go : (e : ℕ) × (e < suc n) × ((w : ℕ) → w < suc n → less (at w) (at e) ≡ false)
        → (e : ℕ) × (e < suc (suc n)) × ((w : ℕ) → w < suc (suc n) → less (at w) (at e) ≡ false)
    go t = by (less (at (suc n)) (at t.0)) refl
      where
        last : (w x : ℕ) → w < suc (suc n) → less (at (suc n)) (at x) ≡ false → (w < suc n → less (at w) (at x) ≡ false)
            → less (at w) (at x) ≡ false
        last w x l h k = at_end (dec_lt w (suc n))
          where
            at_end : Dec (w < suc n) → less (at w) (at x) ≡ false
            at_end (yes d) = k d
            at_end (no d) =
                let z : w ≡ suc n = omega arith in
                ap (λ (y : ℕ). less (at y) (at x)) z ∙ h

        still : (w : ℕ) → less (at (suc n)) (at t.0) ≡ true → w < suc n → less (at w) (at (suc n)) ≡ false
        still w h l = under (less (at w) (at (suc n))) refl
          where
            under : (b : Bool) → less (at w) (at (suc n)) ≡ b → b ≡ false
            under false e = refl
            under true e = no_bool (sym (t.2 w l) ∙ less_trans (at w) (at (suc n)) (at t.0) e h)

        by : (b : Bool) → less (at (suc n)) (at t.0) ≡ b
            → (e : ℕ) × (e < suc (suc n)) × ((w : ℕ) → w < suc (suc n) → less (at w) (at e) ≡ false)
        by true h = (suc n, (omega arith), λ w l. last w (suc n) l (less_irrefl (at (suc n))) (still w h))
        by false h = (t.0, (omega (arith, t.1)), λ w l. last w t.0 l h (t.2 w))
