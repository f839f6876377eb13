-- The loop of `count_staying`. The invariant: those that stay before vertex i and those that stay from i on are all. Assumes nothing.
use Prim.Native.Nat.{ℕ, zero, suc, ◌+◌, ◌-◌, ◌≤◌, ◌<◌}
use mathlib.Core.Path.{◌≡◌, refl, ap, ◌∙◌}
use mathlib.Core.Bool.{Bool, true, false, not}
use mathlib.Core.List.{List, [], ◌∷◌}
use native.Mathlib.Omega.{arith}
use lib.ListN.{length}
use lib.Ieee.{Float}
use Rattle.ring.specs.Ring.{count}
use Rattle.contacts.specs.Contacts.{picks}
use Rattle.contacts.proofs.Picks.{picks_on, picks_off, picks_end}
use Rattle.mending.specs.Mending.{goes_at, stays_at, staying_from, going_from, staying, going}

-- those of a row that pass a test and those that do not are all
picks_both : (p : ℕ → Bool) (k n : ℕ) → length (picks (λ i. not (p i)) k n) + length (picks p k n) ≡ n
unfolding picks
picks_both p k zero = refl
picks_both p k (suc n) = go (picks_both p (suc k) n) (p k) refl
  where
    go : length (picks (λ i. not (p i)) (suc k) n) + length (picks p (suc k) n) ≡ n → (b : Bool) → p k ≡ b
        → length (picks (λ i. not (p i)) k (suc n)) + length (picks p k (suc n)) ≡ suc n
    go more true e = rw e (omega (arith, more))
    go more false e = rw e (omega (arith, more))

module _ (r : List Float) where
  -- a vertex stays or goes
  pub all_parts : length (staying r) + length (going r) ≡ count r
  all_parts = picks_both (goes_at r) 0 (count r - 0) ∙ omega arith

  module _ (i : ℕ) (h : i < count r) where
    pub stay_here : goes_at r i ≡ false → staying_from r i ≡ i ∷ staying_from r (i + 1)
    stay_here g = picks_on (stays_at r) (count r) i h (rw g)

    pub stay_past : goes_at r i ≡ true → staying_from r i ≡ staying_from r (i + 1)
    stay_past g = picks_off (stays_at r) (count r) i h (rw g)

    pub go_here : goes_at r i ≡ true → going_from r i ≡ i ∷ going_from r (i + 1)
    go_here g = picks_on (goes_at r) (count r) i h g

    pub go_past : goes_at r i ≡ false → going_from r i ≡ going_from r (i + 1)
    go_past g = picks_off (goes_at r) (count r) i h g

  pub stay_end : (i : ℕ) → count r ≤ i → staying_from r i ≡ []
  stay_end i h = picks_end (stays_at r) (count r) i h

  pub go_end : (i : ℕ) → count r ≤ i → going_from r i ≡ []
  go_end i h = picks_end (goes_at r) (count r) i h

  pub record Counting (s i : ℕ) : Type 0 where
    pub most : i ≤ count r
    pub few : s ≤ i
    pub sum : s + length (staying_from r i) ≡ length (staying r)

  pub start : Counting 0 0
  start = record { most = omega arith; few = omega arith; sum = omega arith }

  module _ {s i : ℕ} (h : i < count r) (t : Counting s i) where
    pub one_stays : goes_at r i ≡ false → Counting (s + 1) (i + 1)
    one_stays g = record { most = omega arith; few = omega (arith, t.few); sum = omega (arith, ap length (stay_here i h g), t.sum) }

    pub one_goes : goes_at r i ≡ true → Counting s (i + 1)
    one_goes g = record { most = omega arith; few = omega (arith, t.few); sum = omega (arith, ap length (stay_past i h g), t.sum) }

  pub counted : {s i : ℕ} → count r ≤ i → Counting s i → s ≡ length (staying r)
  counted {s} {i} h t = omega (arith, ap length (stay_end i h), t.sum)
