-- What becomes of a vertex, test by test. Assumes nothing.
use Prim.Native.Nat.{ℕ, suc, ◌-◌}
use mathlib.Core.Path.{◌≡◌, refl, sym, ◌∙◌}
use mathlib.Core.Bool.{Bool, true, false, not, cond, ◌||◌}
use mathlib.Core.List.{List}
use native.Mathlib.Omega.{arith}
use lib.Dec.{eqb}
use lib.Ieee.{Float}
use borrow.Author.Tests.{eq-eqb, ne_eqb}
use Rattle.laws.proofs.Both.{both}
use Rattle.plane.specs.Vector.{same_of}
use Rattle.ring.specs.Ring.{point_at}
use Rattle.mending.specs.Mending.{why_run, why_trailing, repeats_at, trails_from, goes_at, stays_at, why_of, fate_of}
use Rattle.std.specs.Prelude.{Some, None}
use Rattle.std.specs.Option.{is_some}

-- the first stays
pub goes_first : (r : List Float) → goes_at r 0 ≡ false
unfolding goes_at
goes_first r = refl

-- a vertex that repeats the one before it
pub repeated : (r : List Float) (i : ℕ) → repeats_at r (suc i) ≡ true → same_of (point_at r i) (point_at r (suc i)) ≡ true
repeated r i e = let z : suc i - 1 ≡ i = omega arith in rw z at e

module _ (r : List Float) (i : ℕ) where
  pub fate_first : i ≡ 0 → None ≡ fate_of r i
  unfolding fate_of goes_at
  fate_first e = rw (eq-eqb i 0 e)

  module _ (n : i ≡ 0 → ⊥) where
    goes_is : goes_at r i ≡ (repeats_at r i || trails_from r i)
    unfolding goes_at
    goes_is = rw (ne_eqb i 0 n)

    pub goes_run : repeats_at r i ≡ true → goes_at r i ≡ true
    goes_run h = rw (goes_is, h)

    pub goes_trailing : trails_from r i ≡ true → goes_at r i ≡ true
    goes_trailing h = goes_is ∙ or_last (repeats_at r i) (trails_from r i) h
      where
        or_last : (a b : Bool) → b ≡ true → (a || b) ≡ true
        or_last true b q = refl
        or_last false b q = q

    pub fate_run : repeats_at r i ≡ true → Some why_run ≡ fate_of r i
    unfolding fate_of why_of
    fate_run h = rw (goes_run h, h)

    pub fate_trailing : repeats_at r i ≡ false → trails_from r i ≡ true → Some why_trailing ≡ fate_of r i
    unfolding fate_of why_of
    fate_trailing h t = rw (goes_trailing t, h)

    pub fate_stays : repeats_at r i ≡ false → trails_from r i ≡ false → None ≡ fate_of r i
    unfolding fate_of
    fate_stays h t = rw (goes_is, h, t)

  -- one that goes and repeats none is one of those at the end
  pub goes_apart : goes_at r i ≡ true → repeats_at r i ≡ false → trails_from r i ≡ true
  unfolding goes_at
  goes_apart g h = rw h at (both (not (eqb i 0)) (repeats_at r i || trails_from r i) g).1

  pub stays_goes : stays_at r i ≡ false → goes_at r i ≡ true
  stays_goes h = go (goes_at r i) h
    where
      go : (b : Bool) → not b ≡ false → b ≡ true
      go true q = refl
      go false q = sym q

  pub goes_not : stays_at r i ≡ true → goes_at r i ≡ false
  goes_not h = go (goes_at r i) h
    where
      go : (b : Bool) → not b ≡ true → b ≡ false
      go true q = sym q
      go false q = refl

  -- and back
  pub is_going : {w : ℕ} → fate_of r i ≡ Some w → (goes_at r i ≡ true) × (w ≡ why_of r i)
  unfolding fate_of
  is_going {w} e = go (goes_at r i) refl
    where
      go : (b : Bool) → goes_at r i ≡ b → (b ≡ true) × (w ≡ why_of r i)
      go true q = (refl, cc (rw q at e))
      go false q = absurd (let s : None ≡ Some w = rw q at e in let z : ◌≡◌ {A = ℕ} 0 1 = cc in omega arith)

  pub is_staying : fate_of r i ≡ None → goes_at r i ≡ false
  unfolding fate_of
  is_staying e = go (goes_at r i) refl
    where
      go : (b : Bool) → goes_at r i ≡ b → b ≡ false
      go true q = absurd (let s : Some (why_of r i) ≡ None = rw q at e in let z : ◌≡◌ {A = ℕ} 0 1 = cc in omega arith)
      go false q = refl

  pub some_goes : is_some (fate_of r i) ≡ goes_at r i
  unfolding fate_of
  some_goes = go (goes_at r i)
    where
      go : (b : Bool) → is_some (cond b (Some (why_of r i)) None) ≡ b
      go true = refl
      go false = refl
