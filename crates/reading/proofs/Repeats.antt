-- Where the starts i and i + p have one reading and every other start before i + p is beaten, the unbeaten starts lie a multiple
-- of p after i: the first of them is i, and the last lies (n - 1 - i) % p before the last of all. Assumes nothing.
use Prim.Native.Nat.{ℕ, zero, suc, ◌+◌, ◌-◌, ◌*◌, ◌/◌, ◌%◌, ◌<◌}
use native.Mathlib.Omega.{arith}
use native.Mathlib.Decide.{dec_lt}
use native.Mathlib.Nat.{mod-lt, mod-add-div'}
use mathlib.Core.Path.{◌≡◌, sym, ap, ◌∙◌}
use Rattle.reading.specs.Starts.{Beaten, Settled}
use Rattle.reading.proofs.Pushing.{beaten_like}

module _ (g : ℕ → ℕ) (n i p : ℕ) (s : Settled g n i (i + p)) where
  repeats : (q m : ℕ) → g (2 * (i + q * p) + m) ≡ g (2 * i + m)
  repeats zero m =
      let e : 2 * (i + 0 * p) + m ≡ 2 * i + m = omega arith in
      ap g e
  repeats (suc q) m =
      let e : 2 * (i + suc q * p) + m ≡ 2 * (i + p) + (2 * (q * p) + m) = omega arith in
      let z : 2 * i + (2 * (q * p) + m) ≡ 2 * (i + q * p) + m = omega arith in
      ap g e ∙ sym (s.again (2 * (q * p) + m)) ∙ ap g z ∙ repeats q m

  multiple : (q u m : ℕ) → u ≡ i + q * p → g (2 * u + m) ≡ g (2 * i + m)
  multiple q u m h = ap (λ (x : ℕ). g (2 * x + m)) h ∙ repeats q m

  -- d vertices on, too
  repeats_on : (q d u m : ℕ) → u ≡ i + d + q * p → g (2 * u + m) ≡ g (2 * (i + d) + m)
  repeats_on q d u m h =
      let e : 2 * u + m ≡ 2 * (i + q * p) + (2 * d + m) = omega arith in
      let z : 2 * i + (2 * d + m) ≡ 2 * (i + d) + m = omega arith in
      ap g e ∙ repeats q (2 * d + m) ∙ ap g z

  -- as long as it is no multiple
  between : (q d u : ℕ) → 0 < d → d < p → u ≡ i + d + q * p → Beaten g n u
  between q d u l h e =
      beaten_like g n (i + d) u (λ m. sym (repeats_on q d u m e)) (s.others (i + d) (omega arith) (λ z. omega arith))

  module _ (e : ℕ) (low : e < n) (unbeaten : Beaten g n e → ⊥) where
    pub first_low : i < n
    first_low = go (dec_lt e i)
      where
        go : Dec (e < i) → i < n
        go (yes l) = absurd (unbeaten (s.others e (omega arith) (λ z. omega arith)))
        go (no l) = omega arith

    pub first_unbeaten : Beaten g n i → ⊥
    first_unbeaten b = go (dec_lt e i) (dec_lt 0 ((e - i) % p))
      where
        q : ℕ
        q = (e - i) / p

        some : 0 < p
        some = omega (arith, s.order)

        at : ¬ (e < i) → e ≡ i + (e - i) % p + q * p
        at l = omega (arith, mod-add-div' (e - i) p)

        go : Dec (e < i) → Dec (0 < (e - i) % p) → ⊥
        go (yes l) d = unbeaten (s.others e (omega arith) (λ z. omega arith))
        go (no l) (yes d) = unbeaten (between q ((e - i) % p) e d (mod-lt (e - i) some) (at l))
        go (no l) (no d) =
            let z : e ≡ i + q * p = omega (arith, at l) in
            unbeaten (beaten_like g n i e (λ m. sym (multiple q e m z)) b)

    -- from the end
    left : n - 1 - i ≡ (n - 1 - i) % p + (n - 1 - i) / p * p
    left = sym (mod-add-div' (n - 1 - i) p)

    pub last_unbeaten : Beaten g n (n - 1 - (n - 1 - i) % p) → ⊥
    last_unbeaten b =
        let u = n - 1 - (n - 1 - i) % p in
        let e : u ≡ i + (n - 1 - i) / p * p = omega (arith, left, first_low) in
        first_unbeaten (beaten_like g n u i (λ m. multiple ((n - 1 - i) / p) u m e) b)

    pub last_others : (t : ℕ) → t < (n - 1 - i) % p → Beaten g n (n - 1 - t)
    last_others t h =
        let d = (n - 1 - i) % p in
        let some : 0 < p = omega (arith, s.order) in
        let m : d < p = mod-lt (n - 1 - i) some in
        between ((n - 1 - i) / p) (d - t) (n - 1 - t) (omega arith) (omega arith) (omega (arith, left, first_low))
