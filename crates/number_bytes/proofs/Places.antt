-- Numbers of four and of eight bytes in a list, byte by byte. Assumes nothing.
use Prim.Native.Nat.{ℕ, zero, suc, ◌+◌, ◌*◌, ◌≤◌}
use native.Mathlib.Omega.{arith}
use mathlib.Core.Path.{◌≡◌}
use mathlib.Core.List.{List, [], ◌∷◌, reverse}
use lib.ListN.{length, get_or, take, drop}
use Rattle.number_bytes.specs.Bytes.{number_of}

pub four : (f : List ℕ) (at : ℕ) → at + 4 ≤ length f
    → number_of (take 4 (drop at f)) ≡ get_or f at 0 + 256 * get_or f (at + 1) 0 + 65536 * get_or f (at + 2) 0 + 16777216 * get_or f (at + 3) 0
unfolding number_of
four [] at h = absurd (omega arith)
four (a ∷ []) zero h = absurd (omega arith)
four (a ∷ b ∷ []) zero h = absurd (omega arith)
four (a ∷ b ∷ c ∷ []) zero h = absurd (omega arith)
four (a ∷ b ∷ c ∷ d ∷ f) zero h = omega arith
four (a ∷ f) (suc at) h =
    let e1 : suc at + 1 ≡ suc (at + 1) = omega arith in
    let e2 : suc at + 2 ≡ suc (at + 2) = omega arith in
    let e3 : suc at + 3 ≡ suc (at + 3) = omega arith in
    rw (e1, e2, e3) (four f at (omega arith))

pub eight : (f : List ℕ) (at : ℕ) → at + 8 ≤ length f
    → number_of (take 8 (drop at f)) ≡ number_of (take 4 (drop at f)) + 4294967296 * number_of (take 4 (drop (at + 4) f))
unfolding number_of
eight [] at h = absurd (omega arith)
eight (a ∷ []) zero h = absurd (omega arith)
eight (a ∷ b ∷ []) zero h = absurd (omega arith)
eight (a ∷ b ∷ c ∷ []) zero h = absurd (omega arith)
eight (a ∷ b ∷ c ∷ d ∷ []) zero h = absurd (omega arith)
eight (a ∷ b ∷ c ∷ d ∷ e ∷ []) zero h = absurd (omega arith)
eight (a ∷ b ∷ c ∷ d ∷ e ∷ g ∷ []) zero h = absurd (omega arith)
eight (a ∷ b ∷ c ∷ d ∷ e ∷ g ∷ i ∷ []) zero h = absurd (omega arith)
eight (a ∷ b ∷ c ∷ d ∷ e ∷ g ∷ i ∷ j ∷ f) zero h = omega arith
eight (a ∷ f) (suc at) h =
    let e : suc at + 4 ≡ suc (at + 4) = omega arith in
    rw e (eight f at (omega arith))

-- ---- the highest byte first

pub big_four : (f : List ℕ) (at : ℕ) → at + 4 ≤ length f
    → number_of (reverse (take 4 (drop at f))) ≡ get_or f (at + 3) 0 + 256 * get_or f (at + 2) 0 + 65536 * get_or f (at + 1) 0 + 16777216 * get_or f at 0
unfolding number_of
big_four [] at h = absurd (omega arith)
big_four (a ∷ []) zero h = absurd (omega arith)
big_four (a ∷ b ∷ []) zero h = absurd (omega arith)
big_four (a ∷ b ∷ c ∷ []) zero h = absurd (omega arith)
big_four (a ∷ b ∷ c ∷ d ∷ f) zero h = omega arith
big_four (a ∷ f) (suc at) h =
    let e1 : suc at + 1 ≡ suc (at + 1) = omega arith in
    let e2 : suc at + 2 ≡ suc (at + 2) = omega arith in
    let e3 : suc at + 3 ≡ suc (at + 3) = omega arith in
    rw (e1, e2, e3) (big_four f at (omega arith))

pub big_eight : (f : List ℕ) (at : ℕ) → at + 8 ≤ length f
    → number_of (reverse (take 8 (drop at f))) ≡ number_of (reverse (take 4 (drop (at + 4) f))) + 4294967296 * number_of (reverse (take 4 (drop at f)))
unfolding number_of
big_eight [] at h = absurd (omega arith)
big_eight (a ∷ []) zero h = absurd (omega arith)
big_eight (a ∷ b ∷ []) zero h = absurd (omega arith)
big_eight (a ∷ b ∷ c ∷ []) zero h = absurd (omega arith)
big_eight (a ∷ b ∷ c ∷ d ∷ []) zero h = absurd (omega arith)
big_eight (a ∷ b ∷ c ∷ d ∷ e ∷ []) zero h = absurd (omega arith)
big_eight (a ∷ b ∷ c ∷ d ∷ e ∷ g ∷ []) zero h = absurd (omega arith)
big_eight (a ∷ b ∷ c ∷ d ∷ e ∷ g ∷ i ∷ []) zero h = absurd (omega arith)
big_eight (a ∷ b ∷ c ∷ d ∷ e ∷ g ∷ i ∷ j ∷ f) zero h = omega arith
big_eight (a ∷ f) (suc at) h =
    let e : suc at + 4 ≡ suc (at + 4) = omega arith in
    rw e (big_eight f at (omega arith))
