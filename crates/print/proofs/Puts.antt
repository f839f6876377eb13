-- Texts put into a room one after the other, byte by byte and digit by digit. Assumes nothing.
use Prim.Native.Nat.{ℕ, zero, suc, ◌+◌, ◌-◌, ◌/◌, ◌%◌, ◌≤◌, ◌<◌}
use mathlib.Core.Path.{◌≡◌, refl, sym, ap, subst, ◌∙◌}
use mathlib.Core.List.{List, [], ◌∷◌, ◌++◌, append_assoc, append-nil}
use native.Mathlib.Omega.{arith}
use native.Mathlib.Nat.{add-zero, min-le_right, mod-lt, not-suc-le-zero}
use native.Mathlib.Numerals.{add-one}
use lib.ListN.{length, take, set, length-append, length-take}
use lib.Seq.{take-suc-set}
use Rattle.print.specs.Text.{Put}
use Rattle.print.specs.Digits.{digit, digits}

-- one byte more
pub one : (l : List ℕ) (n b : ℕ) → n < length l → take (n + 1) (set l n b) ≡ take n l ++ (b ∷ [])
one l n b h = ap (λ (k : ℕ). take k (set l n b)) (add-one n) ∙ take-suc-set l n b h

-- no byte
pub nothing : (l : List ℕ) (at : ℕ) → take (at + 0) l ≡ take at l ++ []
nothing l at = ap (λ (n : ℕ). take n l) (add-zero at) ∙ sym (append-nil (take at l))

-- no text
pub empty : (room : List ℕ) (at : ℕ) → Put room at [] room at
empty room at = record { ends = sym (add-zero at); holds = sym (append-nil (take at room)) }

-- a text after a text
pub then : {a b c t u : List ℕ} {at m r : ℕ} → Put a at t b m → Put b m u c r → Put a at (t ++ u) c r
then {a} {b} {c} {t} {u} {at} p q = record {
  ends = omega (arith, length-append t u, p.ends, q.ends);
  holds = q.holds ∙ ap (λ (l : List ℕ). l ++ u) p.holds ∙ append_assoc (take at a) t u;
}

pub small : (n base : ℕ) → 0 < base → base ≤ 16 → n % base < 16
small n base h k = omega (arith, mod-lt n h)

-- a number digit by digit
pub digit_more : (room₀ room : List ℕ) (base at k n : ℕ) → 0 < k → at + k ≤ length room → take (at + (k - 1)) room ≡ take at room₀ ++ digits base (k - 1) (n / base)
    → take (at + k) (set room (at + (k - 1)) (digit (n % base))) ≡ take at room₀ ++ digits base k n
unfolding digits
digit_more room₀ room base at zero n p h e = absurd (not-suc-le-zero p)
digit_more room₀ room base at (suc k) n p h e =
    let q : suc k - 1 ≡ k = omega arith in
    let s : at + suc k ≡ (at + k) + 1 = omega arith in
    let d = digit (n % base) in
    ap (λ (j : ℕ). take (at + suc k) (set room (at + j) d)) q
    ∙ ap (λ (j : ℕ). take j (set room (at + k) d)) s
    ∙ one room (at + k) d (omega arith)
    ∙ ap (λ (l : List ℕ). l ++ (d ∷ [])) (ap (λ (j : ℕ). take (at + j) room) (sym q) ∙ e ∙ ap (λ (j : ℕ). take at room₀ ++ digits base j (n / base)) q)
    ∙ append_assoc (take at room₀) (digits base k (n / base)) (d ∷ [])

pub no_digits : (room : List ℕ) (base at k n : ℕ) → k ≤ 0 → take (at + k) room ≡ take at room ++ digits base k n
unfolding digits
no_digits room base at zero n h = nothing room at
no_digits room base at (suc k) n h = absurd (not-suc-le-zero h)

pub length_digits : (base k n : ℕ) → length (digits base k n) ≡ k
unfolding digits
length_digits base zero n = refl
length_digits base (suc k) n = omega (arith, length-append (digits base k (n / base)) (digit (n % base) ∷ []), length_digits base k (n / base))

-- digits are a text
pub digits_put : (room₀ room : List ℕ) (base at k w n : ℕ) → k ≡ w → take (at + k) room ≡ take at room₀ ++ digits base k n → Put room₀ at (digits base w n) room (at + k)
digits_put room₀ room base at k w n q e = record {
  ends = omega (arith, length_digits base w n);
  holds = e ∙ ap (λ (j : ℕ). take at room₀ ++ digits base j n) q;
}

-- the same text, said otherwise
pub reads : {a c t u : List ℕ} {at r : ℕ} → t ≡ u → Put a at t c r → Put a at u c r
reads {a} {c} {t} {u} {at} {r} e p = subst (λ (l : List ℕ). Put a at l c r) e p

-- a text from the front ends inside the room
pub within : {a c t : List ℕ} {r : ℕ} → Put a 0 t c r → r ≤ length c
within {a} {c} {t} {r} p = omega (arith, p.ends, ap length p.holds, length-take r c, min-le_right r (length c))
